use Rattle.std.proofs.Common.{ap, ◌∙◌, refl}
use Rattle.std.specs.Str.{chars}
use Rattle.std.proofs.lemmas.Str.{chars-nil}
use Rattle.property_table.specs.View.{value_seen}
use Rattle.style_value.proofs.TextLemmas.{printed_all, printed_first, printed_next}
use Rattle.style_value.proofs.style_text.declarations.Goals as goal

pub loop-id-init : goal.loop-id-init
loop-id-init c =
    printed_first _ _ _ (c.of_string-text.ensures ∙ (ap chars c.in_ok-with_capacity.ensures.bytes ∙ chars-nil))

pub loop-id-preserved : goal.loop-id-preserved
loop-id-preserved c =
    let old = c.loop-id.invariant in
    printed_next _ _ _ _ _ _ _ _ _ _ (value_seen c.value.result) c.loop-id-test.true refl c.value.ensures.value (c.in_ok-push_str.ensures.ascii old.ascii) c.in_ok-push_declaration.ensures refl old

pub returns : goal.returns
returns c = printed_all _ _ _ _ c.loop-id.id-index c.loop-id-test.false c.loop-id.invariant
