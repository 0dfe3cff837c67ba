use Rattle.std.proofs.Common.{ap, sym, ◌∙◌, get_or, ◌&&◌}
use Rattle.std.specs.Prelude.{nat_lt}
use Rattle.std.proofs.lemmas.List.{take_all}
use Rattle.std.proofs.lemmas.List.Folds.{list_all_more}
use Rattle.stylo_base.specs.Ascii.{is_all_ascii}
use Rattle.css_tokens.proofs.CharacterLemmas.{highest_more}
use Rattle.css_tokens.proofs.characters.are_ascii.Goals as goal

pub loop-byte-preserved : goal.loop-byte-preserved
loop-byte-preserved c =
    let d = get_or c.args.bytes.now c.loop-byte.byte-index 0 in
    ap (λ k. nat_lt k 128) c.max-highest.ensures
    ∙ (highest_more c.loop-byte.highest d
    ∙ (ap (λ b. b && nat_lt d 128) c.loop-byte.invariant
    ∙ sym (list_all_more (λ b. nat_lt b 128) c.args.bytes.now c.loop-byte.byte-index 0 c.loop-byte-test.true)))

pub returns : goal.returns
returns c = c.loop-byte.invariant ∙ ap is_all_ascii (take_all c.loop-byte.byte-index c.args.bytes.now c.loop-byte-test.false)
