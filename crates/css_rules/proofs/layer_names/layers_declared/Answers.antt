use Rattle.std.proofs.Common.{ap, ◌∙◌}
use Rattle.syntax_model.specs.Outside.{parts_between}
use Rattle.syntax_model.specs.TokenKinds.{is_comma}
use Rattle.css_tokens.proofs.SeparatedLemmas.{all_read, no_member}
use Rattle.css_rules.specs.Layers.{layer_named}
use Rattle.css_rules.specs.View.{context_of}
use Rattle.css_rules.proofs.LayerLemmas.{as_declared, layer_in}
use Rattle.css_rules.proofs.layer_names.layers_declared.Goals as goal

pub returns-in_default-2 : goal.returns-in_default-2
returns-in_default-2 c =
    let context = context_of c.args.context.now in
    no_member context_of (layer_in context) (parts_between is_comma c.args.prelude.now) c.next.new.self c.names.names _ c.names.list.items _ c.names.invariant
    (rw c.in-Some.is at c.in_ok-name.ensures) (c.in_ok-layer.ensures ∙ ap (layer_named context) c.trimmed.ensures) c.in_default-2.is
    ∙ as_declared context c.args.prelude.now

pub returns : goal.returns
returns c =
    let context = context_of c.args.context.now in
    all_read context_of (layer_in context) (parts_between is_comma c.args.prelude.now) c.names.names c.names.list.items c.names.invariant
    (rw c.in_default.is at c.in_ok-name.ensures)
    ∙ as_declared context c.args.prelude.now
