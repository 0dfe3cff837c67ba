use Rattle.std.proofs.Common.{ap, ◌∙◌, refl}
use Rattle.std.specs.Prelude.{codes}
use Rattle.base_model.specs.Text.{ascii_lower, same_text}
use Rattle.stylo_base.proofs.TextLemmas.{chars-ascii}
use Rattle.css_rules.proofs.rule_parser.is_layer_name.Goals as goal

pub returns : goal.returns
returns c =
    c.eq_ascii_case.ensures.value
    ∙ (ap (λ name. same_text (ascii_lower name) _) c.as_str.ensures.characters
    ∙ ap (λ word. same_text (ascii_lower c.args.name.now) (ascii_lower word)) (chars-ascii (codes "layer") refl))
