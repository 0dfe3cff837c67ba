use Rattle.std.proofs.Common.{◌≡◌, IfOk, subst}
use Rattle.base_model.specs.Text.{Characters}
use Rattle.style_value.proofs.TextLemmas.{text_of_all}
use Rattle.style_value.proofs.style_text.values_text.Goals as goal

pub returns : goal.returns
returns c =
    subst (λ (whole : Characters). IfOk c.declarations.result (λ text. text ≡ whole)) (text_of_all c.args.columns.now _ c.printed-count.ensures.all c.printed-count.ensures.list) c.declarations.ensures
