use Rattle.std.proofs.Common.{sym, ap, ◌∙◌}
use Rattle.std.proofs.lemmas.Str.{chars-nil}
use Rattle.custom_model.specs.Printed.{custom_declarations}
use Rattle.style_value.specs.KeptText.{kept_text}
use Rattle.style_value.proofs.custom.Custom.text.Goals as goal

pub returns-in-None : goal.returns-in-None
returns-in-None c =
    chars-nil ∙ (sym (ap (λ text. kept_text text) c.in-None.is) ∙ (c.self.invariant ∙ ap custom_declarations c.self.view_is))
