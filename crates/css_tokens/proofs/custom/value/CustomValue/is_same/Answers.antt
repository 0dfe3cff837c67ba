use Rattle.std.proofs.Common.{map, sym, ap, ◌∙◌}
use Rattle.syntax_model.specs.Token.{said}
use Rattle.custom_model.specs.Value.{unplaced}
use Rattle.custom_model.proofs.Said.{said_unplaced}
use Rattle.css_tokens.proofs.custom.value.CustomValue.is_same.Goals as goal

pub returns : goal.returns
returns c = (
  λ h. sym (said_unplaced _) ∙ ap (map said) (sym c.tokens.ensures) ∙ c.are_same.ensures.0 h ∙ ap (map said) c.tokens-2.ensures ∙ said_unplaced _,
  λ e. c.are_same.ensures.1 (ap (map said) c.tokens.ensures ∙ ap (λ v. map said (map unplaced v)) e ∙ ap (map said) (sym c.tokens-2.ensures)),
)
