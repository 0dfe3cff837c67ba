-- One step of the reading of a value.
use Rattle.std.proofs.Common.{◌≡◌, List, [], ◌∷◌, map, length, true, false, ◌&&◌, refl, sym, ap, ◌∙◌, arith}
use Rattle.std.specs.Prelude.{if◌then◌else◌}
use Rattle.base_model.specs.Lists.{is_nil}
use Rattle.syntax_model.specs.Token.{Token, TokenKind, said}
use Rattle.custom_model.specs.Parts.{is_unfit, is_var}
use Rattle.syntax_model.specs.TokenKinds.{is_close_round}
use Rattle.custom_model.specs.Steps.{token, ends}
use Rattle.css_tokens.specs.Opened.{Opened, anywhere, beyond, brackets_in, finished, first_then, in_var, invalid, is_in_fallback, outside, steps_from}
use Rattle.base_model.proofs.Bools.{chosen}

pub at_end : (openers : Opened) (tokens : List Token) → length tokens ≡ 0 → steps_from anywhere openers (map said tokens) ≡ (if is_nil openers then finished else invalid)
unfolding steps_from
at_end openers [] e = refl
at_end openers (t ∷ tokens) e = absurd (omega arith)

module _ (openers : Opened) (tokens : List Token) (t : Token) (rest : List Token) (kind : TokenKind) (e : tokens ≡ t ∷ rest) (same : kind ≡ t.kind) where
  pub fallback_ends : (is_in_fallback openers && is_close_round kind) ≡ true
      → steps_from anywhere openers (map said tokens) ≡ first_then ends (steps_from anywhere (outside openers) (map said rest))
  unfolding steps_from
  fallback_ends h =
      ap (λ l. steps_from anywhere openers (map said l)) e ∙ chosen _ true (ap (λ k. is_in_fallback openers && is_close_round k) (sym same) ∙ h) _ _

  module _ (goes_on : (is_in_fallback openers && is_close_round kind) ≡ false) where
    at_first : steps_from anywhere openers (map said tokens) ≡ (if is_unfit (brackets_in openers) t.kind then invalid else if is_var (said t) then steps_from in_var openers (map said rest) else first_then (token (said t)) (steps_from anywhere (beyond openers t.kind) (map said rest)))
    unfolding steps_from
    at_first =
        ap (λ l. steps_from anywhere openers (map said l)) e ∙ chosen _ false (ap (λ k. is_in_fallback openers && is_close_round k) (sym same) ∙ goes_on) _ _

    pub is_invalid : is_unfit (brackets_in openers) kind ≡ true → steps_from anywhere openers (map said tokens) ≡ invalid
    is_invalid h = at_first ∙ chosen _ true (ap (is_unfit (brackets_in openers)) (sym same) ∙ h) _ _

    module _ (fits : is_unfit (brackets_in openers) kind ≡ false) where
      pub at_var : is_var (said t) ≡ true → steps_from anywhere openers (map said tokens) ≡ steps_from in_var openers (map said rest)
      at_var is = at_first ∙ (chosen _ false (ap (is_unfit (brackets_in openers)) (sym same) ∙ fits) _ _ ∙ chosen _ true is _ _)

      pub at_token : is_var (said t) ≡ false
          → steps_from anywhere openers (map said tokens) ≡ first_then (token (said t)) (steps_from anywhere (beyond openers kind) (map said rest))
      at_token is =
          at_first ∙ (chosen _ false (ap (is_unfit (brackets_in openers)) (sym same) ∙ fits) _ _ ∙ chosen _ false is _ _)
          ∙ ap (λ k. first_then (token (said t)) (steps_from anywhere (beyond openers k) (map said rest))) (sym same)
