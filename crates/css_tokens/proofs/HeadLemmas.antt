-- The beginning of a `var()`, as the code reads it.
use Rattle.std.proofs.Common.{◌≡◌, ◌≤◌, suc, List, [], ◌∷◌, map, length, true, false, None, refl, sym, ap, ◌∙◌, arith}
use Rattle.std.specs.Prelude.{if◌then◌else◌}
use Rattle.base_model.specs.Text.{Characters}
use Rattle.syntax_model.specs.Token.{Token, TokenKind, close_round, said}
use Rattle.syntax_model.specs.TokenKinds as kinds
use Rattle.custom_model.specs.Parts.{is_name, without_white}
use Rattle.syntax_model.specs.TokenKinds.{is_close_round}
use Rattle.custom_model.specs.Steps.{alone, begins}
use Rattle.css_tokens.specs.Opened.{Opened, after_name, anywhere, first_then, in_var, invalid, steps_from}
use Rattle.css_tokens.proofs.OpenedLemmas.{named_from, named_is, var_from, var_is}
use Rattle.base_model.proofs.Bools.{chosen}

white_said : (tokens : List Token) → without_white (map said tokens) ≡ map said (kinds.without_white tokens)
white_said [] = refl
white_said (token ∷ tokens) =
    elim (kinds.is_white token.kind) as (λ white. (if white then without_white (map said tokens) else said token ∷ map said tokens) ≡ map said (if white then kinds.without_white tokens else token ∷ tokens)) [
      | true ↦ white_said tokens
      | false ↦ refl
    ]

-- what is read first after `var(`
pub at_name : (tokens left : List Token) → left ≡ kinds.without_white tokens → (openers : Opened) → steps_from in_var openers (map said tokens) ≡ var_from openers (map said left)
at_name tokens left e openers =
    var_is openers (map said tokens) ∙ ap (var_from openers) (white_said tokens ∙ sym (ap (map said) e))

-- and after the name
pub at_end : (name : Characters) (tokens left : List Token) → left ≡ kinds.without_white tokens → (openers : Opened) → steps_from (after_name name) openers (map said tokens) ≡ named_from openers name (map said left)
at_end name tokens left e openers =
    named_is openers name (map said tokens) ∙ ap (named_from openers name) (white_said tokens ∙ sym (ap (map said) e))

pub not_longer : (tokens left : List Token) → left ≡ kinds.without_white tokens → length left ≤ length tokens
not_longer tokens left e = omega (arith, ap length e, fewer tokens)
  where
    fewer : (tokens : List Token) → length (kinds.without_white tokens) ≤ length tokens
    fewer [] = omega arith
    fewer (token ∷ tokens) = elim (kinds.is_white token.kind) as (λ white. length (if white then kinds.without_white tokens else token ∷ tokens) ≤ suc (length tokens)) [
      | true ↦ omega (arith, fewer tokens)
      | false ↦ omega arith
    ]

nothing : (left : List Token) → length left ≡ 0 → left ≡ []
nothing [] e = refl
nothing (token ∷ left) e = absurd (omega arith)

-- no name is there
pub no_name : (tokens left : List Token) → left ≡ kinds.without_white tokens → length left ≡ 0 → (openers : Opened) → steps_from in_var openers (map said tokens) ≡ invalid
no_name tokens left e none openers = at_name tokens left e openers ∙ ap (λ l. var_from openers (map said l)) (nothing left none)

module _ (tokens left : List Token) (first : Token) (rest : List Token) (e : left ≡ kinds.without_white tokens) (l : left ≡ first ∷ rest) where
  pub other_name : is_name (said first) ≡ false → (openers : Opened) → steps_from in_var openers (map said tokens) ≡ invalid
  other_name h openers = at_name tokens left e openers ∙ (ap (λ l. var_from openers (map said l)) l ∙ chosen _ false h _ _)

  module _ (is : is_name (said first) ≡ true) where
    named : (openers : Opened) → steps_from in_var openers (map said tokens) ≡ steps_from (after_name first.name) openers (map said rest)
    named openers = at_name tokens left e openers ∙ (ap (λ l. var_from openers (map said l)) l ∙ chosen _ true is _ _)

    pub no_end : (right : List Token) → right ≡ kinds.without_white rest → length right ≡ 0 → (openers : Opened) → steps_from in_var openers (map said tokens) ≡ invalid
    no_end right r none openers =
        named openers ∙ (at_end first.name rest right r openers ∙ ap (λ l. named_from openers first.name (map said l)) (nothing right none))

    module _ (right : List Token) (end : Token) (behind : List Token) (r : right ≡ kinds.without_white rest) (m : right ≡ end ∷ behind) where
      ended : (openers : Opened) → steps_from in_var openers (map said tokens) ≡ (if is_close_round end.kind then first_then (alone first.name) (steps_from anywhere openers (map said behind)) else if kinds.is_comma end.kind then first_then (begins first.name) (steps_from anywhere (None ∷ openers) (map said behind)) else invalid)
      ended openers = named openers ∙ (at_end first.name rest right r openers ∙ ap (λ l. named_from openers first.name (map said l)) m)

      pub other_end : kinds.is_comma end.kind ≡ false → is_close_round end.kind ≡ false → (openers : Opened) → steps_from in_var openers (map said tokens) ≡ invalid
      other_end comma close openers = ended openers ∙ (chosen _ false close _ _ ∙ chosen _ false comma _ _)

      pub at_close : is_close_round end.kind ≡ true → (openers : Opened) → steps_from in_var openers (map said tokens) ≡ first_then (alone first.name) (steps_from anywhere openers (map said behind))
      at_close close openers = ended openers ∙ chosen _ true close _ _

      pub at_comma : kinds.is_comma end.kind ≡ true → (openers : Opened) → steps_from in_var openers (map said tokens) ≡ first_then (begins first.name) (steps_from anywhere (None ∷ openers) (map said behind))
      at_comma comma openers = ended openers ∙ (chosen _ false (no_close end.kind comma) _ _ ∙ chosen _ true comma _ _)
        where
          no_close : (kind : TokenKind) → kinds.is_comma kind ≡ true → is_close_round kind ≡ false
          no_close close_round h = cc
          no_close kind h = refl
