-- The normal form of tokens, from the first that is no whitespace on.
use Rattle.std.proofs.Common.{◌≡◌, List, [], ◌∷◌, map, length, true, false, refl, sym, ap, ◌∙◌, arith}
use Rattle.std.specs.Prelude.{if◌then◌else◌}
use Rattle.syntax_model.specs.Token.{Token, said}
use Rattle.syntax_model.specs.TokenKinds as kinds
use Rattle.custom_model.specs.Value.{normal, spaced}

pub normal_from : (tokens left : List Token) (t : Token) (rest : List Token) → left ≡ kinds.without_white tokens → left ≡ t ∷ rest → normal (map said tokens) ≡ said t ∷ spaced false (map said rest)
normal_from tokens left t rest e f = from tokens (sym e ∙ f)
  where
    from : (tokens : List Token) → kinds.without_white tokens ≡ t ∷ rest → normal (map said tokens) ≡ said t ∷ spaced false (map said rest)
    from [] h = cc
    from (first ∷ tokens) h =
        elim (kinds.is_white first.kind) as (λ white. (if white then kinds.without_white tokens else first ∷ tokens) ≡ t ∷ rest → (if white then normal (map said tokens) else said first ∷ spaced false (map said tokens)) ≡ said t ∷ spaced false (map said rest)) [
          | true ↦ λ h. from tokens h
          | false ↦ λ h. let one : first ≡ t = cc in let others : tokens ≡ rest = cc in λ i. said (one i) ∷ spaced false (map said (others i))
        ] h

pub normal_none : (tokens left : List Token) → left ≡ kinds.without_white tokens → length left ≡ 0 → normal (map said tokens) ≡ []
normal_none tokens left e none = from tokens (omega (arith, ap length e))
  where
    from : (tokens : List Token) → length (kinds.without_white tokens) ≡ 0 → normal (map said tokens) ≡ []
    from [] h = refl
    from (first ∷ tokens) h =
        elim (kinds.is_white first.kind) as (λ white. length (if white then kinds.without_white tokens else first ∷ tokens) ≡ 0 → (if white then normal (map said tokens) else said first ∷ spaced false (map said tokens)) ≡ []) [
          | true ↦ λ h. from tokens h
          | false ↦ λ h. absurd (omega arith)
        ] h
