-- The normal form of a value.
use Rattle.std.proofs.Common.{◌≡◌, List, [], ◌∷◌, Bool, true, false, refl, ap, ◌∙◌}
use Rattle.std.specs.Prelude.{if◌then◌else◌}
use Rattle.syntax_model.specs.Token.{Said}
use Rattle.syntax_model.specs.TokenKinds.{is_white}
use Rattle.custom_model.specs.Value.{normal, spaced, white_space}
use Rattle.base_model.proofs.Bools.{chosen}

-- whitespace that was joined is joined
spaced_again : (pending : Bool) (tokens : List Said) → spaced false (spaced pending tokens) ≡ spaced pending tokens
spaced_again pending [] = refl
spaced_again pending (token ∷ tokens) =
    elim (is_white token.kind) as (λ white. is_white token.kind ≡ white → spaced false (if white then spaced true tokens else if pending then white_space ∷ token ∷ spaced false tokens else token ∷ spaced false tokens) ≡ (if white then spaced true tokens else if pending then white_space ∷ token ∷ spaced false tokens else token ∷ spaced false tokens)) [
      | true ↦ λ e. spaced_again true tokens
      | false ↦ λ e. elim pending as (λ pending. spaced false (if pending then white_space ∷ token ∷ spaced false tokens else token ∷ spaced false tokens) ≡ (if pending then white_space ∷ token ∷ spaced false tokens else token ∷ spaced false tokens)) [
        | true ↦ chosen _ false e _ _ ∙ ap (λ l. white_space ∷ token ∷ l) (spaced_again false tokens)
        | false ↦ chosen _ false e _ _ ∙ ap (λ l. token ∷ l) (spaced_again false tokens)
      ]
    ] refl

-- a value in normal form stays as it is
pub normal_again : (tokens : List Said) → normal (normal tokens) ≡ normal tokens
normal_again [] = refl
normal_again (token ∷ tokens) =
    elim (is_white token.kind) as (λ white. is_white token.kind ≡ white → normal (if white then normal tokens else token ∷ spaced false tokens) ≡ (if white then normal tokens else token ∷ spaced false tokens)) [
      | true ↦ λ e. normal_again tokens
      | false ↦ λ e. chosen _ false e _ _ ∙ ap (λ l. token ∷ l) (spaced_again false tokens)
    ] refl
