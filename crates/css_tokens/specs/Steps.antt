-- What a reader of the parts of a value says next.
use Rattle.std.specs.Prelude.{◌≡◌, ℕ, ◌<◌, List, [], ◌∷◌, Option, Some, None, if◌then◌else◌, map, option_map}
use Rattle.syntax_model.specs.Token.{said}
use Rattle.css_tokens.specs.Opened.{Opened, Read, anywhere, first_then, invalid, steps_from}
use Rattle.css_tokens.specs.declared.custom.parts.VarHead.{VarHead}
use Rattle.custom_model.specs.Steps.{Step, token, alone, begins, ends}
use Rattle.css_tokens.specs.declared.custom.parts.PartStep.{PartStep}
use Rattle.css_tokens.specs.declared.custom.parts.PartStep.TheVariants as variant

-- the steps that are left, where the value is valid; those up to where it is bad; and how many of its tokens are left
pub record Left : Type 0 where
  pub steps : Option (List Step)
  pub front : List Step
  pub tokens : ℕ

-- a step is taken
pub record IsTaken (step : Step) (old new : Left) : Type 0 where
  pub first : old.steps ≡ option_map (λ rest. step ∷ rest) new.steps
  pub next : old.front ≡ step ∷ new.front
  pub fewer : new.tokens < old.tokens

-- no step is left
pub record IsAtEnd (steps : Option (List Step)) (old : Left) : Type 0 where
  pub known : old.steps ≡ steps
  pub next : old.front ≡ []

-- what is said of the steps that are left
abbrev pub IsNext : Left → PartStep → Left → Type 0
IsNext old (variant.Token t) new = IsTaken (token (said t.now)) old new
IsNext old (variant.Alone name) new = IsTaken (alone name.now) old new
IsNext old (variant.Begins name) new = IsTaken (begins name.now) old new
IsNext old variant.Ends new = IsTaken ends old new
IsNext old variant.Finished new = IsAtEnd (Some []) old
IsNext old variant.Invalid new = IsAtEnd None old

-- the steps behind the beginning of a `var()`
abbrev pub steps_behind : Opened → Option VarHead → Read
steps_behind openers None = invalid
steps_behind openers (Some head) =
    if head.has_fallback
    then first_then (begins head.name.now) (steps_from anywhere (None ∷ openers) (map said head.rest.now))
    else first_then (alone head.name.now) (steps_from anywhere openers (map said head.rest.now))
