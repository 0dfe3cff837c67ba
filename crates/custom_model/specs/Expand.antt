-- What a value expands to, over values of the custom properties that it refers to (css-variables-1, section 3).
use Rattle.std.specs.Prelude.{◌≡◌, ℕ, nat_le, [], ◌∷◌, ◌++◌, length, if◌then◌else◌, Option, Some, None, option_map}
use Rattle.std.specs.Option.{option_or}
use Rattle.base_model.specs.Options.{◌>>=◌}
use Rattle.base_model.specs.Text.{Characters}
use Rattle.custom_model.specs.Value.{CustomValue, normal}
use Rattle.custom_model.specs.Parts.{Parts, done, plain, reference, with_fallback, parts}

-- the value of each custom property that has one
abbrev pub Lookup : Type 0
Lookup = Characters → Option CustomValue

-- how many tokens an expansion may have
abbrev pub token_limit : ℕ
token_limit = 4096

abbrev pub within_limit : CustomValue → Option CustomValue
within_limit tokens = if nat_le (length tokens) token_limit then Some tokens else None

abbrev pub joined : Option CustomValue → Option CustomValue → Option CustomValue
joined before behind = do
  front ← before
  back ← behind
  Some (front ++ back)

-- In the place of a `var()` is the value of its name, else the expanded fallback, else nothing has a value.
abbrev pub expand : Lookup → Parts → Option CustomValue
expand values done = Some []
expand values (plain token rest) = joined (Some (token ∷ [])) (expand values rest)
expand values (reference name rest) = joined (values name) (expand values rest)
expand values (with_fallback name fallback rest) =
    joined (option_or (values name) (option_map normal (expand values fallback))) (expand values rest)

-- its whitespace dropped and joined, and no longer than the limit
abbrev pub expanded : Lookup → Parts → Option CustomValue
expanded values read = do
  tokens ← expand values read
  within_limit (normal tokens)

-- what a value expands to; nothing where it is invalid
unfoldable pub expansion : Lookup → CustomValue → Option CustomValue
expansion values tokens = do
  read ← parts tokens
  expanded values read

-- a value that expands to itself, whatever other custom properties are: it is valid, refers to none of them, is in
-- normal form, and is no longer than the limit
abbrev pub IsPlain : CustomValue → Type 0
IsPlain value = (values : Lookup) → expansion values value ≡ Some value
