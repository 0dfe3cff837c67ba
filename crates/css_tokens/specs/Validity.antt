-- What is found of a value.
use Rattle.std.specs.Prelude.{◌≡◌, List, Bool, true, false, ◌||◌, if◌then◌else◌, Option, Some, None}
use Rattle.std.specs.List.{list_any}
use Rattle.syntax_model.specs.Token.{Said}
use Rattle.syntax_model.specs.TokenKinds.{is_white}
use Rattle.custom_model.specs.Value.{white_space}
use Rattle.custom_model.specs.Steps.{Step, token}
use Rattle.css_tokens.specs.declared.custom.value.Validity.{Validity}
use Rattle.css_tokens.specs.declared.custom.value.Validity.TheVariants as variant

-- whether a step is one of a `var()`
abbrev pub is_of_var : Step → Bool
is_of_var (token said) = false
is_of_var step = true

-- what is found of the steps that are left, after some that were of a `var()` or not
abbrev pub found_after : Bool → Option (List Step) → Validity
found_after refers None = variant.Invalid
found_after refers (Some steps) = if refers || list_any is_of_var steps then variant.Referring else variant.Plain

-- whether a value is valid, and whether it refers to a custom property

abbrev pub is_found_valid : Validity → Bool
is_found_valid variant.Invalid = false
is_found_valid found = true

abbrev pub is_found_referring : Validity → Bool
is_found_referring variant.Referring = true
is_found_referring found = false

-- in normal form whitespace is never doubled, and says no more than that it is whitespace
abbrev pub Fits : Bool → Said → Type 0
Fits pending said = is_white said.kind ≡ true → (pending ≡ false) × (said ≡ white_space)
