-- Brackets as the digits of a number in base 4.
use Rattle.std.specs.Prelude.{ℕ, zero, suc, ◌/◌, ◌%◌, ◌==◌, List, [], ◌∷◌, if◌then◌else◌, Option, Some, None}
use Rattle.syntax_model.specs.Brackets.{Bracket, square, round, curly}

abbrev pub bracket_at : ℕ → Bracket
bracket_at digit = if digit == 1 then square else if digit == 2 then round else curly

-- those of so many digits at most, the last one first
abbrev pub brackets_of_digits : ℕ → ℕ → List Bracket
brackets_of_digits zero digits = []
brackets_of_digits (suc count) digits =
    if digits == 0 then [] else (bracket_at (digits % 4) ∷ brackets_of_digits count (digits / 4))

-- how many digits stand before the last one at most
unfoldable pub digits_before : ℕ
digits_before = 63

abbrev pub brackets_in : ℕ → List Bracket
brackets_in digits = brackets_of_digits (suc digits_before) digits

abbrev pub first_bracket : List Bracket → Option Bracket
first_bracket [] = None
first_bracket (innermost ∷ pending) = Some innermost
