-- An+B (css-syntax-3, section 6).
use Rattle.std.specs.Prelude.{ℕ, ◌==◌, ℤ, pos, neg_ℤ, min, List, [], ◌∷◌, not, ◌&&◌, if◌then◌else◌}
use Rattle.std.specs.Prelude.{Option, Some, None, option_map, codes}
use Rattle.std.specs.Char.{to_ascii_lowercase}
use Rattle.std.specs.List.{list_all}
use Rattle.std.specs.Option.{option_or}
use Rattle.base_model.specs.Ascii.{hyphen}
use Rattle.base_model.specs.Lists.{is_nil}
use Rattle.base_model.specs.Options.{◌>>=◌}
use Rattle.base_model.specs.Text.{Characters}
use Rattle.syntax_model.specs.Signs.{plus_sign}
use Rattle.syntax_model.specs.Letters.{begins, is_digit, is_sign}
use Rattle.syntax_model.specs.Numbers.{after_sign, decimal_number, is_minus}
use Rattle.syntax_model.specs.Token.{Token}
use Rattle.syntax_model.specs.TokenKinds.{is_ident, is_delim, trimmed, without_white}
use Rattle.selector_model.specs.Selector.{AnB}
use Rattle.sheet_model.specs.SelectorTokens.{is_integer_number, is_integer_dimension, ident_at, named}
use Rattle.sheet_model.specs.ValueIn.{ident_in}

-- the greatest A and B
abbrev pub greatest_index : ℕ
greatest_index = 2_147_483_647

-- what digits say
abbrev pub size_of : Characters → ℕ
size_of digits = min greatest_index (decimal_number 0 digits)

-- what an integer says, which may have a sign
abbrev pub integer : Characters → ℤ
integer text = if is_minus text then neg_ℤ (pos (size_of (after_sign text))) else pos (size_of (after_sign text))

abbrev pub formula : ℤ → ℤ → AnB
formula a b = record { a = a; b = b }

-- <signless-integer>, and no more
abbrev pub signless_in : List Token → Option ℤ
signless_in (first ∷ []) =
    if is_integer_number first.kind && not (begins is_sign first.spelling) then Some (pos (size_of first.spelling))
    else None
signless_in tokens = None

-- B where it stands apart from `n`: nothing, <signed-integer>, or ['+' | '-'] <signless-integer>
abbrev pub apart_in : List Token → Option ℤ
apart_in [] = Some (pos 0)
apart_in (first ∷ rest) =
    if is_delim plus_sign first.kind then signless_in (without_white rest)
    else if is_delim hyphen first.kind then option_map neg_ℤ (signless_in (without_white rest))
    else if is_integer_number first.kind && (begins is_sign first.spelling && is_nil rest)
    then Some (integer first.spelling)
    else None

-- B after `n-`: the digits of the same word, or <signless-integer>
abbrev pub minus_in : Characters → List Token → Option ℤ
minus_in [] rest = option_map neg_ℤ (signless_in (without_white rest))
minus_in (d ∷ digits) rest =
    if list_all is_digit (d ∷ digits) && is_nil rest then Some (neg_ℤ (pos (size_of (d ∷ digits)))) else None

-- B after `n`, of which the word may have more
abbrev pub after_n : Characters → List Token → Option ℤ
after_n [] rest = apart_in (without_white rest)
after_n (c ∷ digits) rest = if c == hyphen then minus_in digits rest else None

-- B by the word that begins with `n`, and what comes after it
abbrev pub b_in : Characters → List Token → Option ℤ
b_in [] rest = None
b_in (c ∷ ending) rest = if to_ascii_lowercase c == 110 then after_n ending rest else None

-- A, the word after it, and what comes after that
pub record Head : Type 0 where
  pub a : ℤ
  pub word : Characters
  pub rest : List Token

abbrev pub head_of : ℤ → Characters → List Token → Head
head_of a word rest = record { a = a; word = word; rest = rest }

-- an identifier: A is 1, or -1 where a hyphen stands first
abbrev pub head_of_name : Characters → List Token → Head
head_of_name [] rest = head_of (pos 1) [] rest
head_of_name (c ∷ cs) rest = if c == hyphen then head_of (neg_ℤ (pos 1)) cs rest else head_of (pos 1) (c ∷ cs) rest

-- an integer with a unit, an identifier, or '+' and an identifier directly after it
abbrev pub head_at : List Token → Option Head
head_at [] = None
head_at (first ∷ rest) =
    if is_integer_dimension first.kind then Some (head_of (integer first.spelling) first.name rest)
    else if is_ident first.kind then Some (head_of_name first.name rest)
    else if is_delim plus_sign first.kind then option_map (λ name. head_of (pos 1) name.0 name.1) (ident_at rest)
    else None

-- A and B
abbrev pub linear_in : List Token → Option AnB
linear_in tokens = do
  found ← head_at tokens
  b ← b_in found.word found.rest
  Some (formula found.a b)

-- <integer>: B alone
abbrev pub integer_in : List Token → Option AnB
integer_in (first ∷ []) =
    if is_integer_number first.kind then Some (formula (pos 0) (integer first.spelling)) else None
integer_in tokens = None

abbrev pub formula_words : List (Characters × AnB)
formula_words = (codes "odd", formula (pos 2) (pos 1)) ∷ (codes "even", formula (pos 2) (pos 0)) ∷ []

-- odd | even
abbrev pub word_in : List Token → Option AnB
word_in tokens = do
  name ← ident_in tokens
  named name formula_words

-- <an-plus-b>, with whitespace around it
unfoldable pub an_plus_b_in : List Token → Option AnB
an_plus_b_in tokens =
    let found = trimmed tokens in option_or (word_in found) (option_or (integer_in found) (linear_in found))
