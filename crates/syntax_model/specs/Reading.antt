-- What a preprocessed text reads as, in the standard's terms (css-syntax-3, section 4.3). A relation on whole texts: it
-- says what is a piece and what the piece says, and computes neither a length nor a token.
use Rattle.std.specs.Prelude.{◌≡◌, ◌≢◌, ℕ, ◌+◌, ◌==◌, List, [], ◌∷◌, ◌++◌, length, drop, codes, Some}
use Rattle.std.specs.Prelude.{Bool, true, false, not, ◌&&◌, ◌||◌, ◌⊎◌, option_to_list}
use Rattle.std.specs.List.{AllByRecursion}
use Rattle.base_model.specs.Ascii.{asterisk, full_stop, hyphen, number_sign, left_parenthesis}
use Rattle.base_model.specs.Lists.{is_nil}
use Rattle.base_model.specs.Text.{Characters, is_word}
use Rattle.syntax_model.specs.Signs.{exclamation_mark, percent_sign, solidus, less_than_sign, greater_than_sign}
use Rattle.syntax_model.specs.Signs.{commercial_at}
use Rattle.syntax_model.specs.Letters.{begins, is_blank, is_digit, is_e, is_sign}
use Rattle.syntax_model.specs.TextUnits.{TextUnit, name_unit, string_unit, url_unit, remnant_unit, comment_unit}
use Rattle.syntax_model.specs.Numbers.{after_sign, starts_fraction}
use Rattle.syntax_model.specs.Token.{Token, Said, bare, with_name, with_number}
use Rattle.syntax_model.specs.Token.{ident, function, at_keyword, hash, string, bad_string, url, bad_url, number}
use Rattle.syntax_model.specs.Token.{percentage, dimension, whitespace, cdo, cdc}
use Rattle.syntax_model.specs.Pieces.{Production, at_keyword_production, cdc_production, cdo_production}
use Rattle.syntax_model.specs.Pieces.{comment_production, hash_production, ident_production, is_closing}
use Rattle.syntax_model.specs.Pieces.{is_line_feed, mark_kind, mark_production, number_production, quote_follows}
use Rattle.syntax_model.specs.Pieces.{production_at, starts_ident}
use Rattle.syntax_model.specs.Pieces.{string_production, white_production}

-- A form of pieces: it says of some characters, and of what comes after them, that they are a piece of the form there.
abbrev pub Form : Type 1
Form = Characters → Characters → Type 0

-- no character
abbrev pub IsNothing : Form
IsNothing piece rest = piece ≡ []

-- these characters
abbrev pub IsText : Characters → Form
IsText text piece rest = piece ≡ text

-- this character
abbrev pub IsCharacter : ℕ → Form
IsCharacter c = IsText (c ∷ [])

-- one character, which passes
abbrev pub IsOne : (ℕ → Bool) → Form
IsOne passes piece rest = (c : ℕ) × (piece ≡ c ∷ []) × (passes c ≡ true)

-- characters that pass, as many as there are: the next one, if any, doesn't
pub record IsSpan (passes : ℕ → Bool) (piece rest : Characters) : Type 0 where
  pub all : AllByRecursion (λ c. passes c ≡ true) piece
  pub stops : begins passes rest ≡ false

-- Units, as many as there are, which together say a text: the run ends where no unit begins; else its first characters
-- are a unit, and the others are a run.
pub data IsRun (unit : Characters → TextUnit) : Characters → Characters → Characters → Type 0 where
  run_end : (rest : Characters) → (unit rest).taken ≡ 0 → IsRun unit [] [] rest
  run_unit : (first more rest said : Characters)
      → first ≢ [] → (unit (first ++ (more ++ rest))).taken ≡ length first → IsRun unit said more rest
      → IsRun unit (option_to_list (unit (first ++ (more ++ rest))).said ++ said) (first ++ more) rest

-- such a run, whatever it says
abbrev pub IsUnits : (Characters → TextUnit) → Form
IsUnits unit piece rest = (said : Characters) × IsRun unit said piece rest

-- characters of one form, and then of another
pub record Then (First Second : Form) (piece rest : Characters) : Type 0 where
  pub before : Characters
  pub after : Characters
  pub joined : piece ≡ before ++ after
  pub first : First before (after ++ rest)
  pub second : Second after rest

-- characters of a form that says something, and then of the form that this asks for
abbrev pub ThenBy : {X : Type 0} → (X → Form) → (X → Form) → Form
ThenBy {X} First Second piece rest = (x : X) × Then (First x) (Second x) piece rest

-- of the first form where the text from here on passes, else of the second
abbrev pub Either : (Characters → Bool) → Form → Form → Form
Either passes Yes No piece rest =
    ((passes (piece ++ rest) ≡ true) × Yes piece rest) ⊎ ((passes (piece ++ rest) ≡ false) × No piece rest)

-- one character that passes, where there is one
abbrev pub IsOptional : (ℕ → Bool) → Form
IsOptional passes = Either (begins passes) (IsOne passes) IsNothing

-- nothing at the end of input, else these characters
abbrev pub IsClosedBy : Characters → Form
IsClosedBy text = Either is_nil IsNothing (IsText text)

-- `/*`, and up to `*/` or the end of input (section 4.3.2)
abbrev pub IsComment : Form
IsComment = Then (IsText (solidus ∷ asterisk ∷ [])) (Then (IsUnits comment_unit) (IsClosedBy (asterisk ∷ solidus ∷ [])))

-- pieces of a form, all of which say this
abbrev pub Says : {X : Type 0} → X → Form → X → Form
Says this Any x piece rest = (x ≡ this) × Any piece rest

-- pieces of a form that says something, which say what that means
abbrev pub SaysBy : {X Y : Type 0} → (X → Y) → (X → Form) → Y → Form
SaysBy {X} meaning Any y piece rest = (x : X) × Says (meaning x) (Any x) y piece rest

-- What follows the units of a string, which say its name. Before a line feed it is bad, and has no name; else it ends
-- with the quote that it began with, or at the end of input (section 4.3.5).
abbrev pub IsStringEnd : ℕ → Characters → Said → Form
IsStringEnd quote name said =
    Either (begins is_line_feed) (Says (bare bad_string) IsNothing said)
    (Says (with_name string name) (IsClosedBy (quote ∷ [])) said)

abbrev pub IsQuoted : ℕ → Said → Form
IsQuoted quote said = ThenBy (IsRun (string_unit quote)) (λ name. IsStringEnd quote name said)

abbrev pub IsString : Said → Form
IsString said = ThenBy IsCharacter (λ quote. IsQuoted quote said)

-- a name, and the token with this name (section 4.3.11)
abbrev pub IsName : (Characters → Said) → Said → Form
IsName token = SaysBy token (IsRun name_unit)

-- `#` and a name: of type id where an identifier starts there, else unrestricted (section 4.3.1)
abbrev pub IsHash : Said → Form
IsHash said =
    Then (IsCharacter number_sign)
    (Either starts_ident (IsName (with_name (hash true)) said) (IsName (with_name (hash false)) said))

-- `@` and a name
abbrev pub IsAtKeyword : Said → Form
IsAtKeyword said = Then (IsCharacter commercial_at) (IsName (with_name at_keyword) said)

-- A point and digits, where a digit follows the point. It says whether the number is an integer so far
-- (section 4.3.12).
abbrev pub IsFraction : Bool → Form
IsFraction whole =
    Either starts_fraction (Says false (Then (IsCharacter full_stop) (IsSpan is_digit)) whole)
    (Says true IsNothing whole)

-- `e` or `E`, maybe a sign, and digits, where a digit follows these
abbrev pub starts_exponent : Characters → Bool
starts_exponent text = begins is_e text && begins is_digit (after_sign (drop 1 text))

-- an exponent; without one the number is an integer if it was one so far
abbrev pub IsExponent : Bool → Bool → Form
IsExponent whole integer =
    Either starts_exponent (Says false (Then (IsOne is_e) (Then (IsOptional is_sign) (IsSpan is_digit))) integer)
    (Says whole IsNothing integer)

-- maybe a sign, digits, a fraction and an exponent; whether it is an integer
abbrev pub IsNumber : Bool → Form
IsNumber integer =
    Then (IsOptional is_sign) (Then (IsSpan is_digit) (ThenBy IsFraction (λ whole. IsExponent whole integer)))

-- what a number says: whether it is an integer, and how it is spelled
pub record Numeral : Type 0 where
  pub integer : Bool
  pub spelling : Characters

-- a number, whose characters are its spelling
pub record IsNumeral (numeral : Numeral) (piece rest : Characters) : Type 0 where
  pub spelled : numeral.spelling ≡ piece
  pub number : IsNumber numeral.integer piece rest

abbrev pub is_percent : ℕ → Bool
is_percent c = c == percent_sign

-- after a number: `%`, or the unit of a dimension where an identifier starts, or neither (section 4.3.3)
abbrev pub IsSuffix : Numeral → Said → Form
IsSuffix numeral said =
    Either (begins is_percent) (Says (with_number percentage numeral.spelling []) (IsOne is_percent) said)
    (Either starts_ident (IsName (with_number (dimension numeral.integer) numeral.spelling) said)
    (Says (with_number (number numeral.integer) numeral.spelling []) IsNothing said))

abbrev pub IsNumeric : Said → Form
IsNumeric said = ThenBy IsNumeral (λ numeral. IsSuffix numeral said)

-- nothing at the end of input, else `)`
abbrev pub IsClosing : Form
IsClosing = Either is_nil IsNothing (IsOne is_closing)

-- what is left of a bad url: up to the next `)` that is not escaped, or the end of input (section 4.3.14)
abbrev pub IsRemnant : Form
IsRemnant = Then (IsUnits remnant_unit) IsClosing

-- here is the end of input, or `)`
abbrev pub ends_well : Characters → Bool
ends_well text = is_nil text || begins is_closing text

-- After the units of a url, which say its text: whitespace, and `)` or the end of input. Where anything else is, the
-- url is bad, goes on, and has no text.
abbrev pub IsUrlEnd : Characters → Said → Form
IsUrlEnd text said =
    Then (IsSpan is_blank)
    (Either ends_well (Says (with_name url text) IsClosing said) (Says (bare bad_url) IsRemnant said))

-- after `url(`: whitespace, the url, and its end (section 4.3.6)
abbrev pub IsUrl : Said → Form
IsUrl said = Then (IsSpan is_blank) (ThenBy (IsRun url_unit) (λ text. IsUrlEnd text said))

-- the name is `url`, and after the `(` comes no quote
abbrev pub begins_url : Characters → Characters → Bool
begins_url name text = is_word (codes "url") name && not (quote_follows text)

-- after a name and `(`: the rest of a url, or nothing, where it is a function
abbrev pub IsOpened : Characters → Said → Form
IsOpened name said = Either (begins_url name) (IsUrl said) (Says (with_name function name) IsNothing said)

abbrev pub is_opening : ℕ → Bool
is_opening c = c == left_parenthesis

-- `(` and what comes after it, where `(` follows; else it is an identifier
abbrev pub IsAfterName : Characters → Said → Form
IsAfterName name said =
    Either (begins is_opening) (Then (IsOne is_opening) (IsOpened name said))
    (Says (with_name ident name) IsNothing said)

-- an identifier, a function or a url (section 4.3.4)
abbrev pub IsIdentLike : Said → Form
IsIdentLike said = ThenBy (IsRun name_unit) (λ name. IsAfterName name said)

-- The form of the tokens of a production that say this. A comment is no token.
abbrev pub IsToken : Production → Said → Form
IsToken comment_production = λ said piece rest. ⊥
-- whitespace, as much as there is
IsToken white_production = Says (bare whitespace) (IsSpan is_blank)
IsToken string_production = IsString
IsToken hash_production = IsHash
IsToken number_production = IsNumeric
-- `-->` and `<!--`
IsToken cdc_production = Says (bare cdc) (IsText (hyphen ∷ hyphen ∷ greater_than_sign ∷ []))
IsToken cdo_production = Says (bare cdo) (IsText (less_than_sign ∷ exclamation_mark ∷ hyphen ∷ hyphen ∷ []))
IsToken at_keyword_production = IsAtKeyword
IsToken ident_production = IsIdentLike
-- any other character
IsToken mark_production = SaysBy (λ c. bare (mark_kind c)) IsCharacter

-- a token that says this, with a text of so many characters from an offset on
abbrev pub token_at : ℕ → Said → ℕ → Token
token_at start says size = record {
  kind = says.kind;
  name = says.name;
  spelling = says.spelling;
  span = Some (record { start = start; end = start + size });
}

-- The text from an offset on is the join of pieces, each a comment or the text of one token: no earlier production fits
-- at its place, and before what follows it is a comment, or a token of its production that says what the token does.
pub data Reads : ℕ → Characters → List Token → Type 0 where
  nothing_left : (start : ℕ) → Reads start [] []
  skip_comment : (start c : ℕ) (cs piece rest : Characters) (tokens : List Token)
      → c ∷ cs ≡ piece ++ rest → production_at (c ∷ cs) ≡ comment_production → IsComment piece rest
      → Reads (start + length piece) rest tokens → Reads start (c ∷ cs) tokens
  take_token : (start c : ℕ) (cs piece rest : Characters) (says : Said) (tokens : List Token)
      → c ∷ cs ≡ piece ++ rest → IsToken (production_at (c ∷ cs)) says piece rest
      → Reads (start + length piece) rest tokens
      → Reads start (c ∷ cs) (token_at start says (length piece) ∷ tokens)

abbrev pub Reading : Characters → List Token → Type 0
Reading text tokens = Reads 0 text tokens
