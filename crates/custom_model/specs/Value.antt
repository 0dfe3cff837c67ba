-- The values of custom properties (css-variables-1, section 2): lists of what tokens say, wherever they are.
use Rattle.std.specs.Prelude.{◌≡◌, ℕ, ◌-◌, ◌==◌, List, [], ◌∷◌, Bool, true, false, if◌then◌else◌, None, refl}
use Rattle.std.specs.Ordering.{nat_cmp}
use Rattle.std.specs.Cmp.Lexicographic.{slice_cmp}
use Rattle.std.specs.FinMap as map
use Rattle.std.specs.Coded.{Coded, code_by, coded×, coded_ℕ, coded_list}
use Rattle.base_model.specs.Ascii.{hyphen}
use Rattle.base_model.specs.Text.{Characters}
use Rattle.syntax_model.specs.Token.{Token, Said, TokenKind, ident, function, at_keyword, hash, string, bad_string, url}
use Rattle.syntax_model.specs.Token.{bad_url}
use Rattle.syntax_model.specs.Token.{delim, number, percentage, dimension, whitespace, cdo, cdc, colon, semicolon, comma}
use Rattle.syntax_model.specs.Token.{open_square, close_square, open_round, close_round, open_curly, close_curly}
use Rattle.syntax_model.specs.TokenKinds.{is_white}

abbrev pub CustomValue : Type 0
CustomValue = List Said

-- the value of each custom property that has one, by its name; names are in the order of their characters
abbrev pub CustomValues : Type 0
CustomValues = map.FinMap (slice_cmp nat_cmp) CustomValue

-- a name: two hyphens, and something after them
abbrev pub is_custom_name : Characters → Bool
is_custom_name (first ∷ second ∷ third ∷ rest) = if first == hyphen then second == hyphen else false
is_custom_name name = false

-- a token that says this, and is of no text
abbrev pub unplaced : Said → Token
unplaced token = record { kind = token.kind; name = token.name; spelling = token.spelling; span = None }

abbrev pub white_space : Said
white_space = record { kind = whitespace; name = []; spelling = [] }

-- the tokens after one that is no whitespace, or after such a one and whitespace: one token stands for each run of
-- whitespace between two others
abbrev pub spaced : Bool → List Said → List Said
spaced pending [] = []
spaced pending (token ∷ tokens) =
    if is_white token.kind then spaced true tokens
    else if pending then white_space ∷ token ∷ spaced false tokens
    else token ∷ spaced false tokens

-- without whitespace at both ends, and with one token for each run of it between
abbrev pub normal : List Said → List Said
normal [] = []
normal (token ∷ tokens) = if is_white token.kind then normal tokens else token ∷ spaced false tokens

-- how a proof tells two values apart

abbrev pub kind_case : TokenKind → ℕ × ℕ
kind_case kind = elim kind [
  | ident ↦ (0, 0)
  | function ↦ (1, 0)
  | at_keyword ↦ (2, 0)
  | hash true ↦ (3, 0)
  | hash false ↦ (4, 0)
  | string ↦ (5, 0)
  | bad_string ↦ (6, 0)
  | url ↦ (7, 0)
  | bad_url ↦ (8, 0)
  | delim c ↦ (9, c)
  | number true ↦ (10, 0)
  | number false ↦ (11, 0)
  | percentage ↦ (12, 0)
  | dimension true ↦ (13, 0)
  | dimension false ↦ (14, 0)
  | whitespace ↦ (15, 0)
  | cdo ↦ (16, 0)
  | cdc ↦ (17, 0)
  | colon ↦ (18, 0)
  | semicolon ↦ (19, 0)
  | comma ↦ (20, 0)
  | open_square ↦ (21, 0)
  | close_square ↦ (22, 0)
  | open_round ↦ (23, 0)
  | close_round ↦ (24, 0)
  | open_curly ↦ (25, 0)
  | close_curly ↦ (26, 0)
]

-- the kinds in the order of their cases
abbrev pub kind_among : ℕ → List TokenKind → TokenKind
kind_among place [] = ident
kind_among place (kind ∷ kinds) = if place == 0 then kind else kind_among (place - 1) kinds

abbrev pub kind_from_case : ℕ × ℕ → TokenKind
kind_from_case p = kind_among p.0
    (ident ∷ function ∷ at_keyword ∷ hash true ∷ hash false ∷ string ∷ bad_string ∷ url ∷ bad_url ∷ delim p.1
    ∷ number true ∷ number false ∷ percentage ∷ dimension true ∷ dimension false ∷ whitespace ∷ cdo ∷ cdc ∷ colon
    ∷ semicolon ∷ comma ∷ open_square ∷ close_square ∷ open_round ∷ close_round ∷ open_curly ∷ close_curly ∷ [])

pub kind_back : (kind : TokenKind) → kind_from_case (kind_case kind) ≡ kind
kind_back ident = refl
kind_back function = refl
kind_back at_keyword = refl
kind_back (hash true) = refl
kind_back (hash false) = refl
kind_back string = refl
kind_back bad_string = refl
kind_back url = refl
kind_back bad_url = refl
kind_back (delim c) = refl
kind_back (number true) = refl
kind_back (number false) = refl
kind_back percentage = refl
kind_back (dimension true) = refl
kind_back (dimension false) = refl
kind_back whitespace = refl
kind_back cdo = refl
kind_back cdc = refl
kind_back colon = refl
kind_back semicolon = refl
kind_back comma = refl
kind_back open_square = refl
kind_back close_square = refl
kind_back open_round = refl
kind_back close_round = refl
kind_back open_curly = refl
kind_back close_curly = refl

abbrev pub kind_code : Coded TokenKind
kind_code = code_by (ℕ × ℕ) (coded× coded_ℕ coded_ℕ) kind_case kind_from_case kind_back

abbrev pub said_code : Coded Said
said_code =
    code_by (TokenKind × (Characters × Characters))
    (coded× kind_code (coded× (coded_list coded_ℕ) (coded_list coded_ℕ)))
    (λ t. (t.kind, (t.name, t.spelling)))
    (λ p. record { kind = p.0; name = p.1.0; spelling = p.1.1 })
    (λ _. refl)

abbrev pub value_code : Coded CustomValue
value_code = coded_list said_code

abbrev pub values_code : Coded CustomValues
values_code = map.code (coded_list coded_ℕ) value_code
