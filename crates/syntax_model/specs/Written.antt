-- Tokens as they are written (css-syntax-3, section 9; cssom-1, section 2.1), and the lists that read back.
use Rattle.std.specs.Prelude.{ℕ, ◌+◌, ◌/◌, ◌%◌, ◌==◌, nat_le, List, [], ◌∷◌, ◌++◌, length, drop, flat_map, codes}
use Rattle.std.specs.Prelude.{Bool, true, false, not, ◌&&◌, ◌||◌, if◌then◌else◌}
use Rattle.std.specs.List.{list_all}
use Rattle.base_model.specs.Ascii.{null, line_feed, space, hyphen, number_sign, delete}
use Rattle.base_model.specs.Ascii.{left_parenthesis, right_parenthesis, left_bracket, right_bracket, left_brace, right_brace}
use Rattle.base_model.specs.Ascii.{comma_sign, colon_sign, semicolon_sign}
use Rattle.base_model.specs.Lists.{is_nil}
use Rattle.base_model.specs.Text.{Characters, is_word}
use Rattle.syntax_model.specs.Signs.{quotation_mark, percent_sign, commercial_at, reverse_solidus}
use Rattle.syntax_model.specs.Letters.{begins, is_digit, is_e, is_name_char, is_quote}
use Rattle.syntax_model.specs.Preprocess.{is_clean}
use Rattle.syntax_model.specs.Token.{Token, TokenKind, ident, function, at_keyword, hash, string, bad_string, url}
use Rattle.syntax_model.specs.Token.{bad_url, delim}
use Rattle.syntax_model.specs.Token.{number, percentage, dimension, whitespace, cdo, cdc, colon, semicolon, comma}
use Rattle.syntax_model.specs.Token.{open_square, close_square, open_round, close_round, open_curly, close_curly}
use Rattle.syntax_model.specs.TokenKinds.{is_delim, is_white, begins_with, without_white}
use Rattle.syntax_model.specs.Numbers.{starts_number, number_len, is_integer}
use Rattle.syntax_model.specs.Pieces.{mark_production, production_at, mark_kind, starts_ident}

abbrev pub hex_digit : ℕ → ℕ
hex_digit d = if nat_le d 9 then 48 + d else 87 + d

-- a hexadecimal escape of an ASCII character: one or two digits, and one space
abbrev pub hex_escape : ℕ → Characters
hex_escape c =
    let digits = if nat_le 16 c then hex_digit (c / 16) ∷ hex_digit (c % 16) ∷ [] else hex_digit c ∷ [] in
    reverse_solidus ∷ digits ++ space ∷ []

-- U+0001 to U+001F, or U+007F
abbrev pub is_control : ℕ → Bool
is_control c = (nat_le 1 c && nat_le c 31) || (c == delete)

-- a character of a name, anywhere but in the first places
abbrev pub name_char_text : ℕ → Characters
name_char_text c =
    if is_name_char c then c ∷ []
    else if is_control c then hex_escape c
    else reverse_solidus ∷ c ∷ []

abbrev pub name_text : Characters → Characters
name_text name = flat_map name_char_text name

-- after a `-` in the first place: a digit is escaped
abbrev pub after_hyphen : Characters → Characters
after_hyphen [] = []
after_hyphen (c ∷ cs) = if is_digit c then hex_escape c ++ name_text cs else name_text (c ∷ cs)

-- an identifier: a digit in the first place, or in the second after `-`, is escaped, and so is a lone `-`
abbrev pub ident_text : Characters → Characters
ident_text [] = []
ident_text (c ∷ cs) =
    if is_digit c then hex_escape c ++ name_text cs
    else if (c == hyphen) && is_nil cs then reverse_solidus ∷ hyphen ∷ []
    else if c == hyphen then hyphen ∷ after_hyphen cs
    else name_text (c ∷ cs)

-- `e`, maybe a `-`, and a digit, which after a number would be its exponent
abbrev pub looks_like_exponent : Characters → Bool
looks_like_exponent [] = false
looks_like_exponent (c ∷ cs) =
    is_e c && (begins is_digit cs || (begins (λ d. d == hyphen) cs && begins is_digit (drop 1 cs)))

-- a unit after a number
abbrev pub unit_text : Characters → Characters
unit_text [] = []
unit_text (c ∷ cs) =
    if looks_like_exponent (c ∷ cs) then hex_escape c ++ name_text cs else ident_text (c ∷ cs)

-- a character of a string
abbrev pub string_char_text : ℕ → Characters
string_char_text c =
    if (c == quotation_mark) || (c == reverse_solidus) then reverse_solidus ∷ c ∷ []
    else if is_control c then hex_escape c
    else c ∷ []

-- a character of a url
abbrev pub url_char_text : ℕ → Characters
url_char_text c =
    if is_quote c || ((c == left_parenthesis) || ((c == right_parenthesis) || ((c == reverse_solidus)
    || ((c == space) || is_control c))))
    then hex_escape c
    else c ∷ []

-- The text of a token. A bad string and a bad url read as themselves too, but the line feed of the first is read once
-- more.
abbrev pub token_text : Token → Characters
token_text token = elim token.kind [
  | ident ↦ ident_text token.name
  | function ↦ ident_text token.name ++ left_parenthesis ∷ []
  | at_keyword ↦ commercial_at ∷ ident_text token.name
  | hash true ↦ number_sign ∷ ident_text token.name
  | hash false ↦ number_sign ∷ name_text token.name
  | string ↦ quotation_mark ∷ flat_map string_char_text token.name ++ quotation_mark ∷ []
  | bad_string ↦ quotation_mark ∷ line_feed ∷ []
  | url ↦ codes "url(" ++ flat_map url_char_text token.name ++ right_parenthesis ∷ []
  | bad_url ↦ codes "url(()"
  | delim c ↦ c ∷ []
  | number is_integer ↦ token.spelling
  | percentage ↦ token.spelling ++ percent_sign ∷ []
  | dimension is_integer ↦ token.spelling ++ unit_text token.name
  | whitespace ↦ space ∷ []
  | cdo ↦ codes "<!--"
  | cdc ↦ codes "-->"
  | colon ↦ colon_sign ∷ []
  | semicolon ↦ semicolon_sign ∷ []
  | comma ↦ comma_sign ∷ []
  | open_square ↦ left_bracket ∷ []
  | close_square ↦ right_bracket ∷ []
  | open_round ↦ left_parenthesis ∷ []
  | close_round ↦ right_parenthesis ∷ []
  | open_curly ↦ left_brace ∷ []
  | close_curly ↦ right_brace ∷ []
]

-- a token after which nothing can be taken for a part of it
abbrev pub ends_itself : TokenKind → Bool
ends_itself kind = elim kind [
  | ident ↦ false
  | at_keyword ↦ false
  | hash is_id ↦ false
  | number is_integer ↦ false
  | dimension is_integer ↦ false
  | delim c ↦ false
  | bad_string ↦ false
  | bad_url ↦ false
  | _ ↦ true
]

-- a token that can be taken for a part of no other before it
abbrev pub begins_itself : TokenKind → Bool
begins_itself kind = elim kind [
  | whitespace ↦ true
  | comma ↦ true
  | colon ↦ true
  | semicolon ↦ true
  | string ↦ true
  | open_square ↦ true
  | close_square ↦ true
  | close_round ↦ true
  | open_curly ↦ true
  | close_curly ↦ true
  | _ ↦ false
]

-- an empty comment stands between two tokens that would read as others without it
abbrev pub gap : TokenKind → List Token → Characters
gap kind [] = []
gap kind (next ∷ tokens) = if ends_itself kind || begins_itself next.kind then [] else codes "/**/"

unfoldable pub written : List Token → Characters
written [] = []
written (token ∷ tokens) = token_text token ++ gap token.kind tokens ++ written tokens

abbrev pub has_name : Token → Bool
has_name token = not (is_nil token.name)

abbrev pub says_nothing : Token → Bool
says_nothing token = is_nil token.name && is_nil token.spelling

-- the character is a token alone, and no mark of its own
abbrev pub is_delim_char : ℕ → Bool
is_delim_char c = elim (production_at (c ∷ [])) [ mark_production ↦ is_delim c (mark_kind c) | _ ↦ false ]

-- the text is one number, and an integer where it is to be one
abbrev pub is_number : Characters → Bool
is_number text = starts_number text && (number_len text == length text)

abbrev pub is_number_as : Bool → Characters → Bool
is_number_as integer text = is_number text && (if integer then is_integer text else not (is_integer text))

-- a bad string, a bad url or a `\` alone: what is written of one reads as something else
abbrev pub is_broken : TokenKind → Bool
is_broken bad_string = true
is_broken bad_url = true
is_broken (delim c) = c == reverse_solidus
is_broken kind = false

-- A token that some text reads as, and that reads back, unless preprocessing changes what is written of it. A bad
-- string, a bad url and a `\` alone are none.
abbrev pub is_sound : Token → Bool
is_sound token = elim token.kind [
  | ident ↦ has_name token && is_nil token.spelling
  | function ↦ has_name token && is_nil token.spelling
  | at_keyword ↦ has_name token && is_nil token.spelling
  | hash true ↦ has_name token && is_nil token.spelling
  | hash false ↦ has_name token && (not (starts_ident (name_text token.name)) && is_nil token.spelling)
  | string ↦ is_nil token.spelling
  | bad_string ↦ false
  | url ↦ is_nil token.spelling
  | bad_url ↦ false
  | delim c ↦ is_delim_char c && says_nothing token
  | number integer ↦ is_number_as integer token.spelling && is_nil token.name
  | percentage ↦ is_number token.spelling && is_nil token.name
  | dimension integer ↦ is_number_as integer token.spelling && has_name token
  | _ ↦ says_nothing token
]

-- no U+0000 is in the name
abbrev pub no_null : Characters → Bool
no_null name = list_all (λ c. not (c == null)) name

-- A token that a text has after preprocessing: its name holds no U+0000, and it is no delim of a character that
-- preprocessing changes.
abbrev pub is_clean_token : Token → Bool
is_clean_token token = no_null token.name && (elim token.kind [ delim c ↦ is_clean c | _ ↦ true ])

abbrev pub is_url_function : Token → Bool
is_url_function token = elim token.kind [ function ↦ is_word (codes "url") token.name | _ ↦ false ]

abbrev pub is_string : TokenKind → Bool
is_string string = true
is_string kind = false

abbrev pub is_bad_string : TokenKind → Bool
is_bad_string bad_string = true
is_bad_string kind = false

-- after the function `url` comes a string, with whitespace or none between
abbrev pub url_goes_on : Token → List Token → Bool
url_goes_on token tokens = if is_url_function token then begins_with is_string (without_white tokens) else true

abbrev pub urls_go_on : List Token → Bool
urls_go_on [] = true
urls_go_on (token ∷ tokens) = url_goes_on token tokens && urls_go_on tokens

-- what may follow a token: after whitespace no other, and after the function `url` a string, with whitespace or none
-- between
abbrev pub goes_before : Token → List Token → Bool
goes_before token tokens =
    if is_white token.kind then not (begins_with is_white tokens)
    else url_goes_on token tokens

-- whether the text of the tokens, preprocessed like any other, reads as tokens that say the same
unfoldable pub is_writable : List Token → Bool
is_writable [] = true
is_writable (token ∷ tokens) =
    (is_sound token && is_clean_token token) && (goes_before token tokens && is_writable tokens)
