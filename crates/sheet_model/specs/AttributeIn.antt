-- What stands in the brackets of an attribute selector (selectors-4, sections 6 and 18).
use Rattle.std.specs.Prelude.{ℕ, List, [], ◌∷◌, Bool, true, false, if◌then◌else◌, Option, Some, None, codes}
use Rattle.base_model.specs.Ascii.{asterisk}
use Rattle.base_model.specs.Options.{◌>>=◌}
use Rattle.base_model.specs.Text.{Characters}
use Rattle.syntax_model.specs.Token.{Token, TokenKind}
use Rattle.syntax_model.specs.TokenKinds.{is_ident, is_delim, trimmed, without_white}
use Rattle.selector_model.specs.Selector.{AttributeOperator, equals, includes, dash_match, prefix, suffix, substring}
use Rattle.selector_model.specs.Selector.{Simple, attribute_selector, attribute_compares}
use Rattle.sheet_model.specs.SelectorTokens.{is_text, ident_at, named}

abbrev pub dollar_sign : ℕ
dollar_sign = 36

abbrev pub equals_sign : ℕ
equals_sign = 61

abbrev pub circumflex : ℕ
circumflex = 94

abbrev pub vertical_line : ℕ
vertical_line = 124

abbrev pub tilde : ℕ
tilde = 126

-- [ '~' | '|' | '^' | '$' | '*' ]
abbrev pub operator_by : TokenKind → Option AttributeOperator
operator_by kind =
    if is_delim tilde kind then Some includes
    else if is_delim vertical_line kind then Some dash_match
    else if is_delim circumflex kind then Some prefix
    else if is_delim dollar_sign kind then Some suffix
    else if is_delim asterisk kind then Some substring
    else None

-- what comes after '='
abbrev pub after_equals : List Token → Option (List Token)
after_equals [] = None
after_equals (first ∷ rest) = if is_delim equals_sign first.kind then Some rest else None

-- <attr-matcher> = [ '~' | '|' | '^' | '$' | '*' ]? '=', and what comes after it
abbrev pub matcher_at : List Token → Option (AttributeOperator × List Token)
matcher_at [] = None
matcher_at (first ∷ rest) =
    if is_delim equals_sign first.kind then Some (equals, rest)
    else do
      operator ← operator_by first.kind
      left ← after_equals rest
      Some (operator, left)

-- <string-token> | <ident-token>, and what comes after it
abbrev pub value_at : List Token → Option (Characters × List Token)
value_at [] = None
value_at (first ∷ rest) = if is_text first.kind then Some (first.name, rest) else None

-- <attr-modifier> = i | s: whether ASCII case counts
abbrev pub modifiers : List (Characters × Bool)
modifiers = (codes "i", false) ∷ (codes "s", true) ∷ []

-- <attr-modifier>?
abbrev pub modifier_in : List Token → Option Bool
modifier_in [] = Some true
modifier_in (first ∷ []) = if is_ident first.kind then named first.name modifiers else None
modifier_in tokens = None

-- what stands after the attribute's name
abbrev pub compared_in : Characters → List Token → Option Simple
compared_in name [] = Some (attribute_selector name)
compared_in name (first ∷ rest) = do
  matcher ← matcher_at (first ∷ rest)
  value ← value_at (without_white matcher.1)
  case_counts ← modifier_in (without_white value.1)
  Some (attribute_compares name matcher.0 value.0 case_counts)

-- <attribute-selector> = '[' <wq-name> ']' | '[' <wq-name> <attr-matcher> [ <string-token> | <ident-token> ]
-- <attr-modifier>? ']', in this profile without namespaces, with whitespace around its parts
unfoldable pub attribute_in : List Token → Option Simple
attribute_in tokens = do
  name ← ident_at (trimmed tokens)
  compared_in name.0 (without_white name.1)
