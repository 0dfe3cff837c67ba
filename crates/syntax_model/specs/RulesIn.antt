-- The pieces of a list of rules and the declarations of a block (css-syntax-3, sections 5.4.1 to 5.4.6). These
-- functions are the definition of the cut.
use Rattle.std.specs.Prelude.{ℕ, zero, suc, List, [], ◌∷◌, ◌++◌, length, reverse, codes}
use Rattle.std.specs.Prelude.{Bool, true, false, ◌&&◌, ◌||◌, if◌then◌else◌, Option, Some, None}
use Rattle.std.specs.Option.{option_to_list}
use Rattle.base_model.specs.Lists.{is_nil}
use Rattle.base_model.specs.Options.{◌>>=◌}
use Rattle.base_model.specs.Text.{Characters, is_word}
use Rattle.syntax_model.specs.Signs.{exclamation_mark}
use Rattle.syntax_model.specs.Token.{Token, TokenKind}
use Rattle.syntax_model.specs.TokenKinds.{is_white, is_ident, is_at_keyword, is_delim, is_cdo, is_cdc, is_colon}
use Rattle.syntax_model.specs.TokenKinds.{is_semicolon}
use Rattle.syntax_model.specs.TokenKinds.{is_open_curly, is_close_curly, is_between, without_white, trimmed}
use Rattle.syntax_model.specs.Brackets.{Bracket, curly, open_past, closed, is_shallow}
use Rattle.syntax_model.specs.Outside.{up_to, from_first}
use Rattle.syntax_model.specs.Rules.{Declaration, Head, qualified_head, at_head, Piece, qualified_rule, at_rule}

-- skipped between rules: whitespace, and at the top level CDO and CDC
abbrev pub is_between_rules : Bool → TokenKind → Bool
is_between_rules top kind = is_white kind || (top && (is_cdo kind || is_cdc kind))

-- an at-rule may end with a semicolon; in a qualified rule it is a token like any other
abbrev pub is_last : Head → TokenKind → Bool
is_last qualified_head kind = false
is_last (at_head name) kind = is_semicolon kind

-- a rule that ends without a block: a qualified rule is dropped then
abbrev pub without_block : Head → List Token → List Piece
without_block qualified_head prelude = []
without_block (at_head name) prelude = at_rule name prelude None ∷ []

abbrev pub with_block : Head → List Token → List Token → Piece
with_block qualified_head prelude block = qualified_rule prelude block
with_block (at_head name) prelude block = at_rule name prelude (Some block)

-- What is read of a rule so far is its head and its prelude, or these and its block, with the brackets that are open.
-- The tokens are to be closed: the end inside a block gives nothing.
abbrev mutual
  -- a list of rules, at the top level or in a block (section 5.4.1)
  pub pieces_in : Bool → List Token → List Piece
  pieces_in top [] = []
  pieces_in top (token ∷ tokens) =
      if is_between_rules top token.kind then pieces_in top tokens
      else if is_at_keyword token.kind then in_prelude top (at_head token.name) [] [] tokens
      else if is_open_curly token.kind then in_block top qualified_head [] [] (curly ∷ []) tokens
      else in_prelude top qualified_head (token ∷ []) (open_past [] token) tokens

  -- an at-rule or a qualified rule before its block: outside brackets a `{` opens it (sections 5.4.2 and 5.4.3)
  pub in_prelude : Bool → Head → List Token → List Bracket → List Token → List Piece
  in_prelude top head prelude pending [] = without_block head prelude
  in_prelude top head prelude pending (token ∷ tokens) =
      if is_nil pending && is_last head token.kind then without_block head prelude ++ pieces_in top tokens
      else if is_nil pending && is_open_curly token.kind then in_block top head prelude [] (curly ∷ []) tokens
      else in_prelude top head (prelude ++ token ∷ []) (open_past pending token) tokens

  -- and in its block: the `}` that closes it ends the rule (section 5.4.8)
  pub in_block : Bool → Head → List Token → List Token → List Bracket → List Token → List Piece
  in_block top head prelude block pending [] = []
  in_block top head prelude block pending (token ∷ tokens) =
      if is_nil (open_past pending token) then with_block head prelude block ∷ pieces_in top tokens
      else in_block top head prelude (block ++ token ∷ []) (open_past pending token) tokens

abbrev pub is_important_word : Token → Bool
is_important_word token = is_ident token.kind && is_word (codes "important") token.name

-- what is before `!` at the end, if it is there; the tokens are in reverse order
abbrev pub before_mark : List Token → Option (List Token)
before_mark [] = None
before_mark (token ∷ tokens) = if is_delim exclamation_mark token.kind then Some tokens else None

-- what is before `!`, whitespace and `important` at the end, if they are there; the tokens are in reverse order
abbrev pub before_important : List Token → Option (List Token)
before_important [] = None
before_important (token ∷ tokens) = if is_important_word token then before_mark (without_white tokens) else None

-- a declaration, from its name and what is after the colon (section 5.4.6)
abbrev pub named_declaration : Characters → List Token → Declaration
named_declaration name tokens = elim (before_important (reverse (trimmed tokens))) [
  | Some before ↦ record { name = name; value = reverse (without_white before); important = true }
  | None ↦ record { name = name; value = trimmed tokens; important = false }
]

-- what is after a colon at the beginning, if it is there
abbrev pub after_colon : List Token → Option (List Token)
after_colon [] = None
after_colon (token ∷ tokens) = if is_colon token.kind then Some tokens else None

abbrev pub shallow_alone : Declaration → Option Declaration
shallow_alone declaration = if is_shallow declaration.value then Some declaration else None

-- the declaration that a piece is: a name, whitespace, a colon and a value (section 5.4.6)
abbrev pub declaration_in : List Token → Option Declaration
declaration_in [] = None
declaration_in (token ∷ tokens) =
    if is_ident token.kind then (do
      rest ← after_colon (without_white tokens)
      shallow_alone (named_declaration token.name rest))
    else None

-- whether an at-rule ends with a token: outside brackets with `;`, and with the `}` that closes its block
abbrev pub ends_at_rule : List Bracket → Token → Bool
ends_at_rule pending token =
    if is_nil pending then is_semicolon token.kind
    else is_close_curly token.kind && is_nil (open_past pending token)

-- what is after an at-rule, from its at-keyword on (section 5.4.2)
abbrev pub after_at_rule : List Bracket → List Token → List Token
after_at_rule pending [] = []
after_at_rule pending (token ∷ tokens) =
    if ends_at_rule pending token then tokens else after_at_rule (open_past pending token) tokens

-- The declarations of a list (section 5.4.5), in so many steps at most: whitespace and semicolons are skipped, at-rules
-- are dropped, and any other piece ends before the first semicolon outside brackets.
abbrev pub declarations_from : ℕ → List Token → List Declaration
declarations_from zero tokens = []
declarations_from (suc most) [] = []
declarations_from (suc most) (token ∷ tokens) =
    if is_between token.kind then declarations_from most tokens
    else if is_at_keyword token.kind then declarations_from most (after_at_rule [] tokens)
    else option_to_list (declaration_in (closed (up_to is_semicolon (token ∷ tokens))))
    ++ declarations_from most (from_first is_semicolon (token ∷ tokens))

unfoldable pub declarations_in : List Token → List Declaration
declarations_in tokens = declarations_from (length tokens) tokens
