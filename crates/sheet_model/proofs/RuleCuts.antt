-- The block of each rule of a sheet is cut from its text as `CutLemmas` says.
use Rattle.std.proofs.Common.{◌≡◌, ℕ, zero, suc, List, [], ◌∷◌, ◌++◌, map, Bool, true, false, ◌&&◌, Option, Some, None, unwrap_or, refl, sym, ◌∙◌, subst, append_assoc}
use Rattle.std.specs.List.{AllByRecursion}
use Rattle.std.proofs.lemmas.Bool.{false≢true, cond_both}
use Rattle.base_model.specs.Lists.{is_nil}
use Rattle.base_model.specs.Text.{Characters}
use Rattle.layer_model.specs.Name.{part_limit}
use Rattle.syntax_model.specs.Token.{Token, TokenKind, string, bad_string, whitespace}
use Rattle.syntax_model.specs.TokenKinds.{is_at_keyword, is_open_curly, is_white}
use Rattle.syntax_model.specs.Brackets.{Bracket, curly, closed, closed_by, opened_by, open_past, is_shallow, with_opened, without_closed}
use Rattle.syntax_model.specs.LayersIn.{layers_declared, block_layer}
use Rattle.syntax_model.specs.Preprocess.{preprocessed}
use Rattle.syntax_model.specs.Rules.{Context, Head, qualified_head, at_head, Piece, qualified_rule, at_rule, Rule, style, layer, SheetEdition}
use Rattle.syntax_model.specs.RulesIn.{in_block, in_prelude, is_between_rules, is_last, pieces_in, with_block, without_block}
use Rattle.syntax_model.specs.SheetRules.{BlockReader, RulesFound, block_within, counted, in_layer, is_layer_name, no_context, piece_found, pieces_found, qualified_found, rules_in, sheet_rules_in, statement_found}
use Rattle.syntax_model.specs.TokensIn.{tokens_in}
use Rattle.syntax_model.proofs.UrlStrings.{is_quoted}
use Rattle.custom_model.proofs.CutLemmas.{OfText, of_text, of_text_before, of_text-closed, other_first}
use Rattle.base_model.proofs.Lists.{each-append}

-- a piece whose block, if it has one, is so
abbrev PieceOfText : Piece → Type 0
PieceOfText (qualified_rule prelude block) = OfText block
PieceOfText (at_rule name prelude None) = Unit
PieceOfText (at_rule name prelude (Some block)) = OfText block

abbrev Pieces : List Piece → Type 0
Pieces pieces = AllByRecursion PieceOfText pieces

without_block_of : (head : Head) (prelude : List Token) → Pieces (without_block head prelude)
without_block_of qualified_head prelude = tt
without_block_of (at_head name) prelude = (tt, tt)

with_block_of : (head : Head) (prelude block : List Token) → OfText block → PieceOfText (with_block head prelude block)
with_block_of qualified_head prelude block h = h
with_block_of (at_head name) prelude block h = h

-- what closes the brackets that are open is no string, and no whitespace
closing_other : (pending : List Bracket) (kind : TokenKind) → is_nil pending ≡ false → is_nil (with_opened (opened_by kind) (without_closed pending (closed_by kind))) ≡ true → (is_white kind ≡ false) × (is_quoted kind ≡ false)
closing_other pending whitespace open' ends = absurd (false≢true (sym open' ∙ ends))
closing_other pending string open' ends = absurd (false≢true (sym open' ∙ ends))
closing_other pending bad_string open' ends = absurd (false≢true (sym open' ∙ ends))
closing_other pending kind open' ends = (refl, refl)

-- what is read of tokens, in each state of the reader
record PiecesOf (tokens : List Token) : Type 0 where
  rules : (top : Bool) → Pieces (pieces_in top tokens)
  prelude : (top : Bool) (head : Head) (prelude : List Token) (pending : List Bracket) → Pieces (in_prelude top head prelude pending tokens)
  block : (top : Bool) (head : Head) (prelude block : List Token) (pending : List Bracket) → is_nil pending ≡ false → OfText (block ++ tokens) → Pieces (in_block top head prelude block pending tokens)

module _ (token : Token) (tokens : List Token) (h : OfText tokens) (later : PiecesOf tokens) where
  rules_more : (top : Bool) → Pieces (pieces_in top (token ∷ tokens))
  rules_more top =
      cond_both (is_between_rules top token.kind) _ _ Pieces (λ _. later.rules top)
      (λ _. cond_both (is_at_keyword token.kind) _ _ Pieces (λ _. later.prelude top (at_head token.name) [] [])
      (λ _. cond_both (is_open_curly token.kind) _ _ Pieces (λ _. later.block top qualified_head [] [] (curly ∷ []) refl h)
      (λ _. later.prelude top qualified_head (token ∷ []) (open_past [] token))))

  prelude_more : (top : Bool) (head : Head) (prelude : List Token) (pending : List Bracket) → Pieces (in_prelude top head prelude pending (token ∷ tokens))
  prelude_more top head prelude pending =
      cond_both (is_nil pending && is_last head token.kind) _ _ Pieces
      (λ _. each-append PieceOfText (without_block head prelude) (pieces_in top tokens) (without_block_of head prelude) (later.rules top))
      (λ _. cond_both (is_nil pending && is_open_curly token.kind) _ _ Pieces (λ _. later.block top head prelude [] (curly ∷ []) refl h)
      (λ _. later.prelude top head (prelude ++ token ∷ []) (open_past pending token)))

  block_more : (top : Bool) (head : Head) (prelude block : List Token) (pending : List Bracket) → is_nil pending ≡ false → OfText (block ++ token ∷ tokens) → Pieces (in_block top head prelude block pending (token ∷ tokens))
  block_more top head prelude block pending open' all =
      cond_both (is_nil (open_past pending token)) _ _ Pieces
      (λ ends. let other = closing_other pending token.kind open' ends in
      (with_block_of head prelude block (of_text_before block (token ∷ tokens) (other_first token tokens other.0 other.1) all), later.rules top))
      (λ goes. later.block top head prelude (block ++ token ∷ []) (open_past pending token) goes (subst OfText (sym (append_assoc block (token ∷ []) tokens)) all))

pieces_of : (tokens : List Token) → OfText tokens → PiecesOf tokens
pieces_of [] h = record {
  rules = λ top. tt;
  prelude = λ top head prelude pending. without_block_of head prelude;
  block = λ top head prelude block pending open' all. tt;
}
pieces_of (token ∷ tokens) h =
    let rest : OfText tokens = (h.0.1, h.1.1) in
    let later = pieces_of tokens rest in
    record { rules = rules_more token tokens rest later; prelude = prelude_more token tokens rest later; block = block_more token tokens rest later }

-- rules

abbrev pub RuleOfText : Rule → Type 0
RuleOfText (style rule) = OfText rule.block
RuleOfText (layer context) = Unit

abbrev Rules : List Rule → Type 0
Rules rules = AllByRecursion RuleOfText rules

layers_of : (contexts : List Context) → Rules (map layer contexts)
layers_of [] = tt
layers_of (context ∷ contexts) = (tt, layers_of contexts)

qualified_of : (context : Context) (prelude block : List Token) → OfText block → Rules (qualified_found context prelude block)
qualified_of context prelude block h = cond_both (is_shallow prelude) _ _ Rules (λ _. (h, tt)) (λ _. tt)

statement_of : (context : Context) (name : Characters) (prelude : List Token) → Rules (statement_found context name prelude)
statement_of context name prelude =
    cond_both (is_layer_name name) _ _ Rules (λ _. layers_of (unwrap_or (layers_declared context prelude) [])) (λ _. tt)

module _ (read : BlockReader) (good : (context : Context) (count : ℕ) (block : List Token) → OfText block → Rules (read context count block).rules) (edition : SheetEdition) where
  layer_of : (inner : Option Context) (count : ℕ) (block : List Token) → OfText block → Rules (in_layer read inner count block).rules
  layer_of None count block h = tt
  layer_of (Some inner) count block h = (tt, good inner count block h)

  piece_of : (context : Context) (count : ℕ) (piece : Piece) → PieceOfText piece → Rules (piece_found read edition context count piece).rules
  piece_of context count (qualified_rule prelude block) h = qualified_of context prelude block h
  piece_of context count (at_rule name prelude None) h = statement_of context name prelude
  piece_of context count (at_rule name prelude (Some block)) h =
      cond_both (is_layer_name name) _ _ (λ (f : RulesFound). Rules f.rules) (λ _. layer_of (block_layer edition count context prelude) (counted count prelude) block h) (λ _. tt)

  found_of : (context : Context) (count : ℕ) (pieces : List Piece) → Pieces pieces → Rules (pieces_found read edition context count pieces).rules
  found_of context count [] h = tt
  found_of context count (piece ∷ pieces) h =
      let first : RulesFound = piece_found read edition context count piece in
      each-append RuleOfText first.rules (pieces_found read edition context first.anonymous pieces).rules (piece_of context count piece h.0) (found_of context first.anonymous pieces h.1)

block_of : (levels : ℕ) (edition : SheetEdition) (context : Context) (count : ℕ) (block : List Token) → OfText block → Rules (block_within levels edition context count block).rules
block_of zero edition context count block h = tt
block_of (suc levels) edition context count block h =
    found_of (block_within levels edition) (block_of levels edition) edition context count (pieces_in false block) ((pieces_of block h).rules false)

-- the blocks of the rules of tokens
pub rules_of_text : (edition : SheetEdition) (tokens : List Token) → OfText tokens → AllByRecursion RuleOfText (rules_in edition tokens)
unfolding rules_in
rules_of_text edition tokens h =
    found_of (block_within part_limit edition) (block_of part_limit edition) edition no_context 0 (pieces_in true (closed tokens)) ((pieces_of (closed tokens) (of_text-closed tokens h)).rules true)

-- and of the rules of a sheet's text
pub sheet_rules_of_text : (edition : SheetEdition) (text : Characters) → AllByRecursion RuleOfText (sheet_rules_in edition text)
sheet_rules_of_text edition text = rules_of_text edition (tokens_in (preprocessed text)) (of_text text)
