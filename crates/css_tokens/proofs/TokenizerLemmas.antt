-- The tokens of a text, as the code makes them.
use Rattle.std.proofs.Common.{◌≡◌, ◌≢◌, ℕ, ◌+◌, true, false, ◌<◌, ◌≤◌, List, [], ◌∷◌, ◌++◌, length, drop, refl, sym, ap, ◌∙◌, arith, inl, inr, length-drop}
use Rattle.std.proofs.lemmas.Bool.{cases_Bool, cond-false, cond-true, false≢true}
use Rattle.std.proofs.lemmas.List.{drop-drop, nil_from_length}
use Rattle.std.proofs.Math.ListN.{drop_of_length-le}
use Rattle.base_model.specs.Text.{Characters}
use Rattle.syntax_model.specs.Token.{Token}
use Rattle.syntax_model.specs.Pieces.{Piece, production_tokens, starts_comment, token_of}
use Rattle.syntax_model.specs.TokensIn.{tokens_from, tokens_in}
use Rattle.syntax_model.proofs.PieceLemmas.{first_is, production_any}
use Rattle.syntax_model.proofs.TokensLemmas.{tokens_at, tokens_more}
use Rattle.css_tokens.specs.Reader.{tokens_left}
use Rattle.css_tokens.specs.Scanned.{IsFirst, first_len, first_tokens, found_tokens, piece_of}
use Rattle.css_tokens.specs.declared.scan.Scan.{Scan}

-- the text is read from a place up to another, and no token is between them
pub record IsReadFrom (text : Characters) (place start : ℕ) (rest : Characters) : Type 0 where
  pub offset : start + length rest ≡ length text
  pub is_rest : rest ≡ drop start text
  pub same : tokens_left place text ≡ tokens_at start rest

pub read_none : (text : Characters) (place : ℕ) (rest : Characters) → place ≤ length text → rest ≡ drop place text → IsReadFrom text place place rest
read_none text place rest inside is =
    rw is record { offset = omega (arith, inside, length-drop place text); is_rest = refl; same = refl }

-- the first piece of a text
pub first_part : (text : Characters) → 0 < length text → (0 < first_len text) × (first_len text ≤ length text)
first_part [] some = absurd (omega (arith, some))
first_part (c ∷ cs) some = ((first_is c cs).some, (first_is c cs).inside)

tokens_on : (start : ℕ) (text : Characters) → 0 < length text → tokens_at start text ≡ first_tokens start text ++ tokens_at (start + first_len text) (drop (first_len text) text)
tokens_on start [] some = absurd (omega (arith, some))
tokens_on start (c ∷ cs) some = tokens_more start c cs

-- one piece more
pub read_more : (text : Characters) (place start : ℕ) (rest : Characters) (first : List Token) (n : ℕ) → IsReadFrom text place start rest → 0 < length rest → n ≡ first_len rest → first ≡ first_tokens start rest
    → tokens_left place text ≡ first ++ tokens_left (start + n) text
read_more text place start rest first n at some is_n is_first =
    let left : drop n rest ≡ drop (start + n) text = ap (drop n) at.is_rest ∙ drop-drop n start text in
    let more : tokens_at start rest ≡ first ++ tokens_at (start + n) (drop n rest) = rw (is_first, is_n) (tokens_on start rest some) in
    at.same ∙ (more ∙ ap (λ ts. first ++ tokens_at (start + n) ts) left)

-- a piece that is no token
pub read_past : (text : Characters) (place start : ℕ) (rest after : Characters) (n : ℕ) → IsReadFrom text place start rest → 0 < length rest → n ≡ first_len rest → n ≤ length rest → [] ≡ first_tokens start rest → after ≡ drop n rest → IsReadFrom text place (start + n) after
read_past text place start rest after n at some is_n inside none is_after =
    let left : drop n rest ≡ drop (start + n) text = ap (drop n) at.is_rest ∙ drop-drop n start text in
    rw is_after record {
      offset = omega (arith, at.offset, inside, length-drop n rest);
      is_rest = left;
      same = read_more text place start rest [] n at some is_n none ∙ ap (tokens_at (start + n)) (sym left);
    }

-- a comment is no token, and all else begins with one
pub comment_tokens : (text : Characters) → starts_comment text ≡ true → (start : ℕ) → [] ≡ first_tokens start text
comment_tokens [] h start = refl
comment_tokens (c ∷ cs) h start = ap (λ p. production_tokens p start c cs) (sym (cond-true _ _ _ h))

some_tokens : (text : Characters) → 0 < length text → starts_comment text ≡ false → (start : ℕ) → [] ≢ first_tokens start text
some_tokens [] some h start = absurd (omega (arith, some))
some_tokens (c ∷ cs) some h start =
    production_any (λ p. [] ≢ production_tokens p start c cs) c cs (λ e. absurd (false≢true (sym h ∙ e)))
    (λ _ e. cc) (λ _ e. cc) (λ _ _ e. cc) (λ _ e. cc) (λ _ e. cc) (λ _ e. cc) (λ _ _ e. cc) (λ _ e. cc) (λ e. cc)

pub is_token : (text : Characters) (scan : Scan) → 0 < length text → starts_comment text ≡ false → ((start : ℕ) → found_tokens start scan ≡ first_tokens start text) → scan.is_comment ≡ false
is_token text scan some none same = elim (cases_Bool scan.is_comment) [
  | inl e ↦ absurd (some_tokens text some none 0 (sym (cond-true _ _ _ e) ∙ same 0))
  | inr e ↦ e
]

-- what is left from a place on, where comments are passed
pub left_past : (text : Characters) (place start : ℕ) (rest : Characters) → IsReadFrom text place start rest → tokens_left place text ≡ tokens_left start text
left_past text place start rest at = at.same ∙ ap (tokens_at start) at.is_rest

-- the token that was found past comments, and what is left after it
pub scanned_left : (items text : Characters) (place start : ℕ) (rest : Characters) (scan : Scan) → text ≡ items → tokens_left place text ≡ tokens_left start text → start ≤ length text
    → rest ≡ drop start text → starts_comment (drop start text) ≡ false → 0 < length rest → scan.len ≡ first_len rest → ((start : ℕ) → found_tokens start scan ≡ first_tokens start rest)
    → tokens_left place items ≡ token_of start (piece_of scan) ∷ tokens_left (start + scan.len) items
scanned_left items text place start rest scan same past inside is no_comment some len tokens =
    let at = read_none text start rest inside is in
    let found : scan.is_comment ≡ false = is_token rest scan some (ap starts_comment is ∙ no_comment) tokens in
    rw (← same) (past ∙ read_more text start start rest _ _ at some len (sym (cond-false _ _ _ found) ∙ tokens start))

-- the first token, and what is left after it
pub record IsFirstLeft (items : Characters) (place : ℕ) (piece : Piece) : Type 0 where
  pub first : tokens_left place items ≡ token_of place piece ∷ tokens_left (place + piece.length) items
  pub inside : place + piece.length ≤ length items

pub first_left : (items text : Characters) (place : ℕ) (rest : Characters) (piece : Piece) → text ≡ items → place ≤ length items → rest ≡ drop place text → IsFirst piece rest → IsFirstLeft items place piece
first_left items text place rest piece same inside is first =
    let here : rest ≡ drop place items = is ∙ ap (drop place) same in
    let at = read_none items place rest inside here in
    let some : 0 < length rest = some_there rest (first.tokens place) in
    record {
      first = read_more items place place rest _ _ at some first.len (first.tokens place);
      inside = omega (arith, at.offset, first.len, (first_part rest some).1);
    }
  where
    some_there : (rest : Characters) → token_of place piece ∷ [] ≡ first_tokens place rest → 0 < length rest
    some_there [] e = cc
    some_there (c ∷ cs) e = omega arith

-- nothing is left
pub read_all : (text : Characters) (place start : ℕ) (rest : Characters) → IsReadFrom text place start rest → length rest ≡ 0 → tokens_left place text ≡ []
read_all text place start rest at empty = at.same ∙ ap (tokens_at start) (nil_from_length rest empty)

-- at the end
pub left_at_end : (text : Characters) (place : ℕ) → place ≡ length text → tokens_left place text ≡ []
left_at_end text place end = ap (λ rest. tokens_from (length rest) place rest) (drop_of_length-le text (omega (arith, end)))

pub left_at_start : (text : Characters) → tokens_left 0 text ≡ tokens_in text
unfolding tokens_in
left_at_start text = refl
