-- After the function `url` in a text comes a string, with whitespace or none between: a bad one, if the text has such.
use Rattle.std.proofs.Common.{◌≡◌, ℕ, zero, suc, ◌+◌, ◌<◌, ◌≤◌, Bool, true, false, eqb, ◌&&◌, ◌||◌, List, [], ◌∷◌, ◌++◌, length, drop, refl, sym, ◌∙◌, arith, inl, inr, length-drop}
use Rattle.std.specs.Prelude.{codes, not}
use Rattle.std.specs.List.{list_all, prefix_len}
use Rattle.std.proofs.lemmas.Bool.{and_from, and_left, and_parts, cases_Bool, cond_both, cond-false, cond-true, false≢true, not-false}
use Rattle.std.proofs.lemmas.Bool.Decides.{nat_tests}
use Rattle.std.proofs.lemmas.List.{drop-drop}
use Rattle.base_model.specs.Text.{Characters, is_word}
use Rattle.syntax_model.specs.Letters.{begins, is_blank, is_quote}
use Rattle.syntax_model.specs.TextUnits.{len_of, string_unit}
use Rattle.syntax_model.specs.Numbers.{number_len}
use Rattle.syntax_model.specs.Token.{Token, TokenKind, function, string, bad_string}
use Rattle.syntax_model.specs.TokenKinds.{begins_with, is_white, without_white}
use Rattle.syntax_model.specs.Pieces.{Piece, Production, comment_production, ident_production, mark_production, number_production, string_production, white_production, ident_piece, is_line_feed}
use Rattle.syntax_model.specs.Pieces.{mark_kind, name_in, name_len, number_piece, piece_of, plain, quote_follows, production_at, production_len, production_tokens, starts_ident, string_piece}
use Rattle.syntax_model.specs.Pieces.{token_of, url_piece}
use Rattle.syntax_model.specs.TokensIn.{tokens_from, tokens_in}
use Rattle.syntax_model.specs.Written.{is_bad_string, is_string, is_url_function, urls_go_on}
use Rattle.syntax_model.proofs.PieceLemmas.{first_is, url_any}

abbrev NoBad : List Token → Type 0
NoBad tokens = list_all (λ token. not (is_bad_string token.kind)) tokens ≡ true

-- a string, or a bad one
abbrev pub is_quoted : TokenKind → Bool
is_quoted kind = is_string kind || is_bad_string kind

-- such a token comes, with whitespace or none before it
abbrev pub QuoteComes : List Token → Type 0
QuoteComes tokens = begins_with is_quoted (without_white tokens) ≡ true

-- one comes after each function `url`
abbrev pub QuotesFollow : List Token → Type 0
QuotesFollow [] = Unit
QuotesFollow (token ∷ tokens) = (is_url_function token ≡ true → QuoteComes tokens) × QuotesFollow tokens

-- quotes and blanks decide their productions
quote_production : (c : ℕ) (cs : Characters) → is_quote c ≡ true → production_at (c ∷ cs) ≡ string_production
quote_production c cs quote =
    cond-false _ _ _ (and_left (eqb c 47) _ (grind (arith, nat_tests)))
    ∙ (cond-false (is_blank c) _ _ (grind (arith, nat_tests)) ∙ cond-true _ _ _ quote)

blank_production : (c : ℕ) (cs : Characters) → is_blank c ≡ true → production_at (c ∷ cs) ≡ white_production
blank_production c cs blank = cond-false _ _ _ (and_left (eqb c 47) _ (grind (arith, nat_tests))) ∙ cond-true _ _ _ blank

string_first : (start c : ℕ) (cs : Characters) (more : List Token) → QuoteComes (token_of start (string_piece c cs) ∷ more)
string_first start c cs more =
    cond_both (begins is_line_feed (drop (len_of (string_unit c) cs) cs)) _ _ (λ (piece : Piece). QuoteComes (token_of start piece ∷ more)) (λ _. refl) (λ _. refl)

-- from a quote on
from_quote : (n start c : ℕ) (cs : Characters) → is_quote c ≡ true → QuoteComes (tokens_from (suc n) start (c ∷ cs))
from_quote n start c cs quote =
    rw (quote_production c cs quote) (string_first start c cs (tokens_from n (start + (string_piece c cs).length) (drop (string_piece c cs).length (c ∷ cs))))

-- from whitespace on, where a quote comes after it
past_white : (m start : ℕ) (rest : Characters) → length rest ≤ m → begins is_quote rest ≡ true → QuoteComes (tokens_from m start rest)
past_white m start [] h quote = absurd (false≢true quote)
past_white zero start (c ∷ cs) h quote = absurd (omega (arith, h))
past_white (suc m) start (c ∷ cs) h quote = from_quote m start c cs quote

white_first : (n start c : ℕ) (cs : Characters) → length (c ∷ cs) ≤ suc n → is_blank c ≡ true → quote_follows (c ∷ cs) ≡ true → QuoteComes (tokens_from (suc n) start (c ∷ cs))
white_first n start c cs h blank quote =
    let k : ℕ = prefix_len is_blank (c ∷ cs) in
    let some : 0 < k = omega (arith, cond-true (is_blank c) (1 + prefix_len is_blank cs) 0 blank) in
    rw (blank_production c cs blank) (past_white n (start + k) (drop k (c ∷ cs)) (omega (arith, h, some, length-drop k (c ∷ cs))) quote)

quote_after : (n start : ℕ) (text : Characters) → length text ≤ n → quote_follows text ≡ true → QuoteComes (tokens_from n start text)
quote_after n start [] h quote = absurd (false≢true quote)
quote_after zero start (c ∷ cs) h quote = absurd (omega (arith, h))
quote_after (suc n) start (c ∷ cs) h quote =
    elim (cases_Bool (is_blank c)) [
      | inl blank ↦ white_first n start c cs h blank quote
      | inr none ↦ from_quote n start c cs (rw none at quote)
    ]

-- what comes after a piece, where it is the function `url`
abbrev GoesOn : Characters → Piece → Type 0
GoesOn text piece = is_url_function (token_of 0 piece) ≡ true → quote_follows (drop piece.length text) ≡ true

-- the piece is another token
abbrev IsOther : Piece → Type 0
IsOther piece = is_url_function (token_of 0 piece) ≡ false

other_goes_on : (text : Characters) (piece : Piece) → IsOther piece → GoesOn text piece
other_goes_on text piece other url = absurd (false≢true (sym other ∙ url))

-- a token without a name is another
plain_other : (kind : TokenKind) (n : ℕ) → IsOther (plain kind n)
plain_other function n = refl
plain_other kind n = refl

string_other : (c : ℕ) (cs : Characters) → IsOther (string_piece c cs)
string_other c cs = cond_both (begins is_line_feed (drop (len_of (string_unit c) cs) cs)) _ _ IsOther (λ _. refl) (λ _. refl)

number_other : (text : Characters) → IsOther (number_piece text)
number_other text =
    let rest : Characters = drop (number_len text) text in
    cond_both (begins (λ c. eqb c 37) rest) _ _ IsOther (λ _. refl) (λ _. cond_both (starts_ident rest) _ _ IsOther (λ _. refl) (λ _. refl))

url_other : (before : ℕ) (text : Characters) → IsOther (url_piece before text)
url_other before text = url_any IsOther before text (λ _. refl) (λ _. refl)

ident_goes_on : (text : Characters) → GoesOn text (ident_piece text)
ident_goes_on text =
    let taken : ℕ = name_len text in
    let rest : Characters = drop taken text in
    cond_both (not (begins (λ c. eqb c 40) rest)) _ _ (GoesOn text) (λ _ url. absurd (false≢true url))
    (λ _. cond_both (is_word (codes "url") (name_in text) && not (quote_follows (drop 1 rest))) _ _ (GoesOn text)
    (λ _. other_goes_on text (url_piece (taken + 1) (drop 1 rest)) (url_other (taken + 1) (drop 1 rest)))
    (λ none url. rw (← drop-drop 1 taken text) (not-false _ (rw url at none))))

piece_goes_on : (c : ℕ) (cs : Characters) (production : Production) → GoesOn (c ∷ cs) (piece_of production c cs)
piece_goes_on c cs comment_production = other_goes_on (c ∷ cs) (plain (mark_kind c) 1) (plain_other (mark_kind c) 1)
piece_goes_on c cs string_production = other_goes_on (c ∷ cs) (string_piece c cs) (string_other c cs)
piece_goes_on c cs number_production = other_goes_on (c ∷ cs) (number_piece (c ∷ cs)) (number_other (c ∷ cs))
piece_goes_on c cs ident_production = ident_goes_on (c ∷ cs)
piece_goes_on c cs mark_production = other_goes_on (c ∷ cs) (plain (mark_kind c) 1) (plain_other (mark_kind c) 1)
piece_goes_on c cs production = λ url. absurd (false≢true url)

-- the token of a production, before those that are read from where its piece ends
module _ (n start c : ℕ) (cs : Characters) where
  abbrev left : Production → Characters
  left production = drop (production_len production c cs) (c ∷ cs)

  abbrev later : Production → List Token
  later production = tokens_from n (start + production_len production c cs) (left production)

  production_follows : (production : Production) → length (left production) ≤ n → QuotesFollow (later production) → QuotesFollow (production_tokens production start c cs ++ later production)
  production_follows comment_production inside follow = follow
  production_follows production inside follow =
      (λ url. quote_after n (start + production_len production c cs) (left production) inside (piece_goes_on c cs production url), follow)

quotes_from : (n start : ℕ) (text : Characters) → length text ≤ n → QuotesFollow (tokens_from n start text)
quotes_from zero start text h = tt
quotes_from (suc n) start [] h = tt
quotes_from (suc n) start (c ∷ cs) h =
    let production : Production = production_at (c ∷ cs) in
    let taken : ℕ = production_len production c cs in
    let inside : length (drop taken (c ∷ cs)) ≤ n = omega (arith, h, (first_is c cs).some, length-drop taken (c ∷ cs)) in
    production_follows n start c cs production inside (quotes_from n (start + taken) (drop taken (c ∷ cs)) inside)

-- In the tokens of a text, a string or a bad one follows each function `url`.
pub quotes_in : (text : Characters) → QuotesFollow (tokens_in text)
unfolding tokens_in
quotes_in text = quotes_from (length text) 0 text (omega arith)

-- without bad strings it is a string
quoted_string : (kind : TokenKind) → not (is_bad_string kind) ≡ true → is_quoted kind ≡ true → is_string kind ≡ true
quoted_string string good h = refl
quoted_string bad_string good h = absurd (false≢true good)
quoted_string kind good h = absurd (false≢true h)

string_comes : (tokens : List Token) → NoBad tokens → QuoteComes tokens → begins_with is_string (without_white tokens) ≡ true
string_comes [] bad h = h
string_comes (token ∷ tokens) bad h =
    let parts = and_parts (not (is_bad_string token.kind)) _ bad in
    elim (cases_Bool (is_white token.kind)) [
      | inl e ↦ rw e (string_comes tokens parts.1 (rw e at h))
      | inr e ↦ rw e (quoted_string token.kind parts.0 (rw e at h))
    ]

urls_by : (tokens : List Token) → NoBad tokens → QuotesFollow tokens → urls_go_on tokens ≡ true
urls_by [] bad follow = refl
urls_by (token ∷ tokens) bad follow =
    let rest : NoBad tokens = (and_parts (not (is_bad_string token.kind)) _ bad).1 in
    and_from _ _ (cond_both (is_url_function token) _ _ (λ b. b ≡ true) (λ url. string_comes tokens rest (follow.0 url)) (λ _. refl)) (urls_by tokens rest follow.1)

pub urls_go_on_in : (text : Characters) → NoBad (tokens_in text) → urls_go_on (tokens_in text) ≡ true
urls_go_on_in text bad = urls_by (tokens_in text) bad (quotes_in text)
