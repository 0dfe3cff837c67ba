-- The piece that a text begins with: what its production says, and that it has a character and lies inside the text.
use Rattle.std.proofs.Common.{◌≡◌, ◌≢◌, ◌⊎◌, ℕ, ◌+◌, ◌<◌, ◌≤◌, true, eqb, ◌&&◌, ◌||◌, [], ◌∷◌, length, drop, refl, ap, arith, inl, inr}
use Rattle.std.specs.Prelude.{codes, not}
use Rattle.std.specs.List.{prefix_len}
use Rattle.std.proofs.lemmas.Bool.{cond_both, cond-true, and_parts, or_cases, or_left, or_right}
use Rattle.base_model.specs.Lists.{is_nil}
use Rattle.base_model.specs.Text.{Characters, is_word}
use Rattle.syntax_model.specs.Letters.{begins, is_blank, is_digit, is_name_char, is_name_start, is_quote}
use Rattle.syntax_model.specs.TextUnits.{Run, len_of, name_unit, said_of, starts_escape, url_unit}
use Rattle.syntax_model.specs.Numbers.{after_sign, digits_len, fraction_len, number_len, starts_fraction, starts_number, starts_unsigned}
use Rattle.syntax_model.specs.Token.{bad_url, bare, cdc, cdo, url, whitespace}
use Rattle.syntax_model.specs.Pieces.{Piece, Production, at_keyword_production, cdc_production, cdo_production, comment_production, hash_production, ident_production, mark_production}
use Rattle.syntax_model.specs.Pieces.{number_production, string_production, white_production, ident_piece, is_closing, is_line_feed, mark_kind, name_in, name_len, named, number_piece, piece_of, plain}
use Rattle.syntax_model.specs.Pieces.{production_at, production_len, quote_follows, starts_cdc, starts_cdo, starts_comment, starts_ident, starts_name, string_piece, url_piece}
use Rattle.syntax_model.specs.Reading.{IsComment, IsToken}
use Rattle.syntax_model.proofs.TextUnitLemmas.{IsFull, escape_full, name_fits, run_of_more}
pub use Rattle.syntax_model.proofs.TextUnitLemmas.{escape_some}
use Rattle.syntax_model.proofs.FormLemmas.{Takes, Tells, takes_span, tells_by, tells_character, tells_says}
use Rattle.syntax_model.proofs.PieceForms.{said_by, takes_cdc, takes_cdo, takes_comment, tells_at_keyword, tells_hash, tells_ident, tells_number, tells_numeric, tells_string}

-- What is true of each production where its condition holds is true of the production of a text.
pub production_any : (P : Production → Type 0) (c : ℕ) (cs : Characters)
    → (starts_comment (c ∷ cs) ≡ true → P comment_production) → (is_blank c ≡ true → P white_production) → (is_quote c ≡ true → P string_production)
    → (eqb c 35 ≡ true → starts_name cs ≡ true → P hash_production) → (starts_number (c ∷ cs) ≡ true → P number_production)
    → (starts_cdc (c ∷ cs) ≡ true → P cdc_production) → (starts_cdo (c ∷ cs) ≡ true → P cdo_production)
    → (eqb c 64 ≡ true → starts_ident cs ≡ true → P at_keyword_production) → (starts_ident (c ∷ cs) ≡ true → P ident_production)
    → P mark_production → P (production_at (c ∷ cs))
production_any P c cs comment white quoted hashed numeric is_cdc is_cdo at named mark =
    cond_both (starts_comment (c ∷ cs)) _ _ P comment (λ _.
    cond_both (is_blank c) _ _ P white (λ _.
    cond_both (is_quote c) _ _ P quoted (λ _.
    cond_both (eqb c 35 && starts_name cs) _ _ P (λ e. hashed (and_parts _ _ e).0 (and_parts (eqb c 35) _ e).1) (λ _.
    cond_both (starts_number (c ∷ cs)) _ _ P numeric (λ _.
    cond_both (starts_cdc (c ∷ cs)) _ _ P is_cdc (λ _.
    cond_both (starts_cdo (c ∷ cs)) _ _ P is_cdo (λ _.
    cond_both (eqb c 64 && starts_ident cs) _ _ P (λ e. at (and_parts _ _ e).0 (and_parts (eqb c 64) _ e).1) (λ _.
    cond_both (starts_ident (c ∷ cs)) _ _ P named (λ _. mark)))))))))

-- the comment, or the token, that a text begins with
pub takes_first_comment : (c : ℕ) (cs : Characters) → production_at (c ∷ cs) ≡ comment_production → Takes IsComment (c ∷ cs) (production_len (production_at (c ∷ cs)) c cs)
takes_first_comment c cs =
    production_any (λ production. production ≡ comment_production → Takes IsComment (c ∷ cs) (production_len production c cs)) c cs
    (λ e _. takes_comment c cs e) (λ _ e. cc) (λ _ e. cc) (λ _ _ e. cc) (λ _ e. cc) (λ _ e. cc) (λ _ e. cc) (λ _ _ e. cc) (λ _ e. cc) (λ e. cc)

-- where a production is not that of comments, its token takes so many characters, and says what its piece says
abbrev TellsToken : ℕ → Characters → Production → Type 0
TellsToken c cs production =
    production ≢ comment_production → Tells (IsToken production) (c ∷ cs) (said_by (piece_of production c cs)) (production_len production c cs)

pub tells_first : (c : ℕ) (cs : Characters) → TellsToken c cs (production_at (c ∷ cs))
tells_first c cs =
    production_any (TellsToken c cs) c cs
    (λ _ other. absurd (other refl))
    (λ _ _. tells_says (bare whitespace) (takes_span is_blank (c ∷ cs)))
    (λ _ _. tells_string c cs)
    (λ e _ _. tells_hash c cs e)
    (λ _ _. tells_numeric (c ∷ cs))
    (λ e _. tells_says (bare cdc) (takes_cdc (c ∷ cs) e))
    (λ e _. tells_says (bare cdo) (takes_cdo (c ∷ cs) e))
    (λ e _ _. tells_at_keyword c cs e)
    (λ _ _. tells_ident (c ∷ cs))
    (λ _. tells_by (λ (d : ℕ). bare (mark_kind d)) (tells_character c cs))

pub number_inside : (text : Characters) → number_len text ≤ length text
number_inside text = (tells_number text).takes.inside

pub unsigned_some : (text : Characters) → starts_unsigned text ≡ true → 0 < digits_len text + fraction_len (drop (digits_len text) text)
unsigned_some [] starts = cc
unsigned_some (c ∷ cs) starts =
    cond_both (is_digit c) (1 + digits_len cs) 0 (λ n. 0 < n + fraction_len (drop n (c ∷ cs))) (λ _. omega arith) (λ no.
    elim (or_cases (is_digit c) _ starts) [
      | inl digit ↦ cc
      | inr point ↦ rw (cond-true (starts_fraction (c ∷ cs)) (1 + digits_len cs) 0 point) (omega arith)
    ])

number_some : (text : Characters) → starts_number text ≡ true → 0 < number_len text
number_some text starts = omega (arith, unsigned_some (after_sign text) starts)

-- Where a name starts, its first unit has a character and says one, so the name has a character.
pub unit_full : (text : Characters) → starts_name text ≡ true → IsFull (name_unit text)
unit_full [] starts = cc
unit_full (c ∷ cs) starts =
    cond_both (is_name_char c) _ _ IsFull (λ _. record { some = omega arith; says = refl })
    (λ no. cond_both (starts_escape (c ∷ cs)) _ _ IsFull (λ _. escape_full cs)
    (λ none. elim (or_cases (is_name_char c) _ starts) [ inl is ↦ cc | inr is ↦ cc ]))

name_some : (text : Characters) → starts_name text ≡ true → 0 < name_len text
name_some text starts =
    let some : 0 < (name_unit text).taken = (unit_full text starts).some in
    omega (arith, some, ap (λ (r : Run). r.taken) (run_of_more name_unit name_fits text some))

pub ident_starts : (text : Characters) → starts_ident text ≡ true → starts_name text ≡ true
ident_starts [] starts = cc
ident_starts (c ∷ cs) starts =
    cond_both (eqb c 45) _ _ (λ b. b ≡ true → starts_name (c ∷ cs) ≡ true)
    (λ hyphen _. or_left (is_name_char c) _ (or_right (is_name_start c) _ (or_right (is_digit c) _ hyphen)))
    (λ _ yes. elim (or_cases (is_name_start c) _ yes) [
      | inl start ↦ or_left (is_name_char c) _ (or_left (is_name_start c) _ start)
      | inr escaped ↦ or_right (is_name_char c) _ escaped
    ]) starts

-- what is left after a url and the whitespace around it
abbrev url_rest : Characters → Characters
url_rest text =
    let body = drop (prefix_len is_blank text) text in
    let after = drop (len_of url_unit body) body in
    drop (prefix_len is_blank after) after

-- What is true of a good url and of a bad one, however long they are, is true of what comes after `url(`.
pub url_any : (P : Piece → Type 0) (before : ℕ) (text : Characters)
    → ((n : ℕ) → P (named url (said_of url_unit (drop (prefix_len is_blank text) text)) n)) → ((n : ℕ) → P (plain bad_url n)) → P (url_piece before text)
url_any P before text good bad =
    cond_both (is_nil (url_rest text) || begins is_closing (url_rest text)) _ _ P (λ _. good _) (λ _. bad _)

-- a comment, or the piece of a token
pub comment_or : (production : Production) → (production ≡ comment_production) ⊎ (production ≢ comment_production)
comment_or comment_production = inl refl
comment_or production = inr (λ e. cc)

-- so many characters are a piece of the text
pub record IsPart (text : Characters) (n : ℕ) : Type 0 where
  pub some : 0 < n
  pub inside : n ≤ length text

-- a piece has a character
abbrev IsSome : Piece → Type 0
IsSome piece = 0 < piece.length

string_some : (c : ℕ) (cs : Characters) → IsSome (string_piece c cs)
string_some c cs = cond_both (begins is_line_feed (drop _ cs)) _ _ IsSome (λ _. omega arith) (λ _. omega arith)

numeric_some : (text : Characters) → starts_number text ≡ true → IsSome (number_piece text)
numeric_some text starts =
    let some : 0 < number_len text = number_some text starts in
    let rest : Characters = drop (number_len text) text in
    cond_both (begins (λ c. eqb c 37) rest) _ _ IsSome (λ _. omega arith) (λ _. cond_both (starts_ident rest) _ _ IsSome (λ _. omega (arith, some)) (λ _. some))

ident_some : (text : Characters) → starts_ident text ≡ true → IsSome (ident_piece text)
ident_some text starts =
    let rest : Characters = drop (name_len text) text in
    cond_both (not (begins (λ c. eqb c 40) rest)) _ _ IsSome (λ _. name_some text (ident_starts text starts))
    (λ _. cond_both (is_word (codes "url") (name_in text) && not (quote_follows (drop 1 rest))) _ _ IsSome
    (λ _. cond_both (is_nil (url_rest (drop 1 rest)) || begins is_closing (url_rest (drop 1 rest))) _ _ IsSome (λ _. omega arith) (λ _. omega arith))
    (λ _. omega arith))

first_some : (c : ℕ) (cs : Characters) → 0 < production_len (production_at (c ∷ cs)) c cs
first_some c cs =
    production_any (λ production. 0 < production_len production c cs) c cs (λ _. omega arith)
    (λ e. omega (arith, cond-true (is_blank c) (1 + prefix_len is_blank cs) 0 e)) (λ _. string_some c cs) (λ _ _. omega arith)
    (λ e. numeric_some (c ∷ cs) e) (λ _. omega arith) (λ _. omega arith) (λ _ _. omega arith) (λ e. ident_some (c ∷ cs) e) (omega arith)

-- the piece that a text begins with
pub first_is : (c : ℕ) (cs : Characters) → IsPart (c ∷ cs) (production_len (production_at (c ∷ cs)) c cs)
first_is c cs = record {
  some = first_some c cs;
  inside = elim (comment_or (production_at (c ∷ cs))) [
    | inl comment ↦ (takes_first_comment c cs comment).inside
    | inr other ↦ (tells_first c cs other).takes.inside
  ];
}
