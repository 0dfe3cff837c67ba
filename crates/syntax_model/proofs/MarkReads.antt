-- The written text of whitespace, of a mark and of a delim reads as it.
use Rattle.std.proofs.Common.{◌≡◌, ℕ, ◌+◌, Bool, true, false, cond, eqb, [], ◌∷◌, refl, sym, ap, ◌∙◌, arith, inl, inr}
use Rattle.std.specs.Prelude.{◌&&◌, ◌||◌, codes}
use Rattle.std.proofs.lemmas.Bool.{and_left, and_right, cases_Bool, cond_both, cond-false, eqb-true, false≢true, or_from, or_parts}
use Rattle.base_model.specs.Text.{Characters}
use Rattle.syntax_model.specs.Letters.{begins, is_blank, is_digit, is_quote, is_sign}
use Rattle.syntax_model.specs.Numbers.{starts_number, starts_unsigned}
use Rattle.syntax_model.specs.Token.{TokenKind, bare, cdc, cdo, close_curly, close_round, close_square, colon, comma, delim, open_curly, open_round, open_square, semicolon, whitespace}
use Rattle.syntax_model.specs.TokenKinds.{is_delim}
use Rattle.syntax_model.specs.Pieces.{Production, at_keyword_production, cdc_production, cdo_production, comment_production, hash_production, ident_production, mark_production, number_production}
use Rattle.syntax_model.specs.Pieces.{string_production, white_production, mark_kind, plain, production_at, starts_cdc, starts_cdo, starts_comment, starts_ident, starts_name}
use Rattle.syntax_model.specs.Written.{is_delim_char}
use Rattle.syntax_model.proofs.IdentLemmas.{cdc_first, cdc_second}
use Rattle.syntax_model.proofs.NamedReads.{no_ident_stays}
use Rattle.syntax_model.proofs.QuotedReads.{prefix_none}
use Rattle.syntax_model.proofs.ProductionLemmas.{cdo_first}
use Rattle.syntax_model.proofs.TokenEndLemmas.{EndsToken}
use Rattle.syntax_model.proofs.TokenReads.{ReadsOne, one_piece}

pub white_read : (rest : Characters) → begins is_blank rest ≡ false → ReadsOne (32 ∷ []) (bare whitespace) rest
white_read rest none =
    one_piece white_production refl (omega arith) refl (ap (λ (n : ℕ). plain whitespace (1 + n)) (prefix_none is_blank rest none))

pub cdo_read : (rest : Characters) → ReadsOne (codes "<!--") (bare cdo) rest
cdo_read rest = one_piece cdo_production refl (omega arith) refl refl

pub cdc_read : (rest : Characters) → ReadsOne (codes "-->") (bare cdc) rest
cdc_read rest = one_piece cdc_production refl (omega arith) refl refl

-- what can only be `-->`, `<!--` or a mark
abbrev dash_or_mark : Characters → Production
dash_or_mark text = cond (starts_cdc text) cdc_production (cond (starts_cdo text) cdo_production mark_production)

-- a mark is neither `-` nor `<`
module _ {c : ℕ} {kind : TokenKind} (rest : Characters) where
  pub mark_read : (eqb c 45 || eqb c 60) ≡ false → production_at (c ∷ rest) ≡ dash_or_mark (c ∷ rest) → mark_kind c ≡ kind → ReadsOne (c ∷ []) (bare kind) rest
  mark_read other at is =
      let parts = or_parts (eqb c 45) (eqb c 60) other in
      one_piece mark_production refl (omega arith) (at ∙ rw (cdc_first c rest parts.0, cdo_first c rest parts.1)) (ap (λ kind. plain kind 1) is)

-- what is true of each mark and of a delim is true of the token of one character
module _ (P : TokenKind → Type 0) (c : ℕ) (other : P (delim c)) where
  pub mark_any : P comma → P colon → P semicolon → P open_round → P close_round → P open_square → P close_square → P open_curly → P close_curly → P (mark_kind c)
  mark_any is_comma is_colon is_semicolon in_round out_round in_square out_square in_curly out_curly =
      cond_both (eqb c 44) _ _ P (λ _. is_comma) (λ _.
      cond_both (eqb c 58) _ _ P (λ _. is_colon) (λ _.
      cond_both (eqb c 59) _ _ P (λ _. is_semicolon) (λ _.
      cond_both (eqb c 40) _ _ P (λ _. in_round) (λ _.
      cond_both (eqb c 41) _ _ P (λ _. out_round) (λ _.
      cond_both (eqb c 91) _ _ P (λ _. in_square) (λ _.
      cond_both (eqb c 93) _ _ P (λ _. out_square) (λ _.
      cond_both (eqb c 123) _ _ P (λ _. in_curly) (λ _.
      cond_both (eqb c 125) _ _ P (λ _. out_curly) (λ _. other)))))))))

-- the last production
abbrev is_mark : Production → Bool
is_mark mark_production = true
is_mark production = false

-- where no production but the last fits, a test that comes before it fails
past : (b : Bool) (production next : Production) → is_mark production ≡ false → cond b production next ≡ mark_production → (b ≡ false) × (next ≡ mark_production)
past true production next other h = absurd (false≢true (sym other ∙ ap is_mark h))
past false production next other h = (refl, h)

-- a character that is read alone, before a text
pub record Alone (c : ℕ) (cs : Characters) : Type 0 where
  pub no_blank : is_blank c ≡ false
  pub no_quote : is_quote c ≡ false
  pub no_number : starts_number (c ∷ cs) ≡ false
  pub no_ident : starts_ident (c ∷ cs) ≡ false

pub alone : (c : ℕ) (cs : Characters) → production_at (c ∷ cs) ≡ mark_production → Alone c cs
alone c cs h =
    let comment = past (starts_comment (c ∷ cs)) comment_production _ refl h in
    let blank = past (is_blank c) white_production _ refl comment.1 in
    let quote = past (is_quote c) string_production _ refl blank.1 in
    let name = past (eqb c 35 && starts_name cs) hash_production _ refl quote.1 in
    let digits = past (starts_number (c ∷ cs)) number_production _ refl name.1 in
    let closing = past (starts_cdc (c ∷ cs)) cdc_production _ refl digits.1 in
    let opening = past (starts_cdo (c ∷ cs)) cdo_production _ refl closing.1 in
    let at = past (eqb c 64 && starts_ident cs) at_keyword_production _ refl opening.1 in
    let letters = past (starts_ident (c ∷ cs)) ident_production _ refl at.1 in
    record { no_blank = blank.0; no_quote = quote.0; no_number = digits.0; no_ident = letters.0 }

-- a production alone says that a character is a delim
production_is : (production : Production) (b : Bool) → elim production [ mark_production ↦ b | _ ↦ false ] ≡ true → (production ≡ mark_production) × (b ≡ true)
production_is mark_production b h = (refl, h)
production_is production b h = absurd (false≢true h)

kind_is : (c : ℕ) (kind : TokenKind) → is_delim c kind ≡ true → kind ≡ delim c
kind_is c (delim d) h = ap delim (eqb-true d c h)
kind_is c kind h = absurd (false≢true h)

delim_parts : (c : ℕ) → is_delim_char c ≡ true → (production_at (c ∷ []) ≡ mark_production) × (is_delim c (mark_kind c) ≡ true)
delim_parts c h = production_is (production_at (c ∷ [])) (is_delim c (mark_kind c)) h

pub delim_no_blank : (c : ℕ) → is_delim_char c ≡ true → is_blank c ≡ false
delim_no_blank c h = (alone c [] (delim_parts c h).0).no_blank

-- a character that begins no number before one text begins none before such another
pub no_number_before : (c : ℕ) (cs rest : Characters) → starts_unsigned rest ≡ false → begins is_digit rest ≡ false → starts_number (c ∷ cs) ≡ false → starts_number (c ∷ rest) ≡ false
no_number_before c cs rest unsigned digit h =
    elim (cases_Bool (is_sign c)) [
      | inl e ↦ rw e unsigned
      | inr e ↦ rw e (or_from _ _ (or_parts (is_digit c) _ (rw e at h)).0 (and_right _ _ digit))
    ]

cdo_second : (a : ℕ) (text : Characters) → begins (λ d. eqb d 33) text ≡ false → starts_cdo (a ∷ text) ≡ false
cdo_second a [] h = refl
cdo_second a (b ∷ []) h = refl
cdo_second a (b ∷ c ∷ []) h = refl
cdo_second a (b ∷ c ∷ d ∷ cs) h = and_right _ _ (and_left _ _ h)

pub mark_at : (c : ℕ) (rest : Characters) → Alone c [] → EndsToken rest → production_at (c ∷ rest) ≡ mark_production
mark_at c rest mark ends =
    cond-false _ _ _ (and_right _ _ ends.no_star)
    ∙ (cond-false _ _ _ mark.no_blank
    ∙ (cond-false _ _ _ mark.no_quote
    ∙ (cond-false _ _ _ (and_right _ _ ends.no_name_start)
    ∙ (cond-false _ _ _ (no_number_before c [] rest ends.no_unsigned ends.number.no_digit mark.no_number)
    ∙ (cond-false _ _ _ (cdc_second c rest ends.no_hyphen)
    ∙ (cond-false _ _ _ (cdo_second c rest ends.no_exclamation)
    ∙ (cond-false _ _ _ (and_right _ _ ends.no_ident)
    ∙ cond-false _ _ _ (no_ident_stays (c ∷ []) rest (omega arith) ends mark.no_ident))))))))

pub delim_read : (c : ℕ) (rest : Characters) → is_delim_char c ≡ true → EndsToken rest → ReadsOne (c ∷ []) (bare (delim c)) rest
delim_read c rest is ends =
    let parts = delim_parts c is in
    one_piece mark_production refl (omega arith) (mark_at c rest (alone c [] parts.0) ends) (ap (λ kind. plain kind 1) (kind_is c (mark_kind c) parts.1))
