-- The tokens of a preprocessed text are clean: none holds U+0000, and none is a delim that preprocessing would change.
use Rattle.std.proofs.Common.{◌≡◌, ℕ, zero, suc, ◌+◌, Bool, true, false, eqb, [], ◌∷◌, length, take, drop, refl, sym, ap, ◌∙◌, take-append-drop}
use Rattle.std.specs.Prelude.{nat_le, ◌&&◌, ◌||◌, not, codes, option_to_list}
use Rattle.std.specs.List.{list_all, prefix_len}
use Rattle.std.proofs.lemmas.Bool.{and_from, and_parts, cond_both, not-true, not_from_false, or_from, or_parts}
use Rattle.std.proofs.lemmas.List.Folds.{list_all-append}
use Rattle.base_model.specs.Text.{Characters, is_word}
use Rattle.syntax_model.specs.Letters.{begins, is_blank, is_name_char}
use Rattle.syntax_model.specs.Preprocess.{is_clean, is_preprocessed, preprocessed, preprocessed_after}
use Rattle.syntax_model.specs.TextUnits.{Run, TextUnit, character_of, ends_url, escape, hex_len, hex_number, len_of, name_unit, run, starts_escape, string_escape, string_unit, url_unit}
use Rattle.syntax_model.specs.Numbers.{number_len}
use Rattle.syntax_model.specs.Pieces.{Piece, Production, at_keyword_production, hash_production, ident_production, mark_production, number_production, string_production, ident_piece, is_line_feed}
use Rattle.syntax_model.specs.Pieces.{mark_kind, name_in, name_len, number_piece, plain, quote_follows, production_at, production_tokens, starts_ident, string_piece, token_of, url_piece}
use Rattle.syntax_model.specs.TokensIn.{tokens_in}
use Rattle.syntax_model.specs.Written.{is_clean_token, no_null}
use Rattle.syntax_model.proofs.CleanLemmas.{IsClean}
use Rattle.syntax_model.proofs.MarkReads.{mark_any}
use Rattle.syntax_model.proofs.PieceLemmas.{url_any}
use Rattle.syntax_model.proofs.TokenReads.{all_tokens}

-- what is left of such a text is one
drop_clean : (n : ℕ) (text : Characters) → IsClean text → IsClean (drop n text)
drop_clean n text h =
    (and_parts (is_preprocessed (take n text)) _ (sym (list_all-append is_clean (take n text) (drop n text)) ∙ (ap is_preprocessed (take-append-drop n text) ∙ h))).1

not_null : (c : ℕ) → is_clean c ≡ true → not (eqb c 0) ≡ true
not_null c h = not_from_false _ (or_parts (eqb c 12) _ (or_parts (eqb c 13) _ (not-true _ h)).1).1

-- a unit says no U+0000
abbrev SaysNoNull : TextUnit → Type 0
SaysNoNull unit = no_null (option_to_list unit.said) ≡ true

character_not_null : (n : ℕ) → not (eqb (character_of n) 0) ≡ true
character_not_null n =
    cond_both (eqb n 0 || ((nat_le 0xd800 n && nat_le n 0xdfff) || nat_le 0x110000 n)) _ _ (λ k. not (eqb k 0) ≡ true) (λ _. refl) (λ h. not_from_false _ (or_parts (eqb n 0) _ h).0)

escape_not_null : (cs : Characters) → IsClean cs → SaysNoNull (escape cs)
escape_not_null [] h = refl
escape_not_null (c ∷ cs) h =
    cond_both (eqb (hex_len (c ∷ cs)) 0) _ _ SaysNoNull (λ _. and_from _ _ (not_null c (and_parts (is_clean c) _ h).0) refl)
    (λ _. and_from _ _ (character_not_null (hex_number 0 (take (hex_len (c ∷ cs)) (c ∷ cs)))) refl)

own_not_null : (c : ℕ) (cs : Characters) → IsClean (c ∷ cs) → (not (eqb c 0) && true) ≡ true
own_not_null c cs h = and_from _ _ (not_null c (and_parts (is_clean c) _ h).0) refl

rest_clean : (c : ℕ) (cs : Characters) → IsClean (c ∷ cs) → IsClean cs
rest_clean c cs h = (and_parts (is_clean c) _ h).1

name_not_null : (text : Characters) → IsClean text → SaysNoNull (name_unit text)
name_not_null [] h = refl
name_not_null (c ∷ cs) h =
    cond_both (is_name_char c) _ _ SaysNoNull (λ _. own_not_null c cs h)
    (λ _. cond_both (starts_escape (c ∷ cs)) _ _ SaysNoNull (λ _. escape_not_null cs (rest_clean c cs h)) (λ _. refl))

string_escape_not_null : (text : Characters) → IsClean text → SaysNoNull (string_escape text)
string_escape_not_null [] h = refl
string_escape_not_null (c ∷ cs) h = cond_both (eqb c 10) _ _ SaysNoNull (λ _. refl) (λ _. escape_not_null (c ∷ cs) h)

string_not_null : (quote : ℕ) (text : Characters) → IsClean text → SaysNoNull (string_unit quote text)
string_not_null quote [] h = refl
string_not_null quote (c ∷ cs) h =
    cond_both (eqb c quote || eqb c 10) _ _ SaysNoNull (λ _. refl)
    (λ _. cond_both (eqb c 92) _ _ SaysNoNull (λ _. string_escape_not_null cs (rest_clean c cs h)) (λ _. own_not_null c cs h))

url_not_null : (text : Characters) → IsClean text → SaysNoNull (url_unit text)
url_not_null [] h = refl
url_not_null (c ∷ cs) h =
    cond_both (starts_escape (c ∷ cs)) _ _ SaysNoNull (λ _. escape_not_null cs (rest_clean c cs h))
    (λ _. cond_both (ends_url c) _ _ SaysNoNull (λ _. refl) (λ _. own_not_null c cs h))

-- and so does a run of them
module _ (unit : Characters → TextUnit) (each : (text : Characters) → IsClean text → SaysNoNull (unit text)) where
  run_not_null : (n : ℕ) (text : Characters) → IsClean text → no_null (run unit n text).said ≡ true
  run_not_null zero text h = refl
  run_not_null (suc n) text h =
      let taken : ℕ = (unit text).taken in
      cond_both (eqb taken 0) _ _ (λ (r : Run). no_null r.said ≡ true) (λ _. refl)
      (λ _. list_all-append (λ c. not (eqb c 0)) (option_to_list (unit text).said) (run unit n (drop taken text)).said
      ∙ and_from _ _ (each text h) (run_not_null n (drop taken text) (drop_clean taken text h)))

pub name_in_clean : (text : Characters) → IsClean text → no_null (name_in text) ≡ true
name_in_clean text h = run_not_null name_unit name_not_null (length text) text h

-- what a piece says is clean
abbrev IsCleanPiece : Piece → Type 0
IsCleanPiece piece = is_clean_token (token_of 0 piece) ≡ true

string_clean : (c : ℕ) (cs : Characters) → IsClean cs → IsCleanPiece (string_piece c cs)
string_clean c cs h =
    cond_both (begins is_line_feed (drop (len_of (string_unit c) cs) cs)) _ _ IsCleanPiece (λ _. refl)
    (λ _. and_from _ _ (run_not_null (string_unit c) (string_not_null c) (length cs) cs h) refl)

number_clean : (text : Characters) → IsClean text → IsCleanPiece (number_piece text)
number_clean text h =
    let rest : Characters = drop (number_len text) text in
    cond_both (begins (λ c. eqb c 37) rest) _ _ IsCleanPiece (λ _. refl)
    (λ _. cond_both (starts_ident rest) _ _ IsCleanPiece (λ _. and_from _ _ (name_in_clean rest (drop_clean (number_len text) text h)) refl) (λ _. refl))

url_clean : (before : ℕ) (text : Characters) → IsClean text → IsCleanPiece (url_piece before text)
url_clean before text h =
    let body : Characters = drop (prefix_len is_blank text) text in
    url_any IsCleanPiece before text (λ _. and_from _ _ (run_not_null url_unit url_not_null (length body) body (drop_clean (prefix_len is_blank text) text h)) refl) (λ _. refl)

ident_clean : (text : Characters) → IsClean text → IsCleanPiece (ident_piece text)
ident_clean text h =
    let taken : ℕ = name_len text in
    let rest : Characters = drop taken text in
    cond_both (not (begins (λ c. eqb c 40) rest)) _ _ IsCleanPiece (λ _. and_from _ _ (name_in_clean text h) refl)
    (λ _. cond_both (is_word (codes "url") (name_in text) && not (quote_follows (drop 1 rest))) _ _ IsCleanPiece
    (λ _. url_clean (taken + 1) (drop 1 rest) (drop_clean 1 rest (drop_clean taken text h)))
    (λ _. and_from _ _ (name_in_clean text h) refl))

mark_clean : (c : ℕ) → is_clean c ≡ true → IsCleanPiece (plain (mark_kind c) 1)
mark_clean c h = mark_any (λ kind. IsCleanPiece (plain kind 1)) c h refl refl refl refl refl refl refl refl refl

module _ (start c : ℕ) (cs : Characters) (h : IsClean (c ∷ cs)) where
  abbrev named : (no_null (name_in cs) && true) ≡ true
  named = and_from _ _ (name_in_clean cs (rest_clean c cs h)) refl

  production_clean : (production : Production) → list_all is_clean_token (production_tokens production start c cs) ≡ true
  production_clean string_production = and_from _ _ (string_clean c cs (rest_clean c cs h)) refl
  production_clean hash_production = and_from _ _ named refl
  production_clean number_production = and_from _ _ (number_clean (c ∷ cs) h) refl
  production_clean at_keyword_production = and_from _ _ named refl
  production_clean ident_production = and_from _ _ (ident_clean (c ∷ cs) h) refl
  production_clean mark_production = and_from _ _ (mark_clean c (and_parts (is_clean c) _ h).0) refl
  production_clean production = refl

-- what is preprocessed is so
pub after_clean : (is_after_cr : Bool) (text : Characters) → is_preprocessed (preprocessed_after is_after_cr text) ≡ true
after_clean is_after_cr [] = refl
after_clean is_after_cr (c ∷ cs) =
    cond_both (eqb c 13) _ _ IsClean (λ _. after_clean true cs)
    (λ no_cr. cond_both (eqb c 10) _ _ IsClean (λ _. cond_both is_after_cr _ _ IsClean (λ _. after_clean false cs) (λ _. after_clean false cs))
    (λ _. cond_both (eqb c 12) _ _ IsClean (λ _. after_clean false cs)
    (λ no_ff. cond_both (eqb c 0) _ _ IsClean (λ _. after_clean false cs)
    (λ some. and_from _ _ (not_from_false _ (or_from _ _ no_cr (or_from _ _ no_ff some))) (after_clean false cs)))))

-- The tokens of a preprocessed text hold no U+0000 and are no delims that preprocessing would change.
pub text_tokens_clean : (text : Characters) → list_all is_clean_token (tokens_in (preprocessed text)) ≡ true
text_tokens_clean text =
    all_tokens is_clean_token IsClean drop_clean (λ start c cs h. production_clean start c cs h (production_at (c ∷ cs))) (preprocessed text) (after_clean false text)
