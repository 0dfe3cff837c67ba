-- Names, units of numbers, strings and urls, as they are written, are read back up to what is after them.
use Rattle.std.proofs.Common.{◌≡◌, ℕ, ◌<◌, true, false, eqb, [], ◌∷◌, ◌++◌, length, refl, sym, ap, arith, append_assoc, length-append}
use Rattle.std.specs.Prelude.{◌&&◌, ◌||◌, flat_map}
use Rattle.std.proofs.lemmas.Bool.{and_parts, cond_both, eqb-true, false≢true}
use Rattle.std.proofs.lemmas.Bool.Decides.{nat_tests}
use Rattle.std.proofs.lemmas.List.{drop_at}
use Rattle.base_model.specs.Lists.{is_nil}
use Rattle.base_model.specs.Text.{Characters}
use Rattle.syntax_model.specs.Letters.{is_digit, is_e}
use Rattle.syntax_model.specs.TextUnits.{TextUnit, name_unit, run_of, string_unit, url_unit}
use Rattle.syntax_model.specs.Written.{after_hyphen, hex_escape, ident_text, is_control, looks_like_exponent, name_char_text, name_text, string_char_text, unit_text, url_char_text}
use Rattle.syntax_model.proofs.TextUnitLemmas.{Fits, name_fits, run_of_more, run_of_none, string_fits, url_fits}
use Rattle.syntax_model.proofs.EscapeLemmas.{plain_escape}
use Rattle.syntax_model.proofs.CharacterLemmas.{AsOne, in_url, name_char, name_escape, string_char, url_char, written_char}

-- the text of a name, with no more of it after the text
abbrev pub ReadsRun : (Characters → TextUnit) → Characters → Characters → Characters → Type 0
ReadsRun unit text name rest = run_of unit (text ++ rest) ≡ record { taken = length text; said = name }

module _ (unit : Characters → TextUnit) (fits : Fits unit) where
  -- one character more
  run_onto : (w : Characters) (c : ℕ) → AsOne unit w c → 0 < length w → (text name rest : Characters) → ReadsRun unit text name rest
      → ReadsRun unit (w ++ text) (c ∷ name) rest
  run_onto w c one some text name rest reads =
      let after : Characters = text ++ rest in
      let size : (unit (w ++ after)).taken ≡ length w = ap (λ (u : TextUnit). u.taken) (one after) in
      rw (append_assoc w text rest, run_of_more unit fits (w ++ after) (omega (arith, size, some)), one after, drop_at w after _ refl, reads, length-append w text) refl

  -- a text of one character after another
  run_flat : (f : ℕ → Characters) → ((c : ℕ) → AsOne unit (f c) c) → ((c : ℕ) → 0 < length (f c)) → (name rest : Characters)
      → (unit rest).taken ≡ 0 → ReadsRun unit (flat_map f name) name rest
  run_flat f one some [] rest none = run_of_none unit rest none
  run_flat f one some (c ∷ cs) rest none = run_onto (f c) c (one c) (some c) (flat_map f cs) cs rest (run_flat f one some cs rest none)

-- each character is written
name_char_some : (c : ℕ) → 0 < length (name_char_text c)
name_char_some c = written_char (λ w. 0 < length w) c (λ _. omega arith) (λ _ _. omega arith)

pub name_text_some : (name : Characters) → is_nil name ≡ false → 0 < length (name_text name)
name_text_some [] some = absurd (false≢true (sym some))
name_text_some (c ∷ cs) some = omega (arith, name_char_some c, length-append (name_char_text c) (name_text cs))

pub name_reads : (name rest : Characters) → (name_unit rest).taken ≡ 0 → ReadsRun name_unit (name_text name) name rest
name_reads name rest none = run_flat name_unit name_fits name_char_text name_char name_char_some name rest none

digit_small : (c : ℕ) → is_digit c ≡ true → (0 < c) × (c < 128)
digit_small c h = (grind (arith, nat_tests), grind (arith, nat_tests))

e_small : (c : ℕ) → is_e c ≡ true → (0 < c) × (c < 128)
e_small c h = (grind (arith, nat_tests), grind (arith, nat_tests))

-- a name whose first character is escaped
escaped_reads : (c : ℕ) (cs rest : Characters) → (0 < c) × (c < 128) → (name_unit rest).taken ≡ 0 → ReadsRun name_unit (hex_escape c ++ name_text cs) (c ∷ cs) rest
escaped_reads c cs rest small none =
    run_onto name_unit name_fits (hex_escape c) c (name_escape c small) (omega arith) (name_text cs) cs rest (name_reads cs rest none)

after_hyphen_reads : (name rest : Characters) → (name_unit rest).taken ≡ 0 → ReadsRun name_unit (after_hyphen name) name rest
after_hyphen_reads [] rest none = run_of_none name_unit rest none
after_hyphen_reads (c ∷ cs) rest none =
    cond_both (is_digit c) _ _ (λ (w : Characters). ReadsRun name_unit w (c ∷ cs) rest)
    (λ h. escaped_reads c cs rest (digit_small c h) none) (λ h. name_reads (c ∷ cs) rest none)

-- a hyphen, bare and escaped
lone_reads : (c : ℕ) (cs rest : Characters) → (eqb c 45 && is_nil cs) ≡ true → (name_unit rest).taken ≡ 0 → ReadsRun name_unit (92 ∷ 45 ∷ []) (c ∷ cs) rest
lone_reads c [] rest h none =
    rw (eqb-true c 45 (and_parts _ _ h).0)
    (run_onto name_unit name_fits (92 ∷ 45 ∷ []) 45 (λ more. plain_escape 45 more refl) (omega arith) [] [] rest (run_of_none name_unit rest none))
lone_reads c (d ∷ ds) rest h none = absurd (false≢true ((and_parts _ _ h).1))

pub ident_reads : (name rest : Characters) → (name_unit rest).taken ≡ 0 → ReadsRun name_unit (ident_text name) name rest
ident_reads [] rest none = run_of_none name_unit rest none
ident_reads (c ∷ cs) rest none =
    let P : Characters → Type 0 = λ w. ReadsRun name_unit w (c ∷ cs) rest in
    cond_both (is_digit c) _ _ P (λ h. escaped_reads c cs rest (digit_small c h) none)
    (λ _. cond_both (eqb c 45 && is_nil cs) _ _ P (λ h. lone_reads c cs rest h none)
    (λ _. cond_both (eqb c 45) _ _ P
    (λ h. rw (eqb-true c 45 h) (run_onto name_unit name_fits (45 ∷ []) 45 (λ _. refl) (omega arith) (after_hyphen cs) cs rest (after_hyphen_reads cs rest none)))
    (λ _. name_reads (c ∷ cs) rest none)))

pub unit_reads : (name rest : Characters) → (name_unit rest).taken ≡ 0 → ReadsRun name_unit (unit_text name) name rest
unit_reads [] rest none = run_of_none name_unit rest none
unit_reads (c ∷ cs) rest none =
    cond_both (looks_like_exponent (c ∷ cs)) _ _ (λ (w : Characters). ReadsRun name_unit w (c ∷ cs) rest)
    (λ h. escaped_reads c cs rest (e_small c (and_parts _ _ h).0) none) (λ _. ident_reads (c ∷ cs) rest none)

string_char_some : (c : ℕ) → 0 < length (string_char_text c)
string_char_some c =
    let P : Characters → Type 0 = λ w. 0 < length w in
    cond_both (eqb c 34 || eqb c 92) _ _ P (λ _. omega arith) (λ _. cond_both (is_control c) _ _ P (λ _. omega arith) (λ _. omega arith))

pub string_reads : (name rest : Characters) → ReadsRun (string_unit 34) (flat_map string_char_text name) name (34 ∷ rest)
string_reads name rest = run_flat (string_unit 34) (string_fits 34) string_char_text string_char string_char_some name (34 ∷ rest) refl

url_char_some : (c : ℕ) → 0 < length (url_char_text c)
url_char_some c = cond_both (in_url c) (hex_escape c) (c ∷ []) (λ (w : Characters). 0 < length w) (λ _. omega arith) (λ _. omega arith)

pub url_reads : (name rest : Characters) → ReadsRun url_unit (flat_map url_char_text name) name (41 ∷ rest)
url_reads name rest = run_flat url_unit url_fits url_char_text url_char url_char_some name (41 ∷ rest) refl
