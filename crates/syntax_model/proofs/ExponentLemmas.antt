-- The text of a unit begins with no exponent.
use Rattle.std.proofs.Common.{◌≡◌, ℕ, true, false, eqb, [], ◌∷◌, ◌++◌, drop, refl, sym, ap, ◌∙◌, arith, inl, inr}
use Rattle.std.specs.Prelude.{◌&&◌, ◌||◌}
use Rattle.std.proofs.lemmas.Bool.{and_left, and_right, cases_Bool, cond_both, cond-false, eqb-true, false≢true, or_parts}
use Rattle.std.proofs.lemmas.Bool.Decides.{nat_tests}
use Rattle.std.proofs.lemmas.List.{drop-drop}
use Rattle.base_model.specs.Lists.{is_nil}
use Rattle.base_model.specs.Text.{Characters}
use Rattle.syntax_model.specs.Letters.{begins, is_digit, is_e, is_name_char, is_sign}
use Rattle.syntax_model.specs.Numbers.{after_sign, exponent_len, sign_len}
use Rattle.syntax_model.specs.Pieces.{starts_ident}
use Rattle.syntax_model.specs.Written.{ident_text, looks_like_exponent, name_text, unit_text}
use Rattle.syntax_model.proofs.CharacterLemmas.{written_char}
use Rattle.syntax_model.proofs.IdentLemmas.{begins_name, ident_any, unit_text_starts}
use Rattle.syntax_model.proofs.NumberLemmas.{EndsNumber}
use Rattle.syntax_model.proofs.ProductionLemmas.{ident_no}
use Rattle.syntax_model.proofs.TokenEndLemmas.{EndsToken}

-- no `e` at the beginning
no_e : (text : Characters) → begins is_e text ≡ false → exponent_len text ≡ 0
no_e text h = cond-false _ _ _ (and_left _ _ h)

-- no digit after `e` and a sign
no_digits : (c : ℕ) (text : Characters) → begins is_digit (after_sign text) ≡ false → exponent_len (c ∷ text) ≡ 0
no_digits c text h = cond-false _ _ _ (and_right _ _ (ap (begins is_digit) (sym (drop-drop (sign_len text) 1 (c ∷ text))) ∙ h))

ident_no_e : (c : ℕ) (cs rest : Characters) → is_e c ≡ false → begins is_e (ident_text (c ∷ cs) ++ rest) ≡ false
ident_no_e c cs rest h =
    ident_any (λ w. begins is_e (w ++ rest) ≡ false) c cs (λ _ _. refl) (λ _ _. refl) (λ _ _ _. refl) (λ _ _. h)

-- an `e` is written as itself
e_facts : (c : ℕ) → is_e c ≡ true → (is_digit c ≡ false) × ((eqb c 45 ≡ false) × (is_name_char c ≡ true))
e_facts c h = (grind (arith, nat_tests), (grind (arith, nat_tests), grind (arith, nat_tests)))

e_text : (c : ℕ) (cs : Characters) → is_e c ≡ true → ident_text (c ∷ cs) ≡ c ∷ name_text cs
e_text c cs h = let no = e_facts c h in rw (no.1.1, no.0, no.1.0) refl

first_fails : (name : Characters) (c : ℕ) → begins is_digit name ≡ false → begins (eqb c) name ≡ true → is_digit c ≡ false
first_fails [] c h k = absurd (false≢true k)
first_fails (d ∷ ds) c h k = rw (eqb-true c d k) h

sign_is_hyphen : (c : ℕ) → is_name_char c ≡ true → is_sign c ≡ true → eqb c 45 ≡ true
sign_is_hyphen c h k = grind (arith, nat_tests)

-- what follows the `e` in a unit that does not look like an exponent
after_e : (cs rest : Characters) → EndsToken rest → (begins is_digit cs || (begins (λ d. eqb d 45) cs && begins is_digit (drop 1 cs))) ≡ false
    → begins is_digit (after_sign (name_text cs ++ rest)) ≡ false
after_e [] rest ends h = ends.no_signed
after_e (d ∷ ds) rest ends h =
    let parts = or_parts (is_digit d) (eqb d 45 && begins is_digit ds) h in
    written_char (λ w. begins is_digit (after_sign ((w ++ name_text ds) ++ rest)) ≡ false) d
    (λ k. cond_both (is_sign d) 1 0 (λ n. begins is_digit (drop n (d ∷ name_text ds ++ rest)) ≡ false)
    (λ e. let none : begins is_digit ds ≡ false = sym (ap (λ b. b && begins is_digit ds) (sign_is_hyphen d k e)) ∙ parts.1 in
    begins_name is_digit ds rest refl ends.number.no_digit (λ x y _. first_fails ds x none y))
    (λ _. parts.0))
    (λ _ _. refl)

ident_no_exponent : (c : ℕ) (cs rest : Characters) → EndsToken rest → looks_like_exponent (c ∷ cs) ≡ false → exponent_len (ident_text (c ∷ cs) ++ rest) ≡ 0
ident_no_exponent c cs rest ends h =
    elim (cases_Bool (is_e c)) [
      | inl e ↦ rw (e_text c cs e) (no_digits c (name_text cs ++ rest) (after_e cs rest ends (rw e at h)))
      | inr e ↦ no_e (ident_text (c ∷ cs) ++ rest) (ident_no_e c cs rest e)
    ]

unit_no_exponent : (name rest : Characters) → is_nil name ≡ false → EndsToken rest → exponent_len (unit_text name ++ rest) ≡ 0
unit_no_exponent [] rest some ends = absurd (false≢true (sym some))
unit_no_exponent (c ∷ cs) rest some ends =
    cond_both (looks_like_exponent (c ∷ cs)) _ _ (λ (w : Characters). exponent_len (w ++ rest) ≡ 0) (λ _. refl)
    (λ h. ident_no_exponent c cs rest ends h)

-- a unit does not go on with a number
pub unit_ends_number : (name rest : Characters) → is_nil name ≡ false → EndsToken rest → EndsNumber (unit_text name ++ rest)
unit_ends_number name rest some ends =
    let starts : starts_ident (unit_text name ++ rest) ≡ true = unit_text_starts name rest some in
    record {
      no_digit = (ident_no (unit_text name ++ rest) starts).1.0;
      no_fraction = (ident_no (unit_text name ++ rest) starts).1.1.0;
      no_exponent = unit_no_exponent name rest some ends;
    }
