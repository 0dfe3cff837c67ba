-- The production of the grammar that fits where a text begins with an identifier, a number or a mark.
use Rattle.std.proofs.Common.{◌≡◌, ℕ, Bool, true, false, eqb, [], ◌∷◌, ◌++◌, drop, refl, sym, ap, ◌∙◌, arith, inl, inr}
use Rattle.std.specs.Prelude.{◌||◌}
use Rattle.std.proofs.lemmas.Bool.{and_left, and_parts, cases_Bool, cond_both, cond-false, cond-true, eqb-true, false_from_ne_true, false≢true, or_cases, or_from, or_left, or_right}
use Rattle.std.proofs.lemmas.Bool.Decides.{nat_tests}
use Rattle.base_model.specs.Text.{Characters}
use Rattle.syntax_model.specs.Letters.{begins, is_blank, is_digit, is_name_start, is_sign}
use Rattle.syntax_model.specs.TextUnits.{starts_escape}
use Rattle.syntax_model.specs.Numbers.{starts_fraction, starts_number, starts_unsigned}
use Rattle.syntax_model.specs.Pieces.{at_keyword_production, hash_production, ident_production, number_production, production_at, starts_cdc, starts_cdo, starts_ident, starts_name}
use Rattle.syntax_model.proofs.IdentLemmas.{cdc_first}

pub cdo_first : (a : ℕ) (text : Characters) → eqb a 60 ≡ false → starts_cdo (a ∷ text) ≡ false
cdo_first a [] h = refl
cdo_first a (b ∷ []) h = refl
cdo_first a (b ∷ c ∷ []) h = refl
cdo_first a (b ∷ c ∷ d ∷ cs) h = and_left _ _ h

-- a test that passes one character and fails another tells them apart
other_than : (p : ℕ → Bool) (c : ℕ) → p c ≡ true → (n : ℕ) → p n ≡ false → eqb c n ≡ false
other_than p c h n k = false_from_ne_true _ (λ e. false≢true (sym k ∙ (ap p (sym (eqb-true c n e)) ∙ h)))

-- what an identifier may begin with
abbrev is_ident_first : ℕ → Bool
is_ident_first c = eqb c 45 || (is_name_start c || eqb c 92)

no_digit_first : (c : ℕ) → is_ident_first c ≡ true → is_digit c ≡ false
no_digit_first c h = grind (arith, nat_tests)

escape_first : (c : ℕ) (cs : Characters) → starts_escape (c ∷ cs) ≡ true → is_ident_first c ≡ true
escape_first c cs h = or_right (eqb c 45) _ (or_right (is_name_start c) _ (and_parts (eqb c 92) _ h).0)

-- an identifier's first character
ident_first : (c : ℕ) (cs : Characters) → starts_ident (c ∷ cs) ≡ true → is_ident_first c ≡ true
ident_first c cs =
    cond_both (eqb c 45) _ _ (λ b. b ≡ true → is_ident_first c ≡ true) (λ e _. or_left _ _ e)
    (λ _ h. elim (or_cases (is_name_start c) _ h) [ inl e ↦ or_right (eqb c 45) _ (or_left _ _ e) | inr e ↦ escape_first c cs e ])

-- the character after a first `-`
second_first : (c : ℕ) (cs : Characters) → (begins (λ d. is_name_start d || eqb d 45) (c ∷ cs) || starts_escape (c ∷ cs)) ≡ true → is_ident_first c ≡ true
second_first c cs h =
    elim (or_cases (is_name_start c || eqb c 45) _ h) [
      | inl e ↦ elim (or_cases (is_name_start c) _ e) [ inl k ↦ or_right (eqb c 45) _ (or_left _ _ k) | inr k ↦ or_left _ _ k ]
      | inr e ↦ escape_first c cs e
    ]

no_unsigned : (c : ℕ) (cs : Characters) → is_ident_first c ≡ true → starts_unsigned (c ∷ cs) ≡ false
no_unsigned c cs h = or_from _ _ (no_digit_first c h) (and_left _ _ (other_than is_ident_first c h 46 refl))

no_unsigned_second : (cs : Characters) → (begins (λ d. is_name_start d || eqb d 45) cs || starts_escape cs) ≡ true → starts_unsigned cs ≡ false
no_unsigned_second [] h = refl
no_unsigned_second (c ∷ cs) h = no_unsigned c cs (second_first c cs h)

-- where an identifier starts no number does
ident_no_number : (c : ℕ) (cs : Characters) → starts_ident (c ∷ cs) ≡ true → starts_number (c ∷ cs) ≡ false
ident_no_number c cs h =
    let first : is_ident_first c ≡ true = ident_first c cs h in
    elim (cases_Bool (eqb c 45)) [
      | inl e ↦ rw (cond-true {A = ℕ} (is_sign c) 1 0 (or_right (eqb c 43) _ e)) (no_unsigned_second cs (sym (cond-true (eqb c 45) _ _ e) ∙ h))
      | inr e ↦ rw (cond-false {A = ℕ} (is_sign c) 1 0 (or_from _ _ (other_than is_ident_first c first 43 refl) e)) (no_unsigned c cs first)
    ]

-- none of the productions before it fits where an identifier does
pub ident_production_at : (text : Characters) → starts_ident text ≡ true → starts_cdc text ≡ false → production_at text ≡ ident_production
ident_production_at [] h none = absurd (false≢true h)
ident_production_at (c ∷ cs) h none =
    let no = other_than is_ident_first c (ident_first c cs h) in
    rw (no 47 refl, no 10 refl, no 9 refl, no 32 refl, no 34 refl, no 39 refl, no 35 refl, ident_no_number c cs h, none, cdo_first c cs (no 60 refl), no 64 refl, h) refl

-- what a test says of the first character of an identifier, also after a number
pub ident_no : (text : Characters) → starts_ident text ≡ true
    → (begins is_blank text ≡ false) × ((begins is_digit text ≡ false) × ((starts_fraction text ≡ false) × (begins (λ c. eqb c 37) text ≡ false)))
ident_no [] h = absurd (false≢true h)
ident_no (c ∷ cs) h =
    let first : is_ident_first c ≡ true = ident_first c cs h in
    let no = other_than is_ident_first c first in
    (rw (no 10 refl, no 9 refl, no 32 refl) refl, (no_digit_first c first, (and_left _ _ (no 46 refl), no 37 refl)))

-- what a number may begin with
abbrev is_number_first : ℕ → Bool
is_number_first c = is_sign c || (is_digit c || eqb c 46)

number_first : (c : ℕ) (cs : Characters) → starts_number (c ∷ cs) ≡ true → is_number_first c ≡ true
number_first c cs h =
    elim (cases_Bool (is_sign c)) [
      | inl e ↦ or_left _ _ e
      | inr e ↦ elim (or_cases (is_digit c) _ (sym (ap (λ (n : ℕ). starts_unsigned (drop n (c ∷ cs))) (cond-false (is_sign c) 1 0 e)) ∙ h)) [
        | inl k ↦ or_right (is_sign c) _ (or_left _ _ k)
        | inr k ↦ or_right (is_sign c) _ (or_right (is_digit c) _ (and_parts (eqb c 46) _ k).0)
      ]
    ]

pub number_production_at : (text : Characters) → starts_number text ≡ true → production_at text ≡ number_production
number_production_at [] h = absurd (false≢true h)
number_production_at (c ∷ cs) h =
    let no = other_than is_number_first c (number_first c cs h) in
    rw (no 47 refl, no 10 refl, no 9 refl, no 32 refl, no 34 refl, no 39 refl, no 35 refl, h) refl

pub number_no_blank : (text more : Characters) → starts_number text ≡ true → begins is_blank (text ++ more) ≡ false
number_no_blank [] more h = absurd (false≢true h)
number_no_blank (c ∷ cs) more h =
    let no = other_than is_number_first c (number_first c cs h) in rw (no 10 refl, no 9 refl, no 32 refl) refl

pub hash_production_at : (text : Characters) → starts_name text ≡ true → production_at (35 ∷ text) ≡ hash_production
hash_production_at text h = cond-true _ _ _ h

pub at_production_at : (text : Characters) → starts_ident text ≡ true → production_at (64 ∷ text) ≡ at_keyword_production
at_production_at text h =
    cond-false _ _ _ (cdc_first 64 text refl) ∙ (cond-false _ _ _ (cdo_first 64 text refl) ∙ cond-true _ _ _ h)
