-- The name that a text begins with: some name, and no identifier where the text begins with none.
use Rattle.std.proofs.Common.{◌≡◌, ℕ, ◌<◌, Bool, true, false, eqb, [], ◌∷◌, ◌++◌, drop, refl, sym, ap, ◌∙◌, arith, inl, inr}
use Rattle.std.specs.Prelude.{◌||◌, option_to_list}
use Rattle.std.proofs.lemmas.Bool.{and_left, and_parts, cases_Bool, cond_both, cond-false, cond-true, false≢true, or_cases, or_from, or_parts, or_right}
use Rattle.std.proofs.lemmas.Bool.Decides.{nat_tests}
use Rattle.base_model.specs.Lists.{is_nil}
use Rattle.base_model.specs.Text.{Characters}
use Rattle.syntax_model.specs.Letters.{begins, is_name_char, is_name_start}
use Rattle.syntax_model.specs.TextUnits.{Run, TextUnit, itself, name_unit, run_of, starts_escape, then_run}
use Rattle.syntax_model.specs.Pieces.{name_in, starts_ident, starts_name}
use Rattle.syntax_model.specs.Written.{name_text}
use Rattle.syntax_model.proofs.TextUnitLemmas.{name_fits, run_of_more, run_of_none}
use Rattle.syntax_model.proofs.PieceLemmas.{ident_starts, unit_full}

some_more : (first more : Characters) → is_nil first ≡ false → is_nil (first ++ more) ≡ false
some_more [] more h = absurd (false≢true (sym h))
some_more (c ∷ cs) more h = refl

-- where a name starts, it is some name
pub name_in_some : (text : Characters) → starts_name text ≡ true → is_nil (name_in text) ≡ false
name_in_some text h =
    ap (λ (r : Run). is_nil r.said) (run_of_more name_unit name_fits text (unit_full text h).some)
    ∙ some_more (option_to_list (name_unit text).said) _ (unit_full text h).says

pub ident_name_some : (text : Characters) → starts_ident text ≡ true → is_nil (name_in text) ≡ false
ident_name_some text h = name_in_some text (ident_starts text h)

-- a name by its first character
name_in_char : (c : ℕ) (cs : Characters) → is_name_char c ≡ true → name_in (c ∷ cs) ≡ c ∷ name_in cs
name_in_char c cs h =
    let text : Characters = c ∷ cs in
    let one : name_unit text ≡ itself c = cond-true (is_name_char c) _ _ h in
    let some : 0 < (name_unit text).taken = omega (arith, ap (λ (u : TextUnit). u.taken) one) in
    ap (λ (r : Run). r.said) (run_of_more name_unit name_fits text some) ∙ ap (λ (u : TextUnit). (then_run u (run_of name_unit (drop u.taken text))).said) one

name_in_none : (c : ℕ) (cs : Characters) → is_name_char c ≡ false → starts_escape (c ∷ cs) ≡ false → name_in (c ∷ cs) ≡ []
name_in_none c cs h k =
    ap (λ (r : Run). r.said) (run_of_none name_unit (c ∷ cs) (ap (λ (u : TextUnit). u.taken) (cond-false (is_name_char c) _ _ h ∙ cond-false (starts_escape (c ∷ cs)) _ _ k)))

-- and its text
name_text_char : (c : ℕ) (cs : Characters) → is_name_char c ≡ true → name_text (name_in (c ∷ cs)) ≡ c ∷ name_text (name_in cs)
name_text_char c cs h = rw (name_in_char c cs h, h) refl

name_no_escape : (c : ℕ) → is_name_char c ≡ true → eqb c 92 ≡ false
name_no_escape c h = grind (arith, nat_tests)

-- what an identifier may go on with after a `-`
abbrev goes_on : Characters → Bool
goes_on text = begins (λ d. is_name_start d || eqb d 45) text || starts_escape text

no_more : (text : Characters) → goes_on text ≡ false → goes_on (name_text (name_in text)) ≡ false
no_more [] h = refl
no_more (c ∷ cs) h =
    let parts = or_parts (is_name_start c || eqb c 45) (starts_escape (c ∷ cs)) h in
    elim (cases_Bool (is_name_char c)) [
      | inl e ↦ rw (name_text_char c cs e) (or_from _ _ parts.0 (and_left _ _ (name_no_escape c e)))
      | inr e ↦ rw (name_in_none c cs e parts.1) refl
    ]

no_ident_first : (c : ℕ) (cs : Characters) → is_name_char c ≡ true → starts_ident (c ∷ cs) ≡ false → starts_ident (c ∷ name_text (name_in cs)) ≡ false
no_ident_first c cs e h =
    cond_both (eqb c 45) _ _ (λ b. b ≡ false) (λ k. no_more cs (sym (cond-true _ _ _ k) ∙ h))
    (λ k. or_from _ _ (or_parts (is_name_start c) _ (sym (cond-false _ _ _ k) ∙ h)).0 (and_left _ _ (name_no_escape c e)))

escape_is_ident : (c : ℕ) (cs : Characters) → starts_escape (c ∷ cs) ≡ true → starts_ident (c ∷ cs) ≡ true
escape_is_ident c cs h = cond-false _ _ _ (no_dash c (and_parts (eqb c 92) _ h).0) ∙ or_right (is_name_start c) _ h
  where
    no_dash : (c : ℕ) → eqb c 92 ≡ true → eqb c 45 ≡ false
    no_dash c k = grind (arith, nat_tests)

-- where a name and no identifier starts, its text begins with no identifier
pub no_ident_written : (text : Characters) → starts_name text ≡ true → starts_ident text ≡ false → starts_ident (name_text (name_in text)) ≡ false
no_ident_written [] h k = absurd (false≢true h)
no_ident_written (c ∷ cs) h k =
    elim (or_cases (is_name_char c) _ h) [
      | inl e ↦ rw (name_text_char c cs e) (no_ident_first c cs e k)
      | inr e ↦ absurd (false≢true (sym k ∙ escape_is_ident c cs e))
    ]
