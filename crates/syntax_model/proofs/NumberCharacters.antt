-- The characters that a number is made of.
use Rattle.std.proofs.Common.{◌≡◌, ℕ, ◌+◌, ◌≤◌, Bool, true, eqb, [], ◌∷◌, length, take, drop, refl, sym, ◌∙◌, arith, inl, inr, subst, take-append-drop, length-drop}
use Rattle.std.specs.Prelude.{◌&&◌, ◌||◌}
use Rattle.std.specs.List.{list_all}
use Rattle.std.proofs.Math.Numerals.{one-add}
use Rattle.std.proofs.lemmas.Bool.{and_from, and_parts, cases_Bool, cond_both, cond-false, cond-true, eqb-true}
use Rattle.std.proofs.lemmas.Bool.Decides.{nat_tests}
use Rattle.std.proofs.lemmas.List.{drop-drop, take_all}
use Rattle.std.proofs.lemmas.List.Folds.{list_all-append}
use Rattle.base_model.specs.Text.{Characters}
use Rattle.syntax_model.specs.Letters.{begins, is_digit, is_e, is_sign}
use Rattle.syntax_model.specs.Numbers.{after_fraction, after_sign, after_whole, digits_len, exponent_len, fraction_len, number_len, sign_len, starts_fraction, starts_number}
use Rattle.syntax_model.specs.Written.{is_number}
use Rattle.syntax_model.proofs.NumberLemmas.{last_whole}

-- a digit, a sign, a point or an `e`
abbrev pub is_number_char : ℕ → Bool
is_number_char c = is_digit c || (is_sign c || (eqb c 46 || is_e c))

-- Where each of these passes a test, all characters of a number do.
module _ (p : ℕ → Bool) (passes : (c : ℕ) → is_number_char c ≡ true → p c ≡ true) where
  abbrev AllPass : Characters → Type 0
  AllPass text = list_all p text ≡ true

  -- a text of two parts
  both_parts : (n : ℕ) (text : Characters) → AllPass (take n text) → AllPass (drop n text) → AllPass text
  both_parts n text h k =
      subst AllPass (take-append-drop n text) (list_all-append p (take n text) (drop n text) ∙ and_from _ _ h k)

  -- the parts of a number
  digits_pass : (text : Characters) → AllPass (take (digits_len text) text)
  digits_pass [] = refl
  digits_pass (c ∷ cs) =
      cond_both (is_digit c) (1 + digits_len cs) 0 (λ n. AllPass (take n (c ∷ cs)))
      (λ h. rw one-add (and_from _ _ (passes c (grind (arith, nat_tests))) (digits_pass cs))) (λ _. refl)

  sign_passes : (text : Characters) → AllPass (take (sign_len text) text)
  sign_passes [] = refl
  sign_passes (c ∷ cs) =
      cond_both (is_sign c) 1 0 (λ n. AllPass (take n (c ∷ cs))) (λ h. and_from _ _ (passes c (grind (arith, nat_tests))) refl) (λ _. refl)

  fraction_passes : (text : Characters) → AllPass (take (fraction_len text) text)
  fraction_passes [] = refl
  fraction_passes (c ∷ cs) =
      cond_both (starts_fraction (c ∷ cs)) (1 + digits_len cs) 0 (λ n. AllPass (take n (c ∷ cs)))
      (λ h. rw one-add (and_from _ _ (passes c (grind (arith, nat_tests))) (digits_pass cs))) (λ _. refl)

  -- digits to the end of the text
  all_digits_pass : (text : Characters) → length text ≤ digits_len text → AllPass text
  all_digits_pass text h = subst AllPass (take_all (digits_len text) text h) (digits_pass text)

  -- an exponent to the end of the text
  exponent_passes : (text : Characters) → exponent_len text ≡ length text → AllPass text
  exponent_passes [] whole = refl
  exponent_passes (c ∷ cs) whole =
      let head : ℕ = 1 + sign_len cs in
      let left : Characters = drop head (c ∷ cs) in
      elim (cases_Bool (is_e c && begins is_digit left)) [
        | inl e ↦
            let size : head + digits_len left ≡ length (c ∷ cs) = sym (cond-true (is_e c && begins is_digit left) (head + digits_len left) 0 e) ∙ whole in
            and_from _ _ (passes c (grind (arith, nat_tests)))
            (both_parts (sign_len cs) cs (sign_passes cs)
            (rw (drop-drop (sign_len cs) 1 (c ∷ cs)) (all_digits_pass left (omega (arith, size, length-drop head (c ∷ cs))))))
        | inr e ↦ absurd (omega (arith, whole, cond-false (is_e c && begins is_digit left) (head + digits_len left) 0 e))
      ]

  pub number_passes : (text : Characters) → is_number text ≡ true → AllPass text
  number_passes text is =
      let size : number_len text ≡ length text = eqb-true _ _ (and_parts (starts_number text) _ is).1 in
      both_parts (sign_len text) text (sign_passes text)
      (both_parts (digits_len (after_sign text)) (after_sign text) (digits_pass (after_sign text))
      (both_parts (fraction_len (after_whole text)) (after_whole text) (fraction_passes (after_whole text))
      (exponent_passes (after_fraction text) (last_whole text size))))
