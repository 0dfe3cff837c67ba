-- A number is read back, where what is after it does not go on with it.
use Rattle.std.proofs.Common.{◌≡◌, ℕ, ◌+◌, ◌<◌, ◌≤◌, Bool, true, false, cond, eqb, [], ◌∷◌, ◌++◌, length, drop, refl, ap, ◌∙◌, arith, length-drop, inl, inr}
use Rattle.std.specs.Prelude.{◌&&◌}
use Rattle.std.specs.List.{prefix_len}
use Rattle.std.proofs.lemmas.Bool.{and_parts, and_right, cases_Bool, cond-false, eqb-true, false≢true}
use Rattle.std.proofs.lemmas.List.{drop-append-le}
use Rattle.base_model.specs.Text.{Characters}
use Rattle.syntax_model.specs.Letters.{begins, is_digit, is_e, is_sign}
use Rattle.syntax_model.specs.Numbers.{after_fraction, after_sign, after_whole, digits_len, exponent_len, fraction_len, is_integer, number_len}
use Rattle.syntax_model.specs.Numbers.{sign_len, starts_fraction, starts_number}
use Rattle.syntax_model.specs.Written.{is_number}
use Rattle.syntax_model.proofs.TextUnitLemmas.{one_inside, prefix_inside}
use Rattle.syntax_model.proofs.FormLemmas.{takes_one}
use Rattle.syntax_model.proofs.PieceForms.{tells_fraction}

-- what does not go on with a number
pub record EndsNumber (rest : Characters) : Type 0 where
  pub no_digit : begins is_digit rest ≡ false
  pub no_fraction : starts_fraction rest ≡ false
  pub no_exponent : exponent_len rest ≡ 0

begins_stays : (p : ℕ → Bool) (text rest : Characters) → begins p rest ≡ false → begins p (text ++ rest) ≡ begins p text
begins_stays p [] rest h = h
begins_stays p (c ∷ cs) rest h = refl

prefix_stays : (p : ℕ → Bool) (text rest : Characters) → begins p rest ≡ false → prefix_len p (text ++ rest) ≡ prefix_len p text
prefix_stays p [] [] h = refl
prefix_stays p [] (c ∷ cs) h = cond-false _ _ _ h
prefix_stays p (c ∷ cs) rest h = ap (λ n. cond (p c) (1 + n) 0) (prefix_stays p cs rest h)

-- the character that begins is there
begins_inside : (p : ℕ → Bool) (n : ℕ) (text : Characters) → begins p (drop n text) ≡ true → n < length text
begins_inside p n text h = omega (arith, (takes_one p (drop n text) h).inside, length-drop n text)

sign_stays : (text rest : Characters) → 0 < length text → sign_len (text ++ rest) ≡ sign_len text
sign_stays [] rest some = absurd (omega (arith, some))
sign_stays (c ∷ cs) rest some = refl

starts_fraction_stays : (text rest : Characters) → EndsNumber rest → starts_fraction (text ++ rest) ≡ starts_fraction text
starts_fraction_stays [] rest ends = ends.no_fraction
starts_fraction_stays (c ∷ cs) rest ends = ap (λ b. eqb c 46 && b) (begins_stays is_digit cs rest ends.no_digit)

fraction_stays : (text rest : Characters) → EndsNumber rest → fraction_len (text ++ rest) ≡ fraction_len text
fraction_stays [] rest ends = cond-false _ _ _ ends.no_fraction
fraction_stays (c ∷ cs) rest ends = rw (begins_stays is_digit cs rest ends.no_digit, prefix_stays is_digit cs rest ends.no_digit) refl

-- an exponent to the end of the text has its digits
exponent_whole : (c : ℕ) (cs : Characters) → 0 < exponent_len (c ∷ cs) → 1 + sign_len cs < length (c ∷ cs)
exponent_whole c cs some =
    let left : Characters = drop (1 + sign_len cs) (c ∷ cs) in
    elim (cases_Bool (begins is_digit left)) [
      | inl e ↦ begins_inside is_digit (1 + sign_len cs) (c ∷ cs) e
      | inr e ↦ absurd (omega (arith, some, cond-false (is_e c && begins is_digit left) (1 + sign_len cs + digits_len left) 0 (and_right _ _ e)))
    ]

exponent_stays : (text rest : Characters) → EndsNumber rest → exponent_len text ≡ length text → exponent_len (text ++ rest) ≡ exponent_len text
exponent_stays [] rest ends whole = ends.no_exponent
exponent_stays (c ∷ cs) rest ends whole =
    let inside : 1 + sign_len cs < length (c ∷ cs) = exponent_whole c cs (omega (arith, whole)) in
    let left : Characters = drop (1 + sign_len cs) (c ∷ cs) in
    let goes : drop (1 + sign_len cs) (c ∷ cs ++ rest) ≡ left ++ rest = drop-append-le (1 + sign_len cs) (c ∷ cs) rest (omega (arith, inside)) in
    rw (sign_stays cs rest (omega (arith, inside)), goes, begins_stays is_digit left rest ends.no_digit, prefix_stays is_digit left rest ends.no_digit) refl

-- what is left after each part
drop_stays : (len : Characters → ℕ) (text rest : Characters) → len text ≤ length text → len (text ++ rest) ≡ len text
    → drop (len (text ++ rest)) (text ++ rest) ≡ drop (len text) text ++ rest
drop_stays len text rest inside same = rw same (drop-append-le (len text) text rest inside)

module _ (text rest : Characters) (ends : EndsNumber rest) (some : 0 < length text) where
  after_sign_stays : after_sign (text ++ rest) ≡ after_sign text ++ rest
  after_sign_stays = drop_stays sign_len text rest (one_inside is_sign text) (sign_stays text rest some)

  after_whole_stays : after_whole (text ++ rest) ≡ after_whole text ++ rest
  after_whole_stays = ap (λ (x : Characters). drop (digits_len x) x) after_sign_stays
      ∙ drop_stays digits_len (after_sign text) rest (prefix_inside is_digit (after_sign text)) (prefix_stays is_digit (after_sign text) rest ends.no_digit)

  after_fraction_stays : after_fraction (text ++ rest) ≡ after_fraction text ++ rest
  after_fraction_stays = ap (λ (x : Characters). drop (fraction_len x) x) after_whole_stays
      ∙ drop_stays fraction_len (after_whole text) rest (tells_fraction (after_whole text)).takes.inside (fraction_stays (after_whole text) rest ends)

-- a number reads back before this
pub record NumberReads (text rest : Characters) : Type 0 where
  pub starts : starts_number (text ++ rest) ≡ true
  pub size : number_len (text ++ rest) ≡ length text
  pub integer : is_integer (text ++ rest) ≡ is_integer text

pub number_text_some : (text : Characters) → starts_number text ≡ true → 0 < length text
number_text_some [] h = absurd (false≢true h)
number_text_some (c ∷ cs) h = omega arith

-- the last part ends where the text ends
pub last_whole : (text : Characters) → number_len text ≡ length text → exponent_len (after_fraction text) ≡ length (after_fraction text)
last_whole text size =
    omega (arith, size, one_inside is_sign text, prefix_inside is_digit (after_sign text), (tells_fraction (after_whole text)).takes.inside, length-drop {A = ℕ})

pub number_reads : (text rest : Characters) → is_number text ≡ true → EndsNumber rest → NumberReads text rest
number_reads text rest is ends =
    let parts : (starts_number text ≡ true) × (eqb (number_len text) (length text) ≡ true) = and_parts _ _ is in
    let size : number_len text ≡ length text = eqb-true _ _ parts.1 in
    let some : 0 < length text = number_text_some text parts.0 in
    let signed : sign_len (text ++ rest) ≡ sign_len text = sign_stays text rest some in
    let left : after_sign (text ++ rest) ≡ after_sign text ++ rest = after_sign_stays text rest ends some in
    let whole : digits_len (after_sign (text ++ rest)) ≡ digits_len (after_sign text) =
    ap digits_len left ∙ prefix_stays is_digit (after_sign text) rest ends.no_digit in
    let fraction : fraction_len (after_whole (text ++ rest)) ≡ fraction_len (after_whole text) =
    ap fraction_len (after_whole_stays text rest ends some) ∙ fraction_stays (after_whole text) rest ends in
    let exponent : exponent_len (after_fraction (text ++ rest)) ≡ exponent_len (after_fraction text) =
    ap exponent_len (after_fraction_stays text rest ends some) ∙ exponent_stays (after_fraction text) rest ends (last_whole text size) in
    record {
      starts = rw (left, begins_stays is_digit (after_sign text) rest ends.no_digit, starts_fraction_stays (after_sign text) rest ends) parts.0;
      size = omega (arith, signed, whole, fraction, exponent, size);
      integer = rw (exponent, fraction) refl;
    }
