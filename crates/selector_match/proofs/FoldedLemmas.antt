-- The parts of a text, with its ASCII letters in lower case or not.
use Rattle.std.proofs.Common.{◌≡◌, ℕ, ◌-◌, ◌<◌, ◌≤◌, ◌==◌, nat_le, Bool, true, false, ◌&&◌, ◌||◌, List, [], ◌∷◌, ◌++◌, length, take, drop, get_or, refl, sym, ap, ◌∙◌, arith, le-leb}
use Rattle.std.specs.Char.{to_ascii_lowercase}
use Rattle.std.proofs.lemmas.List.{length-map, take-map, drop-map, take_rest, get_or-map}
use Rattle.std.proofs.lemmas.Bool.Decides.{nat_tests}
use Rattle.base_model.specs.Ascii.{hyphen}
use Rattle.base_model.specs.Text.{same_text}
use Rattle.selector_model.specs.Comparisons.{folded, begins_with, ends_with}
use Rattle.selector_match.proofs.PartLemmas.{begins_with-fits, dash_after, dash_missed}

pub length-folded : (k : Bool) (xs : List ℕ) → length (folded k xs) ≡ length xs
length-folded true xs = refl
length-folded false xs = length-map xs to_ascii_lowercase

folded-take : (k : Bool) (n : ℕ) (xs : List ℕ) → folded k (take n xs) ≡ take n (folded k xs)
folded-take true n xs = refl
folded-take false n xs = sym (take-map to_ascii_lowercase n xs)

folded-drop : (k : Bool) (n : ℕ) (xs : List ℕ) → folded k (drop n xs) ≡ drop n (folded k xs)
folded-drop true n xs = refl
folded-drop false n xs = sym (drop-map to_ascii_lowercase n xs)

-- the tests of the code

pub begins_with-folded : (k : Bool) (text part : List ℕ) → same_text (folded k (take (length part) text)) (folded k part) ≡ begins_with (folded k text) (folded k part)
begins_with-folded k text part =
    ap (λ t. same_text t (folded k part)) (folded-take k (length part) text ∙ ap (λ n. take n (folded k text)) (sym (length-folded k part)))

pub ends_with-folded : (k : Bool) (text part : List ℕ) → length part ≤ length text → same_text (folded k (take (length text - (length text - length part)) (drop (length text - length part) text))) (folded k part) ≡ ends_with (folded k text) (folded k part)
ends_with-folded k text part h =
    let cut : ℕ = length text - length part in
    let same : length (folded k text) - length (folded k part) ≡ cut = ap (λ n. n - length (folded k part)) (length-folded k text) ∙ ap (λ n. length text - n) (length-folded k part) in
    let fits : nat_le (length (folded k part)) (length (folded k text)) ≡ true = le-leb _ _ (omega (arith, length-folded k text, length-folded k part)) in
    ap (λ t. same_text (folded k t) (folded k part)) (take_rest text cut)
    ∙ (ap (λ t. same_text t (folded k part)) (folded-drop k cut text ∙ ap (λ n. drop n (folded k text)) (sym same))
    ∙ ap (λ b. b && same_text (drop (length (folded k text) - length (folded k part)) (folded k text)) (folded k part)) (sym fits))

-- a character is `-` in either case, or in none
dash_lower : (c : ℕ) → (to_ascii_lowercase c == hyphen) ≡ (c == hyphen)
dash_lower c = grind (arith, nat_tests)

dash_read : (k : Bool) (text : List ℕ) (n : ℕ) → n < length text → (get_or (folded k text) n 0 == hyphen) ≡ (get_or text n 0 == hyphen)
dash_read true text n h = refl
dash_read false text n h = ap (λ c. c == hyphen) (get_or-map to_ascii_lowercase text n 0 0 h) ∙ dash_lower (get_or text n 0)

pub dash_after-folded : (k : Bool) (text part : List ℕ) → begins_with (folded k text) (folded k part) ≡ true → (length text ≡ length part → ⊥) → (get_or text (length part) 0 == hyphen) ≡ (same_text (folded k text) (folded k part) || begins_with (folded k text) (folded k part ++ hyphen ∷ []))
dash_after-folded k text part e h =
    let n : length (folded k part) ≡ length part = length-folded k part in
    let m : length (folded k text) ≡ length text = length-folded k text in
    let l : length part < length text = omega (arith, h, begins_with-fits (folded k text) (folded k part) e) in
    sym (dash_read k text (length part) l) ∙ (ap (λ i. get_or (folded k text) i 0 == hyphen) (sym n) ∙ dash_after (folded k text) (folded k part) e (λ same. h (sym m ∙ (same ∙ n))))

pub dash_missed-folded : (k : Bool) (text part : List ℕ) → begins_with (folded k text) (folded k part) ≡ false → false ≡ (same_text (folded k text) (folded k part) || begins_with (folded k text) (folded k part ++ hyphen ∷ []))
dash_missed-folded k text part e = dash_missed (folded k text) (folded k part) e
