-- Beginnings, ends and parts of a text, as tests and as facts.
use Rattle.std.proofs.Common.{◌≡◌, ◌≢◌, ℕ, ◌-◌, ◌<◌, ◌≤◌, ◌==◌, nat_le, Bool, true, false, ◌||◌, List, [], ◌∷◌, ◌++◌, length, take, drop, get_or, refl, sym, ap, ◌∙◌, subst, arith, le-leb, eq-eqb, append_assoc, append-nil, length-append}
use Rattle.std.specs.Bool.{Decides}
use Rattle.std.proofs.Math.Bool.{and-true}
use Rattle.std.proofs.lemmas.Bool.{and_from, and_parts, or_right, or_from, false_from_ne_true, false≢true}
use Rattle.std.proofs.lemmas.List.{take-append-drop, take_at, drop_at}
use Rattle.std.proofs.lemmas.Slice.Eq.{bytes_eq-Decides}
use Rattle.base_model.specs.Ascii.{hyphen}
use Rattle.base_model.specs.Text.{same_text}
use Rattle.selector_model.specs.Comparisons.{begins_with, ends_with, has_part}
use Rattle.base_model.proofs.Texts.{text_is_itself}

-- the test of a beginning, an end or a part, as what it says

abbrev pub BeginsWith : List ℕ → List ℕ → Type 0
BeginsWith text part = (rest : List ℕ) × (text ≡ part ++ rest)

abbrev pub EndsWith : List ℕ → List ℕ → Type 0
EndsWith text part = (front : List ℕ) × (text ≡ front ++ part)

abbrev pub HasPart : List ℕ → List ℕ → Type 0
HasPart text part = (front : List ℕ) × ((rest : List ℕ) × (text ≡ front ++ (part ++ rest)))

pub begins_with-Decides : (text part : List ℕ) → Decides (begins_with text part) (BeginsWith text part)
begins_with-Decides text part = (
  λ e. (let front : take (length part) text ≡ part = (bytes_eq-Decides (take (length part) text) part).0 e in
      (drop (length part) text, sym (take-append-drop (length part) text) ∙ ap (λ l. l ++ drop (length part) text) front)),
  λ (rest, e). ap (λ t. same_text (take (length part) t) part) e ∙ (ap (λ t. same_text t part) (take_at part rest (length part) refl) ∙ text_is_itself part),
)

pub begins_with-fits : (text part : List ℕ) → begins_with text part ≡ true → length part ≤ length text
begins_with-fits text part e =
    let (rest, f) = (begins_with-Decides text part).0 e in
    omega (arith, ap length f, length-append part rest)

ends_with-append : (front part : List ℕ) → ends_with (front ++ part) part ≡ true
ends_with-append front part =
    let n : ℕ = length (front ++ part) - length part in
    let cut : length front ≡ n = omega (arith, length-append front part) in
    and_from (nat_le (length part) (length (front ++ part))) (same_text (drop n (front ++ part)) part) (le-leb (length part) (length (front ++ part)) (omega (arith, length-append front part))) (ap (λ t. same_text t part) (drop_at front part n cut) ∙ text_is_itself part)

pub ends_with-Decides : (text part : List ℕ) → Decides (ends_with text part) (EndsWith text part)
ends_with-Decides text part = (
  λ e. (let n : ℕ = length text - length part in
      let parts = and_parts (nat_le (length part) (length text)) (same_text (drop n text) part) e in
      let end : drop n text ≡ part = (bytes_eq-Decides (drop n text) part).0 parts.1 in
      (take n text, sym (take-append-drop n text) ∙ ap (λ l. take n text ++ l) end)),
  λ (front, e). ap (λ t. ends_with t part) e ∙ ends_with-append front part,
)

has_part-begins : (text part : List ℕ) → begins_with text part ≡ true → has_part text part ≡ true
has_part-begins [] [] e = refl
has_part-begins [] (p ∷ part) e = cc
has_part-begins (c ∷ text) part e = ap (λ b. b || has_part text part) e

found_part : (c : ℕ) (text part : List ℕ) (b : Bool) → begins_with (c ∷ text) part ≡ b → (has_part text part ≡ true → HasPart text part) → (b || has_part text part) ≡ true → HasPart (c ∷ text) part
found_part c text part true e h k = let (rest, f) = (begins_with-Decides (c ∷ text) part).0 e in ([], (rest, f))
found_part c text part false e h k = let (front, (rest, f)) = h k in (c ∷ front, (rest, ap (λ l. c ∷ l) f))

HasPart-from_test : (text part : List ℕ) → has_part text part ≡ true → HasPart text part
HasPart-from_test [] part e =
    let none : part ≡ [] = (bytes_eq-Decides part []).0 e in ([], ([], sym (ap (λ l. l ++ []) none)))
HasPart-from_test (c ∷ text) part e =
    found_part c text part (begins_with (c ∷ text) part) refl (HasPart-from_test text part) e

has_part-append : (front part rest : List ℕ) → has_part (front ++ (part ++ rest)) part ≡ true
has_part-append [] part rest = has_part-begins (part ++ rest) part ((begins_with-Decides (part ++ rest) part).1 (rest, refl))
has_part-append (c ∷ front) part rest = or_right (begins_with (c ∷ front ++ (part ++ rest)) part) (has_part (front ++ (part ++ rest)) part) (has_part-append front part rest)

pub has_part-Decides : (text part : List ℕ) → Decides (has_part text part) (HasPart text part)
has_part-Decides text part = (HasPart-from_test text part, λ (front, (rest, e)). ap (λ t. has_part t part) e ∙ has_part-append front part rest)

-- a text that is another, or begins with it and `-`

neither : (a b : Bool) → (a ≡ true → ⊥) → (b ≡ true → ⊥) → false ≡ (a || b)
neither a b h k = sym (or_from a b (false_from_ne_true a h) (false_from_ne_true b k))

pub dash_missed : (text part : List ℕ) → begins_with text part ≡ false → false ≡ (same_text text part || begins_with text (part ++ hyphen ∷ []))
dash_missed text part e =
    let begins : BeginsWith text part → ⊥ = λ w. false≢true (sym e ∙ (begins_with-Decides text part).1 w) in
    neither _ _ (λ h. begins ([], (bytes_eq-Decides text part).0 h ∙ sym (append-nil part))) (λ h. let (rest, f) = (begins_with-Decides text (part ++ hyphen ∷ [])).0 h in begins (hyphen ∷ rest, f ∙ append_assoc part (hyphen ∷ []) rest))

dash_at : (part rest : List ℕ) (c : ℕ) → (same_text (part ++ c ∷ rest) part || begins_with (part ++ c ∷ rest) (part ++ hyphen ∷ [])) ≡ (get_or (part ++ c ∷ rest) (length part) 0 == hyphen)
dash_at [] rest c = and-true (c == hyphen)
dash_at (p ∷ part) rest c = let same : (p == p) ≡ true = eq-eqb p p refl in rw same (dash_at part rest c)

dash_rest : (text part rest : List ℕ) → length part < length text → text ≡ part ++ rest → (get_or text (length part) 0 == hyphen) ≡ (same_text text part || begins_with text (part ++ hyphen ∷ []))
dash_rest text part [] h e = absurd (omega (arith, ap length e, length-append part []))
dash_rest text part (c ∷ rest) h e = subst (λ t. (get_or t (length part) 0 == hyphen) ≡ (same_text t part || begins_with t (part ++ hyphen ∷ []))) (sym e) (sym (dash_at part rest c))

pub dash_after : (text part : List ℕ) → begins_with text part ≡ true → length text ≢ length part → (get_or text (length part) 0 == hyphen) ≡ (same_text text part || begins_with text (part ++ hyphen ∷ []))
dash_after text part e h =
    let (rest, f) = (begins_with-Decides text part).0 e in
    dash_rest text part rest (omega (arith, ap length f, length-append part rest)) f
