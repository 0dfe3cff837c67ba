-- What is among the items of a list.
use Rattle.std.proofs.Common.{◌≡◌, ◌≢◌, ◌<◌, ◌≤◌, List, [], ◌∷◌, ◌++◌, length, filter, Bool, true, false, cond, not, ◌⊎◌, inl, inr, ⊎_elim, refl, sym, ap, ◌∙◌, subst, arith}
use Rattle.std.specs.List.{AllByRecursion, list_any}
use Rattle.std.specs.Cmp.Lexicographic.{bytes_decides}
use Rattle.std.proofs.lemmas.Bool.{cases_Bool, or_cases, or_left, or_right, false≢true}
use Rattle.base_model.specs.Text.{Characters, same_text}

abbrev pub Among : {X : Type 0} → X → List X → Type 0
Among x [] = ⊥
Among x (y ∷ ys) = (x ≡ y) ⊎ Among x ys

pub among_left : {X : Type 0} (x : X) (xs ys : List X) → Among x xs → Among x (xs ++ ys)
among_left x [] ys m = absurd m
among_left x (y ∷ xs) ys m = ⊎_elim (λ e. inl e) (λ n. inr (among_left x xs ys n)) m

pub among_right : {X : Type 0} (x : X) (xs ys : List X) → Among x ys → Among x (xs ++ ys)
among_right x [] ys m = m
among_right x (y ∷ xs) ys m = inr (among_right x xs ys m)

-- what holds of each item holds of one that is among them
pub each_among : {X : Type 0} (P : X → Type 0) (x : X) (xs : List X) → AllByRecursion P xs → Among x xs → P x
each_among P x [] h m = absurd m
each_among P x (y ∷ xs) h m = ⊎_elim (λ e. subst P (sym e) h.0) (λ n. each_among P x xs h.1 n) m

pub each_from_among : {X : Type 0} (P : X → Type 0) (xs : List X) → ((x : X) → Among x xs → P x) → AllByRecursion P xs
each_from_among P [] h = tt
each_from_among P (x ∷ xs) h = (h x (inl refl), each_from_among P xs (λ y m. h y (inr m)))

-- an item passes
pub any_among : {X : Type 0} (p : X → Bool) (x : X) (xs : List X) → Among x xs → p x ≡ true → list_any p xs ≡ true
any_among p x [] m e = absurd m
any_among p x (y ∷ xs) m e =
    ⊎_elim (λ s. or_left (p y) (list_any p xs) (ap p (sym s) ∙ e)) (λ n. or_right (p y) (list_any p xs) (any_among p x xs n e)) m

pub among_any : {X : Type 0} (p : X → Bool) (xs : List X) → list_any p xs ≡ true → (x : X) × Among x xs × (p x ≡ true)
among_any p [] e = absurd (false≢true e)
among_any p (y ∷ xs) e =
    ⊎_elim (λ h. (y, inl refl, h)) (λ h. let r = among_any p xs h in (r.0, inr r.1, r.2)) (or_cases (p y) (list_any p xs) e)

-- texts

pub text_is : (a b : Characters) → same_text a b ≡ true → a ≡ b
text_is a b e = (bytes_decides a b).0 e

pub cases_text : (a b : Characters) → (a ≡ b) ⊎ (a ≢ b)
cases_text a b =
    ⊎_elim (λ e. inl (text_is a b e)) (λ e. inr (λ s. false≢true (sym e ∙ (bytes_decides a b).1 s))) (cases_Bool (same_text a b))

-- the texts that are not this one
abbrev pub without : Characters → List Characters → List Characters
without name names = filter (λ n. not (same_text name n)) names

without-length : (name : Characters) (names : List Characters) → length (without name names) ≤ length names
without-length name [] = omega arith
without-length name (n ∷ names) = by (same_text name n) (without-length name names) where
  by : (b : Bool) → length (without name names) ≤ length names → length (cond (not b) (n ∷ without name names) (without name names)) ≤ length (n ∷ names)
  by true h = omega arith
  by false h = omega arith

pub without_less : (name : Characters) (names : List Characters) → Among name names → length (without name names) < length names
without_less name [] m = absurd m
without_less name (n ∷ names) m = by (same_text name n) refl (λ k. without_less name names k) where
  by : (b : Bool) → same_text name n ≡ b → (Among name names → length (without name names) < length names) → length (cond (not b) (n ∷ without name names) (without name names)) < length (n ∷ names)
  by true e r = let h = without-length name names in omega arith
  by false e r =
      let h : length (without name names) < length names = ⊎_elim (λ s. absurd (false≢true (sym e ∙ (bytes_decides name n).1 s))) r m in
      omega arith

pub among_without : (name other : Characters) (names : List Characters) → Among other names → name ≢ other → Among other (without name names)
among_without name other [] m h = absurd m
among_without name other (n ∷ names) m h = by (same_text name n) refl (λ k. among_without name other names k h) where
  by : (b : Bool) → same_text name n ≡ b → (Among other names → Among other (without name names)) → Among other (cond (not b) (n ∷ without name names) (without name names))
  by true e r = ⊎_elim (λ s. absurd (h (text_is name n e ∙ sym s))) r m
  by false e r = ⊎_elim (λ s. inl s) (λ k. inr (r k)) m
