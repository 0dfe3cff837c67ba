-- A test of some element of a list of numbers.
use Rattle.std.proofs.Common.{◌≡◌, ℕ, ◌==◌, Bool, true, false, ◌||◌, List, [], ◌∷◌, ◌++◌, refl, sym, ap, ◌∙◌}
use Rattle.std.specs.List.{list_any}
use Rattle.std.proofs.lemmas.Bool.{eqb-true, false_from_ne_true, false≢true, or_right, or_parts, or_from}
use Rattle.std.proofs.lemmas.List.Folds.{list_any-append}
use Rattle.scene_model.proofs.Numbers.{is_in, same_number}

in_first : (p : ℕ → Bool) (b : Bool) (y : ℕ) (ys : List ℕ) → p y ≡ b → (list_any p ys ≡ true → (x : ℕ) × ((is_in x ys ≡ true) × (p x ≡ true))) → (b || list_any p ys) ≡ true → (x : ℕ) × ((is_in x (y ∷ ys) ≡ true) × (p x ≡ true))
in_first p true y ys e h k = (y, (ap (λ b. b || is_in y ys) (same_number y), e))
in_first p false y ys e h k = let (x, (i, t)) = h k in (x, (or_right (y == x) (is_in x ys) i, t))

pub any_in : (p : ℕ → Bool) (xs : List ℕ) → list_any p xs ≡ true → (x : ℕ) × ((is_in x xs ≡ true) × (p x ≡ true))
any_in p [] h = absurd (cc)
any_in p (y ∷ ys) h = in_first p (p y) y ys refl (any_in p ys) h

in_step : (p : ℕ → Bool) (x y : ℕ) (ys : List ℕ) (b : Bool) → (y == x) ≡ b → p x ≡ true → (is_in x ys ≡ true → list_any p ys ≡ true) → (b || is_in x ys) ≡ true → (p y || list_any p ys) ≡ true
in_step p x y ys true e t h k = ap (λ b. b || list_any p ys) (ap p (eqb-true y x e) ∙ t)
in_step p x y ys false e t h k = or_right (p y) (list_any p ys) (h k)

pub in_any : (p : ℕ → Bool) (x : ℕ) (xs : List ℕ) → is_in x xs ≡ true → p x ≡ true → list_any p xs ≡ true
in_any p x [] i t = absurd (cc)
in_any p x (y ∷ ys) i t = in_step p x y ys (y == x) refl t (λ k. in_any p x ys k t) i

-- none of a list

pub none_any : (p : ℕ → Bool) (x : ℕ) (xs : List ℕ) → list_any p xs ≡ false → is_in x xs ≡ true → p x ≡ false
none_any p x xs h i = false_from_ne_true (p x) (λ t. false≢true (sym h ∙ in_any p x xs i t))

pub any_none : (p : ℕ → Bool) (xs : List ℕ) → ((x : ℕ) → is_in x xs ≡ true → p x ≡ false) → list_any p xs ≡ false
any_none p xs h = false_from_ne_true (list_any p xs) (λ t. let (x, (i, e)) = any_in p xs t in false≢true (sym (h x i) ∙ e))

pub none-append : (p : ℕ → Bool) (xs ys : List ℕ) → list_any p (xs ++ ys) ≡ false → (list_any p xs ≡ false) × (list_any p ys ≡ false)
none-append p xs ys h = or_parts (list_any p xs) (list_any p ys) (sym (list_any-append p xs ys) ∙ h)

pub append-none : (p : ℕ → Bool) (xs ys : List ℕ) → list_any p xs ≡ false → list_any p ys ≡ false → list_any p (xs ++ ys) ≡ false
append-none p xs ys h k = list_any-append p xs ys ∙ or_from (list_any p xs) (list_any p ys) h k

-- a number between others

is_in-append : (x : ℕ) (xs ys : List ℕ) → is_in x (xs ++ ys) ≡ (is_in x xs || is_in x ys)
is_in-append x xs ys = list_any-append (λ y. y == x) xs ys

pub in_start : (x : ℕ) (xs ys : List ℕ) → is_in x xs ≡ true → is_in x (xs ++ ys) ≡ true
in_start x xs ys h = is_in-append x xs ys ∙ ap (λ b. b || is_in x ys) h

pub in_middle : (x : ℕ) (xs ys : List ℕ) → is_in x (xs ++ x ∷ ys) ≡ true
in_middle x xs ys =
    is_in-append x xs (x ∷ ys) ∙ or_right (is_in x xs) (is_in x (x ∷ ys)) (ap (λ b. b || is_in x ys) (same_number x))
