-- Tests of some item of a list, and lists in which each item stands once.
use Rattle.std.proofs.Common.{◌≡◌, ℕ, ◌==◌, List, [], ◌∷◌, ◌++◌, map, filter, Bool, true, false, cond, ◌&&◌, ◌||◌, refl, sym, ap, ◌∙◌}
use Rattle.std.specs.List.{AllByRecursion, IsDistinct, list_all, list_any}
use Rattle.std.proofs.lemmas.Bool.{and_parts, or_right, eqb-true, false_from_ne_true, false≢true}
use Rattle.base_model.proofs.Lists.{each_weaker, each-map, each-append}
use Rattle.scene_model.proofs.Numbers.{is_in, same_number, filter_none, each_failed}

pub each_of_all : {X : Type 0} (p : X → Bool) (xs : List X) → list_all p xs ≡ true → AllByRecursion (λ x. p x ≡ true) xs
each_of_all p [] h = tt
each_of_all p (x ∷ xs) h =
    let both = and_parts (p x) (list_all p xs) h in (both.0, each_of_all p xs both.1)

pub any_same : (f g : ℕ → Bool) (xs : List ℕ) → ((x : ℕ) → is_in x xs ≡ true → f x ≡ g x) → list_any f xs ≡ list_any g xs
any_same f g [] h = refl
any_same f g (y ∷ ys) h =
    ap (λ t. t || list_any f ys) (h y (ap (λ t. t || is_in y ys) (same_number y)))
    ∙ ap (λ t. g y || t) (any_same f g ys (λ x i. h x (or_right (y == x) (is_in x ys) i)))

pub equal_turned : (x y : ℕ) → (x == y) ≡ (y == x)
equal_turned x y = by (x == y) refl
  where
    by : (b : Bool) → (x == y) ≡ b → b ≡ (y == x)
    by true e = sym (ap (λ z. y == z) (eqb-true x y e) ∙ same_number y)
    by false e = sym (false_from_ne_true (y == x) (λ h. false≢true (sym e ∙ (ap (λ z. x == z) (eqb-true y x h) ∙ same_number x))))

-- the test the other way round
pub is_in-turned : (x : ℕ) (xs : List ℕ) → list_any (λ y. x == y) xs ≡ is_in x xs
is_in-turned x xs = any_same (λ y. x == y) (λ y. y == x) xs (λ y _. equal_turned x y)

any_kept : {X : Type 0} (p : X → Bool) (b : Bool) (x : X) (xs : List X) → list_any p (cond b (x ∷ xs) xs) ≡ ((b && p x) || list_any p xs)
any_kept p true x xs = refl
any_kept p false x xs = refl

-- some item passes a test and a filter
pub any-filter_both : {X : Type 0} (p q : X → Bool) (xs : List X) → list_any p (filter q xs) ≡ list_any (λ x. q x && p x) xs
any-filter_both p q [] = refl
any-filter_both p q (x ∷ xs) = any_kept p (q x) x (filter q xs) ∙ ap (λ r. (q x && p x) || r) (any-filter_both p q xs)

pub each_apart : {X : Type 0} (p : X → Bool) (xs : List X) → list_any p xs ≡ false → AllByRecursion (λ x. p x ≡ false) xs
each_apart p xs h = each_failed p xs (filter_none p xs h)

-- lists without repetition, joined and mapped

pub distinct-append : {X : Type 0} (eq : X → X → Bool) (xs ys : List X) → IsDistinct eq xs → IsDistinct eq ys → AllByRecursion (λ x. list_any (eq x) ys ≡ false) xs → IsDistinct eq (xs ++ ys)
unfolding IsDistinct
distinct-append eq [] ys d e apart = e
distinct-append eq (x ∷ xs) ys d e apart =
    (each-append (λ y. eq x y ≡ false) xs ys d.0 (each_apart (eq x) ys apart.0), distinct-append eq xs ys d.1 e apart.1)

pub distinct-map : {X Y : Type 0} (old : X → X → Bool) (new : Y → Y → Bool) (f : X → Y) → ((x y : X) → old x y ≡ false → new (f x) (f y) ≡ false) → (xs : List X) → IsDistinct old xs → IsDistinct new (map f xs)
unfolding IsDistinct
distinct-map old new f keeps [] d = tt
distinct-map old new f keeps (x ∷ xs) d =
    (each-map (λ y. new (f x) y ≡ false) f xs (each_weaker (λ y. old x y ≡ false) (λ y. new (f x) (f y) ≡ false) (keeps x) xs d.0), distinct-map old new f keeps xs d.1)
