-- What is after an element among its siblings.
use Rattle.std.proofs.Common.{◌≡◌, ℕ, suc, ◌+◌, ◌==◌, Bool, true, false, cond, List, [], ◌∷◌, length, drop, Some, refl, sym, ap, ◌∙◌, add-one}
use Rattle.scene_model.specs.Element.{Element}
use Rattle.scene_model.specs.Lookups.{IsElement, parent_of, children, siblings, left_of, right_of, place_of}
use Rattle.scene_model.specs.Valid.{IsValid}
use Rattle.scene_model.proofs.Numbers.{left_on}
use Rattle.scene_model.proofs.Siblings.{left_here, siblings-children}

after_step : (x y : ℕ) (xs : List ℕ) (b : Bool) → (y == x) ≡ b → drop (length (left_of x xs) + 1) xs ≡ right_of x xs → drop (length (left_of x (y ∷ xs)) + 1) (y ∷ xs) ≡ cond b xs (right_of x xs)
after_step x y xs true e h = ap (λ l. drop (length l + 1) (y ∷ xs)) (left_here x y xs e)
after_step x y xs false e h =
    let n : ℕ = length (left_of x xs) in
    ap (λ l. drop (length l + 1) (y ∷ xs)) (left_on x y xs e) ∙ (ap (λ m. drop m (y ∷ xs)) (add-one (suc n)) ∙ (ap (λ m. drop m xs) (sym (add-one n)) ∙ h))

-- what is after it comes after those before it
after_left : (x : ℕ) (xs : List ℕ) → drop (length (left_of x xs) + 1) xs ≡ right_of x xs
after_left x [] = refl
after_left x (y ∷ xs) = after_step x y xs (y == x) refl (after_left x xs)

-- the children of its parent from its place on
pub after_place : {doc : List Element} {p place : ℕ} {list : List ℕ} (x : ℕ) → IsValid doc → IsElement doc x → parent_of doc x ≡ Some p → place ≡ place_of doc x → list ≡ children doc p
    → drop (place + 1) list ≡ right_of x (siblings doc x)
after_place {doc} {p} {place} {list} x v there parent e f =
    ap (λ n. drop (n + 1) list) e
    ∙ (ap (λ l. drop (place_of doc x + 1) l) (f ∙ sym (siblings-children doc v x p there parent))
    ∙ after_left x (siblings doc x))
