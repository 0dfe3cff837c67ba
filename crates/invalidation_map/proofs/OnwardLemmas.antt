-- For `add_later_siblings`: what is after a number in a list, and before it.
use Rattle.std.proofs.Common.{◌≡◌, ◌≢◌, ℕ, ◌-◌, ◌==◌, ◌||◌, nat_eq, Bool, true, false, cond, List, [], ◌∷◌, ◌++◌, length, take, Option, Some, None, option_to_list, refl, sym, ap, ◌∙◌, subst, inl, inr}
use Rattle.std.specs.List.{AllByRecursion, IsDistinct}
use Rattle.std.proofs.lemmas.Bool.{eqb-true, false≢true, or_cases}
use Rattle.scene_model.specs.Lookups.{left_of, right_of}
use Rattle.scene_model.proofs.Any.{in_middle}
use Rattle.scene_model.proofs.Numbers.{copies, copies_distinct, differs_turned, each_is_in, left_of_split, same_number}
use Rattle.scene_model.proofs.Siblings.{each-left, once_before, right_of_split, last_split}
use Rattle.selector_model.specs.Holds.{nearest}
use Rattle.change_model.proofs.GraftChildren.{each_of}
use Rattle.change_model.proofs.SameSiblings.{each-right}
use Rattle.edit_model.proofs.Forward.{before_is_after}
use Rattle.scene_model.specs.Numbers.{is_in}

absent_at : (w z : ℕ) (zs : List ℕ) → (z == w) ≡ false → is_in w zs ≡ false → is_in w (z ∷ zs) ≡ false
absent_at w z zs e h = ap (λ b. b || is_in w zs) e ∙ h

pub absent : (w : ℕ) (ws : List ℕ) → AllByRecursion (λ z. (w == z) ≡ false) ws → is_in w ws ≡ false
absent w [] h = refl
absent w (z ∷ zs) h = absent_at w z zs (differs_turned w z h.0) (absent w zs h.1)

absent_same : (w x : ℕ) (ws : List ℕ) → AllByRecursion (λ z. (w == z) ≡ false) ws → (w == x) ≡ true → is_in x ws ≡ false
absent_same w x ws h e = subst (λ z. is_in z ws ≡ false) (eqb-true w x e) (absent w ws h)

-- what is after a number is in the list
pub right_in : (zs : List ℕ) (y x : ℕ) → is_in x (right_of y zs) ≡ true → is_in x zs ≡ true
right_in zs y x h = each_is_in (λ z. is_in z zs ≡ true) x (right_of y zs) (each-right (λ z. is_in z zs ≡ true) y zs (each_of (λ z. is_in z zs ≡ true) zs (λ z i. i))) h

more_at : (n z : ℕ) (ws : List ℕ) (b : Bool) → is_in z (right_of n ws) ≡ true → is_in z (cond b ws (right_of n ws)) ≡ true
more_at n z ws true h = right_in ws n z h
more_at n z ws false h = h

right_more : (n z w : ℕ) (ws : List ℕ) → is_in z (right_of n ws) ≡ true → is_in z (right_of n (w ∷ ws)) ≡ true
right_more n z w ws h = more_at n z ws (w == n) h

of_right_at : (n x z w : ℕ) (ws : List ℕ) (b : Bool) → is_in z (right_of n (cond b ws (right_of x ws))) ≡ true → (is_in z (right_of n (right_of x ws)) ≡ true → is_in z (right_of n ws) ≡ true)
    → is_in z (right_of n ws) ≡ true
of_right_at n x z w ws true h r = h
of_right_at n x z w ws false h r = r h

pub right_of_right : (n x z : ℕ) (zs : List ℕ) → is_in z (right_of n (right_of x zs)) ≡ true → is_in z (right_of n zs) ≡ true
right_of_right n x z [] h = h
right_of_right n x z (w ∷ ws) h = right_more n z w ws (of_right_at n x z w ws (w == x) h (right_of_right n x z ws))

distinct_at : (y w : ℕ) (ws : List ℕ) (b : Bool) → IsDistinct nat_eq ws → IsDistinct nat_eq (right_of y ws) → IsDistinct nat_eq (cond b ws (right_of y ws))
distinct_at y w ws true d e = d
distinct_at y w ws false d e = e

pub distinct_right : (y : ℕ) (zs : List ℕ) → IsDistinct nat_eq zs → IsDistinct nat_eq (right_of y zs)
unfolding IsDistinct
distinct_right y [] d = tt
distinct_right y (w ∷ ws) d = distinct_at y w ws (w == y) d.1 (distinct_right y ws d.1)

later_at : (y n z w : ℕ) (ws : List ℕ) (b c : Bool) → (w == n) ≡ c → AllByRecursion (λ u. (w == u) ≡ false) ws → is_in n (cond b ws (right_of y ws)) ≡ true → is_in z (cond c ws (right_of n ws)) ≡ true
    → (is_in n (right_of y ws) ≡ true → is_in z (right_of n ws) ≡ true → is_in z (right_of y ws) ≡ true) → is_in z (cond b ws (right_of y ws)) ≡ true
later_at y n z w ws true true e d h k r = k
later_at y n z w ws true false e d h k r = right_in ws n z k
later_at y n z w ws false true e d h k r = absurd (false≢true (sym (absent_same w n ws d e) ∙ right_in ws y n h))
later_at y n z w ws false false e d h k r = r h k

-- what is after a later number is after the first
pub right_later : (y n z : ℕ) (zs : List ℕ) → IsDistinct nat_eq zs → is_in n (right_of y zs) ≡ true → is_in z (right_of n zs) ≡ true → is_in z (right_of y zs) ≡ true
unfolding IsDistinct
right_later y n z [] d h k = h
right_later y n z (w ∷ ws) d h k = later_at y n z w ws (w == y) (w == n) refl d.0 h k (right_later y n z ws d.1)

-- those before it are in the list
pub left_in : (x y : ℕ) (zs : List ℕ) → is_in y (left_of x zs) ≡ true → is_in y zs ≡ true
left_in x y zs h = each_is_in (λ z. is_in z zs ≡ true) y (left_of x zs) (each-left (λ z. is_in z zs ≡ true) x zs (each_of (λ z. is_in z zs ≡ true) zs (λ z i. i))) h

-- where something is after it, it is in the list
pub right_has : (n z : ℕ) (zs : List ℕ) → IsDistinct nat_eq zs → is_in z (right_of n zs) ≡ true → is_in n zs ≡ true
right_has n z zs d h = left_in z n zs (before_is_after n z zs d (right_in zs n z h) ∙ h)

-- options and lists of one

just : (q y : ℕ) → (q == y) ≡ true → is_in y (q ∷ []) ≡ true
just q y e = ap (λ b. b || false) e

pub just_one : (q y : ℕ) → is_in y (q ∷ []) ≡ true → q ≡ y
just_one q y h = elim (or_cases (q == y) false h) [ inl e ↦ eqb-true q y e | inr f ↦ absurd (false≢true f) ]

pub in_option : (o : Option ℕ) (y : ℕ) → is_in y (option_to_list o) ≡ true → o ≡ Some y
in_option None y h = absurd (false≢true h)
in_option (Some q) y h = ap Some (just_one q y h)

pub option_in : (o : Option ℕ) (y : ℕ) → o ≡ Some y → is_in y (option_to_list o) ≡ true
option_in o y e = ap (λ u. is_in y (option_to_list u)) e ∙ just y y (same_number y)

pub nearest_in : (xs : List ℕ) (y : ℕ) → is_in y (option_to_list (nearest xs)) ≡ true → is_in y xs ≡ true
nearest_in xs y h =
    ap (λ l. is_in y l) (last_split xs y (in_option (nearest xs) y h)) ∙ in_middle y (take (length xs - 1) xs) []

module _ (zs : List ℕ) (d : IsDistinct nat_eq zs) where
  pub parted : (x : ℕ) (front behind : List ℕ) → is_in x zs ≡ true → zs ≡ front ++ x ∷ behind → (left_of x zs ≡ front) × (right_of x zs ≡ behind)
  parted x front behind h e =
      let unmet : AllByRecursion (λ z. z ≢ x) front = once_before x front behind (ap (copies x) (sym e) ∙ copies_distinct x zs d h) in
      (ap (left_of x) e ∙ left_of_split x front behind unmet, ap (right_of x) e ∙ right_of_split x front behind unmet)
