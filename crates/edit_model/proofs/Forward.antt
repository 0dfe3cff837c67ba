-- Where a combinator leads from an element: to its children, to what is after it among its siblings, to all below it.
use Rattle.std.proofs.Common.{◌≡◌, ◌≢◌, ℕ, zero, suc, ◌-◌, ◌<◌, ◌==◌, nat_eq, List, [], ◌∷◌, ◌++◌, length, take, Bool, true, false, cond, ◌||◌, Option, Some, None, option_to_list, slice_get, refl, sym, ap, ◌∙◌, subst, inl, inr, arith, append_assoc, length-append}
use Rattle.std.specs.Cmp.{both_ways}
use Rattle.std.specs.List.{AllByRecursion, IsDistinct, list_any}
use Rattle.std.proofs.lemmas.Bool.{eqb-true, or_cases, or_right, or_left, false≢true}
use Rattle.std.proofs.lemmas.Option.{none-some, same_Some}
use Rattle.base_model.proofs.Lists.{get_push_last}
use Rattle.scene_model.specs.Element.{Element}
use Rattle.scene_model.specs.Lookups.{IsElement, parent_of, children, siblings, left_of, right_of}
use Rattle.scene_model.specs.Ancestors.{position_of, ancestors}
use Rattle.scene_model.specs.Valid.{IsValid}
use Rattle.scene_model.proofs.Any.{in_middle}
use Rattle.scene_model.proofs.Climbing.{parent-before, ancestors-child, ancestors-root}
use Rattle.scene_model.proofs.Numbers.{is_in, copies_distinct, same_number, each_is_in, split_in, left_of_split, left_on}
use Rattle.scene_model.proofs.Siblings.{left_here, last_split, once_before, right_of_split}
use Rattle.selector_model.specs.Selector.{child, next_sibling, later_sibling}
use Rattle.selector_model.specs.Holds.{nearest, is_in_relation}
use Rattle.edit_model.proofs.Facts.{siblings_under, siblings_top}
use Rattle.change_model.proofs.Ends.{child_in, in_child, distinct_children}

-- lists in which each number is once

in_rest : (y w : ℕ) (ws : List ℕ) → (w == y) ≡ false → is_in y (w ∷ ws) ≡ true → is_in y ws ≡ true
in_rest y w ws e h = sym (ap (λ t. t || is_in y ws) e) ∙ h

right_here : (y w : ℕ) (ws : List ℕ) → (w == y) ≡ true → right_of y (w ∷ ws) ≡ ws
right_here y w ws e = ap (λ t. cond t ws (right_of y ws)) e

right_on : (y w : ℕ) (ws : List ℕ) → (w == y) ≡ false → right_of y (w ∷ ws) ≡ right_of y ws
right_on y w ws e = ap (λ t. cond t ws (right_of y ws)) e

right_step : (y z w : ℕ) (ws : List ℕ) (c : Bool) → (w == y) ≡ c → (is_in z (right_of y ws) ≡ true → is_in z ws ≡ true) → is_in z (right_of y (w ∷ ws)) ≡ true → is_in z (w ∷ ws) ≡ true
right_step y z w ws true e h i = or_right (w == z) (is_in z ws) (sym (ap (is_in z) (right_here y w ws e)) ∙ i)
right_step y z w ws false e h i = or_right (w == z) (is_in z ws) (h (sym (ap (is_in z) (right_on y w ws e)) ∙ i))

in_right : (y z : ℕ) (xs : List ℕ) → is_in z (right_of y xs) ≡ true → is_in z xs ≡ true
in_right y z [] i = i
in_right y z (w ∷ ws) i = right_step y z w ws (w == y) refl (in_right y z ws) i

before_step : (y z w : ℕ) (ws : List ℕ) (c d : Bool) → (w == z) ≡ c → (w == y) ≡ d → (is_in z ws ≡ true → is_in y (left_of z ws) ≡ true → is_in z (right_of y ws) ≡ true) → is_in z (w ∷ ws) ≡ true → is_in y (left_of z (w ∷ ws)) ≡ true → is_in z (right_of y (w ∷ ws)) ≡ true
before_step y z w ws true d e f h i j = absurd (false≢true (sym (ap (is_in y) (left_here z w ws e)) ∙ j))
before_step y z w ws false true e f h i j = ap (is_in z) (right_here y w ws f) ∙ in_rest z w ws e i
before_step y z w ws false false e f h i j =
    ap (is_in z) (right_on y w ws f) ∙ h (in_rest z w ws e i) (in_rest y w (left_of z ws) f (sym (ap (is_in y) (left_on z w ws e)) ∙ j))

before_after : (y z : ℕ) (xs : List ℕ) → is_in z xs ≡ true → is_in y (left_of z xs) ≡ true → is_in z (right_of y xs) ≡ true
before_after y z [] i j = i
before_after y z (w ∷ ws) i j = before_step y z w ws (w == z) (w == y) refl refl (before_after y z ws) i j

other : (w z : ℕ) (ws : List ℕ) → AllByRecursion (λ v. (w == v) ≡ false) ws → is_in z ws ≡ true → (w == z) ≡ false
other w z ws d i = each_is_in (λ v. (w == v) ≡ false) z ws d i

after_step : (y z w : ℕ) (ws : List ℕ) (c : Bool) → (w == y) ≡ c → AllByRecursion (λ v. (w == v) ≡ false) ws → (is_in z (right_of y ws) ≡ true → is_in y (left_of z ws) ≡ true) → is_in z (right_of y (w ∷ ws)) ≡ true → is_in y (left_of z (w ∷ ws)) ≡ true
after_step y z w ws true e d h i =
    let later : is_in z ws ≡ true = sym (ap (is_in z) (right_here y w ws e)) ∙ i in
    ap (is_in y) (left_on z w ws (other w z ws d later)) ∙ or_left (w == y) (is_in y (left_of z ws)) e
after_step y z w ws false e d h i =
    let later : is_in z (right_of y ws) ≡ true = sym (ap (is_in z) (right_on y w ws e)) ∙ i in
    ap (is_in y) (left_on z w ws (other w z ws d (in_right y z ws later))) ∙ or_right (w == y) (is_in y (left_of z ws)) (h later)

after_before : (y z : ℕ) (xs : List ℕ) → IsDistinct nat_eq xs → is_in z (right_of y xs) ≡ true → is_in y (left_of z xs) ≡ true
unfolding IsDistinct
after_before y z [] d i = i
after_before y z (w ∷ ws) d i = after_step y z w ws (w == y) refl d.0 (after_before y z ws d.1) i

-- the one is before the other exactly where that is after it
pub before_is_after : (y z : ℕ) (xs : List ℕ) → IsDistinct nat_eq xs → is_in z xs ≡ true → is_in y (left_of z xs) ≡ is_in z (right_of y xs)
before_is_after y z xs d i = both_ways (is_in y (left_of z xs)) (is_in z (right_of y xs)) (before_after y z xs i) (after_before y z xs d)

-- what is next to y
abbrev pub next_after : ℕ → List ℕ → Option ℕ
next_after y xs = slice_get (right_of y xs) 0

once_in : (x : ℕ) (front back : List ℕ) → IsDistinct nat_eq (front ++ x ∷ back) → AllByRecursion (λ y. y ≢ x) front
once_in x front back d = once_before x front back (copies_distinct x (front ++ x ∷ back) d (in_middle x front back))

nearest_push : (xs : List ℕ) (y : ℕ) → nearest (xs ++ y ∷ []) ≡ Some y
nearest_push xs y = get_push_last xs (length (xs ++ y ∷ []) - 1) y (omega (arith, length-append xs (y ∷ [])))

first_split : (xs : List ℕ) (z : ℕ) → slice_get xs 0 ≡ Some z → (back : List ℕ) × (xs ≡ z ∷ back)
first_split [] z h = absurd (none-some z h)
first_split (w ∷ ws) z h = (ws, ap (λ v. v ∷ ws) (same_Some w z h))

nearest_next : (y z : ℕ) (xs : List ℕ) → IsDistinct nat_eq xs → is_in z xs ≡ true → nearest (left_of z xs) ≡ Some y → next_after y xs ≡ Some z
nearest_next y z xs d i h =
    let (front, back, e) = split_in z xs i in
    let dz : IsDistinct nat_eq (front ++ z ∷ back) = subst (IsDistinct nat_eq) e d in
    let left : left_of z xs ≡ front = ap (left_of z) e ∙ left_of_split z front back (once_in z front back dz) in
    let before : List ℕ = take (length front - 1) front in
    let split : front ≡ before ++ y ∷ [] = last_split front y (sym (ap nearest left) ∙ h) in
    let whole : xs ≡ before ++ y ∷ z ∷ back = e ∙ (ap (λ l. l ++ z ∷ back) split ∙ append_assoc before (y ∷ []) (z ∷ back)) in
    let dy : IsDistinct nat_eq (before ++ y ∷ z ∷ back) = subst (IsDistinct nat_eq) whole d in
    ap (λ l. slice_get l 0) (ap (right_of y) whole ∙ right_of_split y before (z ∷ back) (once_in y before (z ∷ back) dy))

has_step : (y z w : ℕ) (ws : List ℕ) (c : Bool) → (w == y) ≡ c → (is_in z (right_of y ws) ≡ true → is_in y ws ≡ true) → is_in z (right_of y (w ∷ ws)) ≡ true → is_in y (w ∷ ws) ≡ true
has_step y z w ws true e h i = or_left (w == y) (is_in y ws) e
has_step y z w ws false e h i = or_right (w == y) (is_in y ws) (h (sym (ap (is_in z) (right_on y w ws e)) ∙ i))

has_after : (y z : ℕ) (xs : List ℕ) → is_in z (right_of y xs) ≡ true → is_in y xs ≡ true
has_after y z [] i = absurd (false≢true i)
has_after y z (w ∷ ws) i = has_step y z w ws (w == y) refl (has_after y z ws) i

first_in : (xs : List ℕ) (z : ℕ) → slice_get xs 0 ≡ Some z → is_in z xs ≡ true
first_in xs z h = let (back, e) = first_split xs z h in ap (is_in z) e ∙ or_left (z == z) (is_in z back) (same_number z)

next_nearest : (y z : ℕ) (xs : List ℕ) → IsDistinct nat_eq xs → next_after y xs ≡ Some z → nearest (left_of z xs) ≡ Some y
next_nearest y z xs d h =
    let (front, back, e) = split_in y xs (has_after y z xs (first_in (right_of y xs) z h)) in
    let dy : IsDistinct nat_eq (front ++ y ∷ back) = subst (IsDistinct nat_eq) e d in
    let after : right_of y xs ≡ back = ap (right_of y) e ∙ right_of_split y front back (once_in y front back dy) in
    let (rest, f) = first_split back z (sym (ap (λ l. slice_get l 0) after) ∙ h) in
    let whole : xs ≡ (front ++ y ∷ []) ++ z ∷ rest =
    e ∙ (ap (λ l. front ++ y ∷ l) f ∙ sym (append_assoc front (y ∷ []) (z ∷ rest))) in
    let dz : IsDistinct nat_eq ((front ++ y ∷ []) ++ z ∷ rest) = subst (IsDistinct nat_eq) whole d in
    ap nearest (ap (left_of z) whole ∙ left_of_split z (front ++ y ∷ []) rest (once_in z (front ++ y ∷ []) rest dz)) ∙ nearest_push front y

in_option : (y : ℕ) (o : Option ℕ) → is_in y (option_to_list o) ≡ true → o ≡ Some y
in_option y None h = absurd (false≢true h)
in_option y (Some w) h = ap Some (eqb-true w y (alone (w == y) h))
  where
    alone : (c : Bool) → (c || false) ≡ true → c ≡ true
    alone true k = refl
    alone false k = k

option_in : (y : ℕ) (o : Option ℕ) → o ≡ Some y → is_in y (option_to_list o) ≡ true
option_in y o e = ap (λ w. is_in y (option_to_list w)) e ∙ or_left (y == y) false (same_number y)

module _ (doc : List Element) (v : IsValid doc) where
  -- child: the children
  pub child_leads : (y z : ℕ) → is_in_relation doc child y z ≡ is_in z (children doc y)
  child_leads y z = both_ways (is_in_relation doc child y z) (is_in z (children doc y)) (λ h. child_in doc v y z (in_option y (parent_of doc z) h)) (λ h. option_in y (parent_of doc z) (in_child doc v y z h))

  -- what is a sibling of z, other than z alone at the root
  with_parent : (z : ℕ) (P : Type 0) → IsElement doc z → (parent_of doc z ≡ None → siblings doc z ≡ z ∷ [] → P) → ((p : ℕ) → parent_of doc z ≡ Some p → siblings doc z ≡ children doc p → P) → P
  with_parent z P there alone among = at (parent_of doc z) refl
    where
      at : (o : Option ℕ) → parent_of doc z ≡ o → P
      at None e = alone e (siblings_top doc z there e)
      at (Some p) e = among p e (siblings_under doc z p e)

  -- the siblings of a child
  same_siblings : (p y z : ℕ) → parent_of doc z ≡ Some p → is_in y (children doc p) ≡ true → siblings doc z ≡ siblings doc y
  same_siblings p y z e i = siblings_under doc z p e ∙ sym (siblings_under doc y p (in_child doc v p y i))

  later_from : (y z : ℕ) → IsElement doc z → is_in y (left_of z (siblings doc z)) ≡ true → is_in z (right_of y (siblings doc y)) ≡ true
  later_from y z there h = with_parent z (is_in z (right_of y (siblings doc y)) ≡ true) there
      (λ e s. absurd (false≢true (sym (ap (is_in y) (ap (left_of z) s ∙ left_here z z [] (same_number z))) ∙ h)))
      (λ p e s.
      let before : is_in y (left_of z (children doc p)) ≡ true = sym (ap (λ l. is_in y (left_of z l)) s) ∙ h in
      let among : is_in y (children doc p) ≡ true = has_after y z (children doc p) (before_after y z (children doc p) (child_in doc v p z e) before) in
      ap (λ l. is_in z (right_of y l)) (sym (same_siblings p y z e among) ∙ s) ∙ before_after y z (children doc p) (child_in doc v p z e) before)

  later_to : (y z : ℕ) → IsElement doc y → is_in z (right_of y (siblings doc y)) ≡ true → is_in y (left_of z (siblings doc z)) ≡ true
  later_to y z there h = with_parent y (is_in y (left_of z (siblings doc z)) ≡ true) there
      (λ e s. absurd (false≢true (sym (ap (is_in z) (ap (right_of y) s ∙ right_here y y [] (same_number y))) ∙ h)))
      (λ p e s.
      let after : is_in z (right_of y (children doc p)) ≡ true = sym (ap (λ l. is_in z (right_of y l)) s) ∙ h in
      let among : is_in z (children doc p) ≡ true = in_right y z (children doc p) after in
      ap (λ l. is_in y (left_of z l)) (sym (same_siblings p z y e among) ∙ s) ∙ after_before y z (children doc p) (distinct_children doc v p) after)

  -- later siblings: those after it
  pub later_leads : (y z : ℕ) → IsElement doc y → IsElement doc z → is_in_relation doc later_sibling y z ≡ is_in z (right_of y (siblings doc y))
  later_leads y z before after = both_ways (is_in_relation doc later_sibling y z) (is_in z (right_of y (siblings doc y))) (later_from y z after) (later_to y z before)

  next_from : (y z : ℕ) → IsElement doc z → nearest (left_of z (siblings doc z)) ≡ Some y → next_after y (siblings doc y) ≡ Some z
  next_from y z there h = with_parent z (next_after y (siblings doc y) ≡ Some z) there
      (λ e s. absurd (none-some y (sym (ap nearest (ap (left_of z) s ∙ left_here z z [] (same_number z))) ∙ h)))
      (λ p e s.
      let next : next_after y (children doc p) ≡ Some z = nearest_next y z (children doc p) (distinct_children doc v p) (child_in doc v p z e) (sym (ap (λ l. nearest (left_of z l)) s) ∙ h) in
      let among : is_in y (children doc p) ≡ true = has_after y z (children doc p) (first_in (right_of y (children doc p)) z next) in
      ap (next_after y) (sym (same_siblings p y z e among) ∙ s) ∙ next)

  next_to : (y z : ℕ) → IsElement doc y → next_after y (siblings doc y) ≡ Some z → nearest (left_of z (siblings doc z)) ≡ Some y
  next_to y z there h = with_parent y (nearest (left_of z (siblings doc z)) ≡ Some y) there
      (λ e s. absurd (none-some z (sym (ap (λ l. slice_get l 0) (ap (right_of y) s ∙ right_here y y [] (same_number y))) ∙ h)))
      (λ p e s.
      let next : next_after y (children doc p) ≡ Some z = sym (ap (next_after y) s) ∙ h in
      let among : is_in z (children doc p) ≡ true = in_right y z (children doc p) (first_in (right_of y (children doc p)) z next) in
      ap (λ l. nearest (left_of z l)) (sym (same_siblings p z y e among) ∙ s) ∙ next_nearest y z (children doc p) (distinct_children doc v p) next)

  -- next sibling: the one after it
  pub next_leads : (y z : ℕ) → IsElement doc y → IsElement doc z → is_in_relation doc next_sibling y z ≡ is_in z (option_to_list (next_after y (siblings doc y)))
  next_leads y z before after =
      both_ways (is_in_relation doc next_sibling y z) (is_in z (option_to_list (next_after y (siblings doc y)))) (λ h. option_in z _ (next_from y z after (in_option y _ h))) (λ h. option_in y _ (next_to y z before (in_option z _ h)))

  -- descendants: what is closed under children and has only what is below the first ones
  module _ (first found : ℕ → Bool) (children_found : (y z : ℕ) → (first y || found y) ≡ true → parent_of doc z ≡ Some y → found z ≡ true) where
    above : (z : ℕ) (o : Option ℕ) → parent_of doc z ≡ o → ((p : ℕ) → o ≡ Some p → list_any first (ancestors doc p) ≡ true → found p ≡ true) → list_any first (ancestors doc z) ≡ true → found z ≡ true
    above z None e h i = absurd (false≢true (sym (ap (list_any first) (ancestors-root doc v z e)) ∙ i))
    above z (Some p) e h i =
        elim (or_cases (first p) (list_any first (ancestors doc p)) (sym (ap (list_any first) (ancestors-child doc v z p e)) ∙ i)) [
          | inl here ↦ children_found p z (or_left (first p) (found p) here) e
          | inr farther ↦ children_found p z (or_right (first p) (found p) (h p refl farther)) e
        ]

    found_within : (n z : ℕ) → position_of doc z < n → list_any first (ancestors doc z) ≡ true → found z ≡ true
    found_within zero z l h = absurd (omega arith)
    found_within (suc n) z l h = above z (parent_of doc z) refl (λ p e i. let k = parent-before doc v z p e in found_within n p (omega arith) i) h

    pub below_found : (z : ℕ) → list_any first (ancestors doc z) ≡ true → found z ≡ true
    below_found z h = found_within (suc (position_of doc z)) z (omega arith) h
