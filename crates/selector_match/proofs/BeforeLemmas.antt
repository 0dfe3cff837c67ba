-- The siblings before an element have its ancestors, and its ancestors no others than it has.
use Rattle.std.proofs.Common.{◌≡◌, ℕ, zero, suc, Bool, true, false, cond, List, [], ◌∷◌, ◌++◌, take, drop, Option, Some, None, refl, sym, ap, ◌∙◌, subst, arith, append_assoc}
use Rattle.std.specs.List.{AllByRecursion, list_any}
use Rattle.std.proofs.lemmas.Bool.{false≢true}
use Rattle.std.proofs.lemmas.List.{take-append-drop}
use Rattle.scene_model.specs.Element.{Element}
use Rattle.scene_model.specs.Lookups.{is_element, parent_of, children, beside, siblings, left_of}
use Rattle.scene_model.specs.Ancestors.{up, climb, ancestors, position_of}
use Rattle.scene_model.specs.Valid.{IsValid}
use Rattle.scene_model.proofs.Any.{in_start, in_middle, none-append}
use Rattle.scene_model.proofs.Climbing.{ancestors_climb, ancestors-up, ancestors-child, up_each}
use Rattle.scene_model.proofs.Found.{copies-children, each_child-parent, parent_of-element}
use Rattle.scene_model.proofs.Lists.{each_weaker}
use Rattle.scene_model.proofs.Numbers.{is_in, copies, same_number, each_is_in, split_in, left_of_split}
use Rattle.scene_model.proofs.Siblings.{left_here, once_before, siblings-children}
use Rattle.selector_match.specs.Results.{before, IsUnder}

module _ (doc : List Element) (v : IsValid doc) where
  -- what has a sibling before it has a parent

  beside_some : (x w : ℕ) (o : Option ℕ) → is_in w (left_of x (beside doc x o)) ≡ true → (p : ℕ) × (o ≡ Some p)
  beside_some x w None h = absurd (false≢true (ap (is_in w) (sym (left_here x x [] (same_number x))) ∙ h))
  beside_some x w (Some p) h = (p, refl)

  found_some : (x w : ℕ) (b : Bool) → is_in w (left_of x (cond b (beside doc x (parent_of doc x)) [])) ≡ true → (p : ℕ) × (parent_of doc x ≡ Some p)
  found_some x w true h = beside_some x w (parent_of doc x) h
  found_some x w false h = absurd (cc)

  before-parent : (x w : ℕ) → is_in w (before doc x) ≡ true → (p : ℕ) × (parent_of doc x ≡ Some p)
  before-parent x w h = found_some x w (is_element doc x) h

  -- the siblings are the children of the parent, those before x the front of them
  before-front : (x p : ℕ) → parent_of doc x ≡ Some p → (after : List ℕ) × (children doc p ≡ before doc x ++ after)
  before-front x p e =
      let same : siblings doc x ≡ children doc p = siblings-children doc v x p (parent_of-element doc x p e) e in
      let cut = left_len x (siblings doc x) in
      (drop cut.0 (siblings doc x), sym same ∙ (sym (take-append-drop cut.0 (siblings doc x)) ∙ ap (λ l. l ++ drop cut.0 (siblings doc x)) (sym cut.1)))
    where
      left_len : (x : ℕ) (xs : List ℕ) → (n : ℕ) × (left_of x xs ≡ take n xs)
      left_len x xs = (_, refl)

  pub same_parent : (x w : ℕ) → is_in w (before doc x) ≡ true → parent_of doc w ≡ parent_of doc x
  same_parent x w h =
      let (p, e) = before-parent x w h in
      let (after, f) = before-front x p e in
      each_is_in (λ y. parent_of doc y ≡ Some p) w (children doc p) (each_child-parent doc p v.distinct) (ap (is_in w) f ∙ in_start w (before doc x) after h) ∙ sym e

  pub same_ancestors : (x w : ℕ) → is_in w (before doc x) ≡ true → ancestors doc w ≡ ancestors doc x
  same_ancestors x w h = ancestors-up doc v w ∙ (ap (up (ancestors doc)) (same_parent x w h) ∙ sym (ancestors-up doc v x))

  -- what is before a sibling before x is what is before it among those before x
  pub before-split : (x w : ℕ) (front after : List ℕ) → before doc x ≡ front ++ w ∷ after → before doc w ≡ front
  before-split x w front after e =
      let here : is_in w (before doc x) ≡ true = ap (is_in w) e ∙ in_middle w front after in
      let (p, parent) = before-parent x w here in
      let (rest, f) = before-front x p parent in
      let own : parent_of doc w ≡ Some p = same_parent x w here ∙ parent in
      let whole : children doc p ≡ front ++ w ∷ (after ++ rest) = f ∙ (ap (λ l. l ++ rest) e ∙ append_assoc front (w ∷ after) rest) in
      let once = once_before w front (after ++ rest) (sym (ap (copies w) whole) ∙ copies-children doc p w v.distinct own) in
      ap (left_of w) (siblings-children doc v w p (parent_of-element doc w p own) own ∙ whole) ∙ left_of_split w front (after ++ rest) once

  -- where a test holds at none before x, it holds at none before those
  pub none_before : (p : ℕ → Bool) (x w : ℕ) → list_any p (before doc x) ≡ false → is_in w (before doc x) ≡ true → list_any p (before doc w) ≡ false
  none_before p x w h i =
      let (front, after, e) = split_in w (before doc x) i in
      let none = none-append p front (w ∷ after) (sym (ap (list_any p) e) ∙ h) in
      ap (list_any p) (before-split x w front after e) ∙ none.0

  -- the ancestors of an element have no others than it has

  under-up : (x p y : ℕ) → parent_of doc x ≡ Some p → IsUnder doc p y → IsUnder doc x y
  under-up x p y e (front, f) = (p ∷ front, ancestors-child doc v x p e ∙ ap (λ l. p ∷ l) f)

  pub under-parent : (x p : ℕ) → parent_of doc x ≡ Some p → IsUnder doc x p
  under-parent x p e = (p ∷ [], ancestors-child doc v x p e)

  climb_under : (n x : ℕ) → AllByRecursion (IsUnder doc x) (climb doc n x)
  climb_under zero x = tt
  climb_under (suc n) x =
      up_each (IsUnder doc x) (climb doc n) (parent_of doc x) (λ p e. (under-parent x p e, each_weaker (IsUnder doc p) (IsUnder doc x) (λ y u. under-up x p y e u) (climb doc n p) (climb_under n p)))

  pub each_under : (x : ℕ) → AllByRecursion (IsUnder doc x) (ancestors doc x)
  each_under x = subst (AllByRecursion (IsUnder doc x)) (sym (ancestors_climb doc v (position_of doc x) x (omega arith))) (climb_under (position_of doc x) x)
