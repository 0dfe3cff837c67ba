-- The siblings of an element, and those before it.
use Rattle.std.proofs.Common.{◌≡◌, ◌≢◌, ℕ, suc, ◌+◌, ◌-◌, ◌<◌, ◌≤◌, ◌==◌, Bool, true, false, cond, not, ◌||◌, List, [], ◌∷◌, ◌++◌, length, take, Option, Some, None, slice_get, refl, sym, ap, ◌∙◌, arith, length-append, eq-eqb}
use Rattle.std.specs.List.{AllByRecursion, prefix_len}
use Rattle.std.proofs.lemmas.Bool.{cond-true, cond-false, false≢true}
use Rattle.std.proofs.lemmas.List.{drop_all, nil_from_length}
use Rattle.std.proofs.lemmas.List.Elements.{filter-append}
use Rattle.base_model.proofs.Lists.{each-take}
use Rattle.scene_model.specs.Element.{Element}
use Rattle.scene_model.specs.Lookups.{is_element, IsElement, parent_of, children, beside, siblings, left_of, right_of, place_of}
use Rattle.scene_model.specs.Valid.{IsValid}
use Rattle.scene_model.proofs.Found.{copies-children, each_child-parent, parent_of-element}
use Rattle.scene_model.proofs.Lists.{each_weaker, split_at}
use Rattle.scene_model.proofs.Numbers.{is_in, in_copied, copies, same_number, differs, each_failed, left_on}

-- in any list

pub left_here : (x y : ℕ) (xs : List ℕ) → (y == x) ≡ true → left_of x (y ∷ xs) ≡ []
left_here x y xs h = ap (λ b. take (cond (not b) (1 + prefix_len (λ z. not (z == x)) xs) 0) (y ∷ xs)) h

left_step : (x y : ℕ) (xs : List ℕ) (b : Bool) → (y == x) ≡ b → (is_in x xs ≡ true → length (left_of x xs) < length xs) → (b || is_in x xs) ≡ true → length (left_of x (y ∷ xs)) < suc (length xs)
left_step x y xs true e h k = omega (arith, ap length (left_here x y xs e))
left_step x y xs false e h k = omega (arith, h k, ap length (left_on x y xs e))

left_of-shorter : (x : ℕ) (xs : List ℕ) → is_in x xs ≡ true → length (left_of x xs) < length xs
left_of-shorter x [] h = cc
left_of-shorter x (y ∷ xs) h = left_step x y xs (y == x) refl (left_of-shorter x xs) h

pub each-left : (P : ℕ → Type 0) (x : ℕ) (xs : List ℕ) → AllByRecursion P xs → AllByRecursion P (left_of x xs)
each-left P x xs h = each-take P (prefix_len (λ y. not (y == x)) xs) xs h

-- where a number is once, it is not before that
pub once_before : (w : ℕ) (front after : List ℕ) → copies w (front ++ w ∷ after) ≡ w ∷ [] → AllByRecursion (λ y. y ≢ w) front
once_before w front after h =
    let parts = filter-append (λ y. y == w) front (w ∷ after) in
    let here = cond-true (w == w) (w ∷ copies w after) (copies w after) (same_number w) in
    let none : length (copies w front) ≡ 0 = omega (arith, ap length h, ap length parts, ap length here, length-append (copies w front) (copies w (w ∷ after))) in
    each_weaker (λ y. (y == w) ≡ false) (λ y. y ≢ w) (λ y e same. false≢true (sym e ∙ eq-eqb y w same)) front (each_failed (λ y. y == w) front (nil_from_length (copies w front) none))

pub right_of_split : (x : ℕ) (xs ys : List ℕ) → AllByRecursion (λ y. y ≢ x) xs → right_of x (xs ++ x ∷ ys) ≡ ys
right_of_split x [] ys h = cond-true (x == x) ys (right_of x ys) (same_number x)
right_of_split x (y ∷ xs) ys h =
    cond-false (y == x) (xs ++ x ∷ ys) (right_of x (xs ++ x ∷ ys)) (differs y x h.0) ∙ right_of_split x xs ys h.1

-- the last of a list, and what is before it
pub last_split : (xs : List ℕ) (y : ℕ) → slice_get xs (length xs - 1) ≡ Some y → xs ≡ take (length xs - 1) xs ++ y ∷ []
last_split xs y h =
    split_at xs (length xs - 1) y h ∙ ap (λ l. take (length xs - 1) xs ++ y ∷ l) (drop_all (suc (length xs - 1)) xs (omega arith))

-- an element that has a parent

module _ (doc : List Element) (v : IsValid doc) (x p : ℕ) (there : IsElement doc x) (parent : parent_of doc x ≡ Some p) where
  pub siblings-children : siblings doc x ≡ children doc p
  siblings-children = ap (λ b. cond b (beside doc x (parent_of doc x)) []) there ∙ ap (beside doc x) parent

  pub place_of-inside : place_of doc x + 1 ≤ length (children doc p)
  place_of-inside =
      let inside = left_of-shorter x (children doc p) (in_copied x (children doc p) [] (copies-children doc p x v.distinct parent)) in
      omega (arith, ap (λ l. length (left_of x l)) siblings-children)

-- the siblings are elements

module _ (doc : List Element) (v : IsValid doc) where
  each_child : (p : ℕ) → AllByRecursion (IsElement doc) (children doc p)
  each_child p = each_weaker (λ y. parent_of doc y ≡ Some p) (IsElement doc) (λ y e. parent_of-element doc y p e) (children doc p) (each_child-parent doc p v.distinct)

  each_beside : (x : ℕ) (o : Option ℕ) → IsElement doc x → AllByRecursion (IsElement doc) (beside doc x o)
  each_beside x None h = (h, tt)
  each_beside x (Some p) h = each_child p

  sibling_found : (x : ℕ) (b : Bool) → is_element doc x ≡ b → AllByRecursion (IsElement doc) (cond b (beside doc x (parent_of doc x)) [])
  sibling_found x true h = each_beside x (parent_of doc x) h
  sibling_found x false h = tt

  pub each_sibling : (x : ℕ) → AllByRecursion (IsElement doc) (siblings doc x)
  each_sibling x = sibling_found x (is_element doc x) refl

  pub each_left_sibling : (x : ℕ) → AllByRecursion (IsElement doc) (left_of x (siblings doc x))
  each_left_sibling x = each-left (IsElement doc) x (siblings doc x) (each_sibling x)
