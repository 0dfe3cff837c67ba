-- The limit of depth, of an insertion and of a move.
use Rattle.std.proofs.Common.{◌≡◌, ◌≢◌, ◌↔◌, ℕ, zero, suc, ◌+◌, ◌-◌, ◌<◌, ◌≤◌, ◌==◌, ◌||◌, ◌&&◌, Bool, true, false, cond, List, [], ◌∷◌, map, filter, nat_le, Option, Some, None, option_map, option_and_then, is_some, refl, sym, ap, ◌∙◌, subst, inl, inr, arith}
use Rattle.std.specs.List.{AllByRecursion, list_all}
use Rattle.std.specs.Option.{option_map_or}
use Rattle.std.proofs.lemmas.Bool.{and_from, and_parts, cases_lt, false≢true, le-leb, leb-true, leb-false, lt-leb, or_left, or_right}
use Rattle.std.proofs.lemmas.List.Folds.{list_all-map}
use Rattle.base_model.specs.Limits.{depth_limit}
use Rattle.scene_model.specs.Ancestors.{depth_of}
use Rattle.scene_model.specs.Document.{Document}
use Rattle.scene_model.specs.Element.{Element}
use Rattle.scene_model.specs.Lookups.{IsElement, element_at, is_element, numbers, parent_of}
use Rattle.scene_model.specs.Nodes.{Node, IsNodeList, listed, scene_of}
use Rattle.scene_model.proofs.Found.{is_element-at, is_element-numbers, parent_of-element}
use Rattle.scene_model.proofs.Numbers.{each_is_in, is_in, same_number}
use Rattle.scene_model.proofs.TreeOrder.{IsElement-scene_of, IsValid-scene_of, is_element-scene_of, root-scene_of, within-scene_of}
use Rattle.change_model.specs.ChildLists.{CanInsert, CanMove, inserted, moved, renumbered}
use Rattle.change_model.specs.Sound.{is_below, subtree_of}
use Rattle.change_model.proofs.Below.{below_cases, below_itself, below_parent, downwards}
use Rattle.change_model.proofs.GraftChildren.{first_is}
use Rattle.change_model.proofs.Inserted.{IsSound-inserted, depth_of-inserted_new, element_at-inserted_new, inserted_in, parent_of-inserted}
use Rattle.change_model.proofs.Moved.{depth_of-moved, is_below-moved, is_element-moved}
use Rattle.change_model.proofs.Parts.{is_element-filter}
use Rattle.edit_model.specs.Apply.{depth_past}
use Rattle.edit_model.specs.Refusal.{limit, tree_depth, unless}
use Rattle.edit_model.proofs.LimitCases.{too_deep_below}
use Rattle.dom_tree.specs.Depths.{depths_of}

-- numbers of which each passes a test, or one does not

some_false : (t : ℕ → Bool) (xs : List ℕ) → list_all t xs ≡ false → (z : ℕ) × (is_in z xs ≡ true) × (t z ≡ false)
some_false t [] h = absurd (false≢true (sym h))
some_false t (x ∷ xs) h = by (t x) refl (some_false t xs)
  where
    by : (b : Bool) → t x ≡ b → (list_all t xs ≡ false → (z : ℕ) × (is_in z xs ≡ true) × (t z ≡ false)) → (z : ℕ) × (is_in z (x ∷ xs) ≡ true) × (t z ≡ false)
    by false e rest = (x, or_left (x == x) (is_in x xs) (same_number x), e)
    by true e rest =
        let (z, there, fails) = rest (sym (ap (λ b. b && list_all t xs) e) ∙ h) in
        (z, or_right (x == z) (is_in z xs) there, fails)

from_map : (f : ℕ → ℕ) (n : ℕ) (xs : List ℕ) → AllByRecursion (λ m. m ≤ n) (map f xs) → AllByRecursion (λ x. f x ≤ n) xs
from_map f n [] h = tt
from_map f n (x ∷ xs) h = (h.0, from_map f n xs h.1)

to_map : (f : ℕ → ℕ) (n : ℕ) (xs : List ℕ) → AllByRecursion (λ x. f x ≤ n) xs → AllByRecursion (λ m. m ≤ n) (map f xs)
to_map f n [] h = tt
to_map f n (x ∷ xs) h = (h.0, to_map f n xs h.1)

each_low : (f : ℕ → ℕ) (n : ℕ) (xs : List ℕ) → list_all (λ x. nat_le (f x) n) xs ≡ true → AllByRecursion (λ x. f x ≤ n) xs
each_low f n [] h = tt
each_low f n (x ∷ xs) h =
    let parts = and_parts (nat_le (f x) n) (list_all (λ y. nat_le (f y) n) xs) h in
    (leb-true (f x) n parts.0, each_low f n xs parts.1)

-- one of them is higher, where not all are as low
some_higher : (f : ℕ → ℕ) (n : ℕ) (xs : List ℕ) → (AllByRecursion (λ x. f x ≤ n) xs → ⊥) → (z : ℕ) × (is_in z xs ≡ true) × (n < f z)
some_higher f n xs h = by (list_all (λ x. nat_le (f x) n) xs) refl
  where
    by : (b : Bool) → list_all (λ x. nat_le (f x) n) xs ≡ b → (z : ℕ) × (is_in z xs ≡ true) × (n < f z)
    by true e = absurd (h (each_low f n xs e))
    by false e = let (z, there, fails) = some_false (λ x. nat_le (f x) n) xs e in (z, there, leb-false (f z) n fails)

-- what a test of each element of a part asks

in_part : (els : List Element) (kept : ℕ → Bool) (z : ℕ) → IsElement els z → kept z ≡ true → is_in z (numbers (filter (λ e. kept e.number) els)) ≡ true
in_part els kept z there k =
    sym (is_element-numbers (filter (λ e. kept e.number) els) z) ∙ (is_element-filter els kept z ∙ and_from (kept z) (is_element els z) k there)

of_part : (els : List Element) (kept : ℕ → Bool) (z : ℕ) → is_in z (numbers (filter (λ e. kept e.number) els)) ≡ true → (kept z ≡ true) × IsElement els z
of_part els kept z h =
    and_parts (kept z) (is_element els z) (sym (is_element-filter els kept z) ∙ (is_element-numbers (filter (λ e. kept e.number) els) z ∙ h))

all_below : (test kept : ℕ → Bool) (els : List Element) → ((x : ℕ) → IsElement els x → kept x ≡ true → test x ≡ true) → list_all (λ e. test e.number) (filter (λ e. kept e.number) els) ≡ true
all_below test kept els h = by (list_all test (numbers (filter (λ e. kept e.number) els))) refl
  where
    by : (b : Bool) → list_all test (numbers (filter (λ e. kept e.number) els)) ≡ b → list_all (λ e. test e.number) (filter (λ e. kept e.number) els) ≡ true
    by true e = sym (list_all-map test (λ (d : Element). d.number) (filter (λ e. kept e.number) els)) ∙ e
    by false e =
        let (z, there, fails) = some_false test (numbers (filter (λ e. kept e.number) els)) e in
        let (k, is) = of_part els kept z there in
        absurd (false≢true (sym fails ∙ h z is k))

-- whether the limit is passed, told by any test
pub depth_told : (els : List Element) (n : ℕ) (b : Bool) → (b ≡ true → (z : ℕ) → IsElement els z → is_below els n z ≡ true → depth_of els z ≤ depth_limit)
    → (b ≡ false → (z : ℕ) × IsElement els z × (is_below els n z ≡ true) × (depth_limit < depth_of els z)) → depth_past els n ≡ unless b (limit tree_depth depth_limit)
depth_told els n true within beyond =
    ap (λ b. unless b (limit tree_depth depth_limit)) (all_below (λ x. nat_le (depth_of els x) depth_limit) (is_below els n) els (λ z there below. le-leb (depth_of els z) depth_limit (within refl z there below)))
depth_told els n false within beyond = let (z, there, below, deep) = beyond refl in too_deep_below els n z there below deep

-- an insertion

module _ {d : Document} {p : ℕ} {nodes : List Node} (can : CanInsert d p nodes) (index : ℕ) where
  abbrev new : List Element
  new = (inserted d p index nodes).elements

  abbrev scene : List Element
  scene = scene_of nodes

  -- what was there is not below the new ones
  old_apart : (z : ℕ) → z ≤ d.last → is_below new (d.last + 1) z ≡ true → ⊥
  old_apart z = downwards new (IsSound-inserted can index).valid (λ z. z ≤ d.last → is_below new (d.last + 1) z ≡ true → ⊥) step z
    where
      step : (z : ℕ) → ((q : ℕ) → parent_of new z ≡ Some q → q ≤ d.last → is_below new (d.last + 1) q ≡ true → ⊥) → z ≤ d.last → is_below new (d.last + 1) z ≡ true → ⊥
      step z r low h = elim (below_cases new (IsSound-inserted can index).valid (d.last + 1) z h) [
        | inl same ↦ omega (arith, same, low)
        | inr (q, e, below) ↦ r q e (can.sound.given q (can.sound.valid.parents z q (sym (parent_of-inserted can index z low) ∙ e)).0).1 below
      ]

  -- the new ones are below the first of them
  hung_new : (y : ℕ) (e : Option Element) → element_at scene y ≡ e → (q : ℕ) → option_and_then (λ f. f.parent) e ≡ Some q → parent_of new (d.last + y) ≡ Some (d.last + q)
  hung_new y None is q h = absurd (cc)
  hung_new y (Some e) is q h =
      ap (option_and_then (λ f. f.parent)) (element_at-inserted_new can index y (is_element-at scene y ∙ ap is_some is))
      ∙ (ap (λ o. option_and_then (λ f. f.parent) (option_map (renumbered d.last p) o)) is ∙ ap (λ o. Some (option_map_or (λ q. d.last + q) o p)) h)

  new_below : (y : ℕ) → IsElement scene y → is_below new (d.last + 1) (d.last + y) ≡ true
  new_below y = downwards scene (IsValid-scene_of nodes can.shape) (λ y. IsElement scene y → is_below new (d.last + 1) (d.last + y) ≡ true) (λ y r. step y (parent_of scene y) refl r) y
    where
      root : IsElement scene 1
      root = IsElement-scene_of nodes can.shape 1 (omega arith) can.shape.some

      step : (y : ℕ) (o : Option ℕ) → parent_of scene y ≡ o → ((q : ℕ) → parent_of scene y ≡ Some q → IsElement scene q → is_below new (d.last + 1) (d.last + q) ≡ true) → IsElement scene y
          → is_below new (d.last + 1) (d.last + y) ≡ true
      step y None e r there =
          let same : 1 ≡ y = first_is scene 1 y root ((IsValid-scene_of nodes can.shape).root 1 root (root-scene_of nodes can.shape)) ((IsValid-scene_of nodes can.shape).root y there e) in
          subst (λ z. is_below new (d.last + 1) (d.last + z) ≡ true) same (below_itself new (d.last + 1))
      step y (Some q) e r there =
          below_parent new (IsSound-inserted can index).valid (d.last + 1) (d.last + y) (d.last + q) (hung_new y (element_at scene y) refl q e)
          (r q e ((IsValid-scene_of nodes can.shape).parents y q e).0)

  -- the numbers of the nodes
  listed_in : (y : ℕ) → IsElement scene y → is_in y (numbers (listed nodes)) ≡ true
  listed_in y there = sym (is_element-numbers (listed nodes) y) ∙ (sym (is_element-scene_of nodes can.shape y) ∙ there)

  in_listed : (y : ℕ) → is_in y (numbers (listed nodes)) ≡ true → IsElement scene y
  in_listed y h = is_element-scene_of nodes can.shape y ∙ (is_element-numbers (listed nodes) y ∙ h)

  module _ (deepest : ℕ) (told : (n : ℕ) → (deepest ≤ n) ↔ AllByRecursion (λ depth. depth ≤ n) (depths_of nodes)) where
    each_deep : (y : ℕ) → IsElement scene y → depth_of scene y ≤ deepest
    each_deep y there =
        each_is_in (λ y. depth_of scene y ≤ deepest) y (numbers (listed nodes)) (from_map (depth_of scene) deepest (numbers (listed nodes)) ((told deepest).0 (omega arith))) (listed_in y there)

    pub insertion_depth : {room : ℕ} → room ≡ depth_limit - depth_of d.elements p → depth_past new (d.last + 1) ≡ unless (nat_le deepest room) (limit tree_depth depth_limit)
    insertion_depth {room} is = depth_told new (d.last + 1) (nat_le deepest room) within beyond
      where
        within : nat_le deepest room ≡ true → (z : ℕ) → IsElement new z → is_below new (d.last + 1) z ≡ true → depth_of new z ≤ depth_limit
        within e z there below = elim (cases_lt d.last z) [
          | inr low ↦ absurd (old_apart z low below)
          | inl high ↦
              let y : ℕ = z - d.last in
              let same : d.last + y ≡ z = omega (arith, high) in
              let is_there = IsElement-scene_of nodes can.shape y (omega (arith, high)) (omega (arith, high, ((IsSound-inserted can index).given z there).1)) in
              let low = each_deep y is_there in
              let amount : depth_of new z ≡ depth_of scene y + depth_of d.elements p = ap (depth_of new) (sym same) ∙ depth_of-inserted_new can index y is_there in
              omega (arith, amount, low, leb-true deepest room e, is)
        ]

        beyond : nat_le deepest room ≡ false → (z : ℕ) × IsElement new z × (is_below new (d.last + 1) z ≡ true) × (depth_limit < depth_of new z)
        beyond e =
            let (y, there, deep) = some_higher (depth_of scene) room (numbers (listed nodes)) (λ all. (let l = (told room).1 (to_map (depth_of scene) room (numbers (listed nodes)) all) in omega (arith, l, leb-false deepest room e))) in
            let is_there = in_listed y there in
            let bounds = within-scene_of nodes can.shape y is_there in
            (d.last + y, inserted_in can index (d.last + y) (omega (arith, bounds)) (omega (arith, bounds)), new_below y is_there, omega (arith, deep, depth_of-inserted_new can index y is_there, is))

-- a move

module _ {d : Document} {n o p : ℕ} (can : CanMove d n o p) (index : ℕ) where
  abbrev after : List Element
  after = (moved d n p index).elements

  module _ (deepest : ℕ) (told : (m : ℕ) → nat_le deepest m ≡ list_all (λ e. nat_le (depth_of d.elements e.number) m) (subtree_of d.elements n)) where
    by_numbers : (m : ℕ) → list_all (λ y. nat_le (depth_of d.elements y) m) (numbers (subtree_of d.elements n)) ≡ nat_le deepest m
    by_numbers m = list_all-map (λ y. nat_le (depth_of d.elements y) m) (λ (e : Element). e.number) (subtree_of d.elements n) ∙ sym (told m)

    up_to : (z : ℕ) → IsElement d.elements z → is_below d.elements n z ≡ true → depth_of d.elements z ≤ deepest
    up_to z there below =
        each_is_in (λ y. depth_of d.elements y ≤ deepest) z (numbers (subtree_of d.elements n))
        (each_low (depth_of d.elements) deepest (numbers (subtree_of d.elements n)) (by_numbers deepest ∙ le-leb deepest deepest (omega arith))) (in_part d.elements (is_below d.elements n) z there below)

    top_there : IsElement d.elements n
    top_there = parent_of-element d.elements n o can.parent

    low : 0 < deepest
    low = let l = up_to n top_there (below_itself d.elements n) in omega (arith, l)

    -- one of them is so deep
    so_deep : (z : ℕ) × IsElement d.elements z × (is_below d.elements n z ≡ true) × (deepest ≤ depth_of d.elements z)
    so_deep =
        let (z, there, fails) = some_false (λ y. nat_le (depth_of d.elements y) (deepest - 1)) (numbers (subtree_of d.elements n)) (by_numbers (deepest - 1) ∙ lt-leb deepest (deepest - 1) (omega (arith, low))) in
        let (below, is) = of_part d.elements (is_below d.elements n) z there in
        (z, is, below, let l = leb-false (depth_of d.elements z) (deepest - 1) fails in omega (arith, l))

    pub move_depth : (b : Bool) → (b ≡ true → deepest + (depth_of d.elements p + 1) ≤ depth_limit + depth_of d.elements n) → (b ≡ false → depth_limit + depth_of d.elements n < deepest + (depth_of d.elements p + 1))
        → depth_past after n ≡ unless b (limit tree_depth depth_limit)
    move_depth b fits passes = depth_told after n b within beyond
      where
        within : b ≡ true → (z : ℕ) → IsElement after z → is_below after n z ≡ true → depth_of after z ≤ depth_limit
        within e z there below =
            let was = sym (is_below-moved can index z) ∙ below in
            omega (arith, fits e, depth_of-moved can index z was, up_to z (sym (is_element-moved can index z) ∙ there) was)

        beyond : b ≡ false → (z : ℕ) × IsElement after z × (is_below after n z ≡ true) × (depth_limit < depth_of after z)
        beyond e =
            let (z, there, below, deep) = so_deep in
            (z, is_element-moved can index z ∙ there, is_below-moved can index z ∙ below, omega (arith, passes e, depth_of-moved can index z below, deep))
