-- Laws of the tree order of a list of nodes, and of the document that it stands for.
use Rattle.std.proofs.Common.{◌≡◌, ℕ, zero, suc, ◌+◌, ◌<◌, ◌≤◌, ◌==◌, nat_eq, List, [], ◌∷◌, ◌++◌, filter, flat_map, length, take, true, false, cond, ◌||◌, Option, Some, None, All, option_map, option_and_then, unwrap_or, codes, Decides, slice_get, refl, sym, ap, subst, ◌∙◌, inl, inr, is_some, arith}
use Rattle.std.specs.List.{AllByRecursion, IsDistinct}
use Rattle.std.specs.FinMap as map
use Rattle.std.specs.Option.{option_map_or}
use Rattle.std.proofs.lemmas.Bool.{cond-true, cases_lt, cases_eq, eq-eqb, false_from_ne_true}
use Rattle.std.proofs.lemmas.List.{length-map}
use Rattle.std.proofs.lemmas.List.Elements.{All-from_recursion, filter_agree}
use Rattle.scene_model.specs.Element.{Characters, State, has_state}
use Rattle.scene_model.specs.Words.{has_word}
use Rattle.scene_model.specs.Lookups.{numbers, element_at, is_element, IsElement, parent_of, children, beside, siblings, left_of, place_of, tag_of, attribute_of, has_class, state_of}
use Rattle.scene_model.specs.Ancestors.{position_of, ancestors}
use Rattle.scene_model.specs.Valid.{IsValid}
use Rattle.scene_model.specs.Nodes.{Node, IsNodeList, listed, subtree, tree_order, scene_of}
use Rattle.scene_model.proofs.Lists.{each_weaker}
use Rattle.scene_model.proofs.Numbers.{is_in, index_in, in_copied, each_is_in, differs, same_number, length_from_copies, distinct_from_copies}
use Rattle.scene_model.proofs.Found.{hangs_on, element_at-filter_map, numbers-filter_map, children-hangs, is_element-at, position_of-numbers, cond_none}
use Rattle.scene_model.proofs.Listed.{distinct-listed, parent-below, parent-listed, root-listed, each_child, is_element-listed, within-listed, element_at-listed_none, parent-element, only_root-listed, siblings-listed, left_of-listed, place_of-listed, place_of-listed_root}
use Rattle.scene_model.proofs.Before.{parent_earlier}
use Rattle.scene_model.proofs.Subtrees.{IsTree, subtree-law, each_below, copies-whole, copies-whole_none, hangs_on-whole, each_whole, run-whole, in_subtree-parent}
use Rattle.scene_model.proofs.Climbing.{ancestors-root, ancestors-child}

pub IsTree-listed : (nodes : List Node) → IsNodeList nodes → IsTree (listed nodes) (length nodes)
IsTree-listed nodes v =
    record { grows = record { distinct = distinct-listed nodes; above = each_child nodes v }; some = v.some; root = root-listed nodes v; parents = λ x h k. (let (q, e) = parent-listed nodes v x h k in let b = parent-below nodes v x q e in (q, e, b.0, b.1)) }

module _ (nodes : List Node) (v : IsNodeList nodes) where
  by_range : (P : ℕ → Type 0) → ((x : ℕ) → 0 < x → x ≤ length nodes → P x) → ((x : ℕ) → (0 < x → length nodes < x) → P x) → (x : ℕ) → P x
  by_range P inside outside x =
      elim (cases_lt 0 x) [
        | inl a ↦ (elim (cases_lt (length nodes) x) [ inl b ↦ outside x (λ _. b) | inr b ↦ inside x a b ])
        | inr a ↦ outside x (λ c. absurd (omega arith))
      ]

  pub subtree-listed : (x : ℕ) → 0 < x → x ≤ length nodes → subtree (listed nodes) (length nodes) x ≡ x ∷ flat_map (subtree (listed nodes) (length nodes)) (children (listed nodes) x)
  subtree-listed x h k = subtree-law (listed nodes) (length nodes) (IsTree-listed nodes v).grows x h k

  -- each number of a subtree is from its top's to the length
  pub subtree-within : (x : ℕ) → x ≤ length nodes → All (λ y. (x ≤ y) × (y ≤ length nodes)) (subtree (listed nodes) (length nodes) x)
  subtree-within x h = All-from_recursion (λ y. (x ≤ y) × (y ≤ length nodes)) (subtree (listed nodes) (length nodes) x) (each_below (listed nodes) (length nodes) (IsTree-listed nodes v).grows (length nodes) x h)

  pub each_in_order : AllByRecursion (λ y. (0 < y) × (y ≤ length nodes)) (tree_order nodes)
  unfolding tree_order
  each_in_order = each_whole (listed nodes) (length nodes) (IsTree-listed nodes v)

  -- each number from 1 to the length is once in the tree order
  pub once_in_order : (x : ℕ) → 0 < x → x ≤ length nodes → filter (λ y. y == x) (tree_order nodes) ≡ x ∷ []
  unfolding tree_order
  once_in_order x h k = copies-whole (listed nodes) (length nodes) (IsTree-listed nodes v) x h k

  pub never_in_order : (x : ℕ) → (0 < x → length nodes < x) → filter (λ y. y == x) (tree_order nodes) ≡ []
  unfolding tree_order
  never_in_order x h = copies-whole_none (listed nodes) (length nodes) (IsTree-listed nodes v) x h

  pub length-tree_order : length (tree_order nodes) ≡ length nodes
  length-tree_order = length_from_copies (length nodes) (tree_order nodes) each_in_order once_in_order

  at_most_once : (x : ℕ) → length (filter (λ y. y == x) (tree_order nodes)) ≤ 1
  at_most_once x =
      by_range (λ y. length (filter (λ z. z == y) (tree_order nodes)) ≤ 1) (λ y h k. omega (arith, ap length (once_in_order y h k))) (λ y h. omega (arith, ap length (never_in_order y h))) x

  pub distinct-tree_order : IsDistinct nat_eq (tree_order nodes)
  distinct-tree_order = distinct_from_copies (tree_order nodes) at_most_once

  pub numbers-scene_of : numbers (scene_of nodes) ≡ tree_order nodes
  unfolding scene_of
  numbers-scene_of =
      numbers-filter_map (listed nodes) (tree_order nodes) (each_weaker (λ y. (0 < y) × (y ≤ length nodes)) (IsElement (listed nodes)) (λ y h. is_element-listed nodes y h.0 h.1) (tree_order nodes) each_in_order)

  pub length-scene_of : length (scene_of nodes) ≡ length nodes
  length-scene_of = sym (length-map (scene_of nodes) (λ e. e.number)) ∙ (ap length numbers-scene_of ∙ length-tree_order)

  pub distinct-scene_of : IsDistinct nat_eq (numbers (scene_of nodes))
  distinct-scene_of = subst (IsDistinct nat_eq) (sym numbers-scene_of) distinct-tree_order

  -- the look-ups by number are the list's

  pub element_at-scene_of : (x : ℕ) → element_at (scene_of nodes) x ≡ element_at (listed nodes) x
  unfolding scene_of
  element_at-scene_of x =
      element_at-filter_map (listed nodes) (tree_order nodes) x ∙ by_range (λ y. cond (is_in y (tree_order nodes)) (element_at (listed nodes) y) None ≡ element_at (listed nodes) y) (λ y h k. cond-true (is_in y (tree_order nodes)) (element_at (listed nodes) y) None (in_copied y (tree_order nodes) [] (once_in_order y h k))) (λ y h. cond_none (is_in y (tree_order nodes)) (element_at (listed nodes) y) (element_at-listed_none nodes y (λ e. let w = within-listed nodes y e in let past : length nodes < y = h w.0 in omega arith))) x

  pub is_element-scene_of : (x : ℕ) → is_element (scene_of nodes) x ≡ is_element (listed nodes) x
  is_element-scene_of x = is_element-at (scene_of nodes) x ∙ (ap is_some (element_at-scene_of x) ∙ sym (is_element-at (listed nodes) x))

  pub parent_of-scene_of : (x : ℕ) → parent_of (scene_of nodes) x ≡ parent_of (listed nodes) x
  parent_of-scene_of x = ap (option_and_then (λ e. e.parent)) (element_at-scene_of x)

  pub tag_of-scene_of : (x : ℕ) → tag_of (scene_of nodes) x ≡ tag_of (listed nodes) x
  tag_of-scene_of x = ap (λ o. unwrap_or (option_map (λ e. e.tag) o) []) (element_at-scene_of x)

  pub attribute_of-scene_of : (x : ℕ) (name : Characters) → attribute_of (scene_of nodes) x name ≡ attribute_of (listed nodes) x name
  attribute_of-scene_of x name = ap (option_and_then (λ e. map.get e.attrs name)) (element_at-scene_of x)

  pub has_class-scene_of : (x : ℕ) (class : Characters) → has_class (scene_of nodes) x class ≡ has_class (listed nodes) x class
  has_class-scene_of x class = ap (λ o. option_map_or (has_word class) o false) (attribute_of-scene_of x (codes "class"))

  pub state_of-scene_of : (x : ℕ) (state : State) → state_of (scene_of nodes) x state ≡ state_of (listed nodes) x state
  state_of-scene_of x state = ap (λ o. option_map_or (λ e. has_state e.states state) o false) (element_at-scene_of x)

  pub root-scene_of : parent_of (scene_of nodes) 1 ≡ None
  root-scene_of = parent_of-scene_of 1 ∙ root-listed nodes v

  pub children-scene_of : (p : ℕ) → children (scene_of nodes) p ≡ children (listed nodes) p
  unfolding tree_order
  children-scene_of p =
      children-hangs (scene_of nodes) p distinct-scene_of ∙ (ap (filter (hangs_on (scene_of nodes) p)) numbers-scene_of ∙ (filter_agree (hangs_on (scene_of nodes) p) (hangs_on (listed nodes) p) (λ y. ap (λ o. option_map_or (λ q. q == p) o false) (parent_of-scene_of y)) (tree_order nodes) ∙ hangs_on-whole (listed nodes) (length nodes) (IsTree-listed nodes v) p))

  beside-scene_of : (x : ℕ) (o : Option ℕ) → beside (scene_of nodes) x o ≡ beside (listed nodes) x o
  beside-scene_of x None = refl
  beside-scene_of x (Some p) = children-scene_of p

  pub siblings-scene_of : (x : ℕ) → siblings (scene_of nodes) x ≡ siblings (listed nodes) x
  siblings-scene_of x =
      ap (λ b. cond b (beside (scene_of nodes) x (parent_of (scene_of nodes) x)) []) (is_element-scene_of x) ∙ ap (λ l. cond (is_element (listed nodes) x) l []) (ap (beside (scene_of nodes) x) (parent_of-scene_of x) ∙ beside-scene_of x (parent_of (listed nodes) x))

  pub place_of-scene_of : (x : ℕ) → place_of (scene_of nodes) x ≡ place_of (listed nodes) x
  place_of-scene_of x = ap (λ l. length (left_of x l)) (siblings-scene_of x)

  pub siblings-child : (k : ℕ) (node : Node) (p : ℕ) → slice_get nodes k ≡ Some node → node.parent ≡ Some p → siblings (scene_of nodes) (k + 1) ≡ children (listed nodes) (p + 1)
  siblings-child k node p h e = siblings-scene_of (k + 1) ∙ siblings-listed nodes k node p h e

  -- left of a node are its parent's children that the list has before it
  pub left_of-child : (k : ℕ) (node : Node) (p : ℕ) → slice_get nodes k ≡ Some node → node.parent ≡ Some p → left_of (k + 1) (siblings (scene_of nodes) (k + 1)) ≡ children (listed (take k nodes)) (p + 1)
  left_of-child k node p h e = ap (left_of (k + 1)) (siblings-scene_of (k + 1)) ∙ left_of-listed nodes k node p h e

  -- a node's sibling index is how many of its parent's children the list has before it
  pub place_of-child : (k : ℕ) (node : Node) (p : ℕ) → slice_get nodes k ≡ Some node → node.parent ≡ Some p → place_of (scene_of nodes) (k + 1) ≡ length (children (listed (take k nodes)) (p + 1))
  place_of-child k node p h e = place_of-scene_of (k + 1) ∙ place_of-listed nodes k node p h e

  pub place_of-root : (k : ℕ) (node : Node) → slice_get nodes k ≡ Some node → node.parent ≡ None → place_of (scene_of nodes) (k + 1) ≡ 0
  place_of-root k node h e = place_of-scene_of (k + 1) ∙ place_of-listed_root nodes k node h e

  -- what a document must have

  pub IsElement-scene_of : (x : ℕ) → 0 < x → x ≤ length nodes → IsElement (scene_of nodes) x
  IsElement-scene_of x h k = is_element-scene_of x ∙ is_element-listed nodes x h k

  pub within-scene_of : (x : ℕ) → IsElement (scene_of nodes) x → (0 < x) × (x ≤ length nodes)
  within-scene_of x h = within-listed nodes x (sym (is_element-scene_of x) ∙ h)

  pub decides-scene_of : (x : ℕ) → Decides (is_element (scene_of nodes) x) ((0 < x) × (x ≤ length nodes))
  decides-scene_of x = (within-scene_of x, λ h. IsElement-scene_of x h.0 h.1)

  index_in_scene : (x : ℕ) → position_of (scene_of nodes) x ≡ index_in (tree_order nodes) x
  index_in_scene x = position_of-numbers (scene_of nodes) x ∙ ap (λ l. index_in l x) numbers-scene_of

  pub position_of-parent : (x p : ℕ) → parent_of (scene_of nodes) x ≡ Some p → position_of (scene_of nodes) p < position_of (scene_of nodes) x
  unfolding tree_order
  position_of-parent x p h =
      let e : parent_of (listed nodes) x ≡ Some p = sym (parent_of-scene_of x) ∙ h in
      let b = parent-below nodes v x p e in
      let there : is_in x (tree_order nodes) ≡ true = in_copied x (tree_order nodes) [] (once_in_order x (omega arith) b.2) in
      let l : index_in (tree_order nodes) p < index_in (tree_order nodes) x =
      parent_earlier (listed nodes) (length nodes) 1 x p (distinct-listed nodes) (root-listed nodes v) there e in
      rw (index_in_scene p, index_in_scene x) l

  first_in_order : index_in (tree_order nodes) 1 ≡ 0
  unfolding tree_order
  first_in_order = ap (λ l. index_in l 1) (subtree-listed 1 (omega arith) v.some)

  pub position_of-root : position_of (scene_of nodes) 1 ≡ 0
  position_of-root = index_in_scene 1 ∙ first_in_order

  pub IsValid-scene_of : IsValid (scene_of nodes)
  IsValid-scene_of =
      record { distinct = distinct-scene_of; parents = λ x p h. (parents_elements x p h, position_of-parent x p h); root = root_first }
    where
      parents_elements : (x p : ℕ) → parent_of (scene_of nodes) x ≡ Some p → IsElement (scene_of nodes) p
      parents_elements x p h = is_element-scene_of p ∙ parent-element nodes v x p (sym (parent_of-scene_of x) ∙ h)

      root_first : (x : ℕ) → IsElement (scene_of nodes) x → parent_of (scene_of nodes) x ≡ None → position_of (scene_of nodes) x ≡ 0
      root_first x is h =
          let first : x ≡ 1 = only_root-listed nodes v x (sym (is_element-scene_of x) ∙ is) (sym (parent_of-scene_of x) ∙ h) in
          ap (position_of (scene_of nodes)) first ∙ position_of-root

  -- each subtree is one run

  pub subtree-run : (x : ℕ) → 0 < x → x ≤ length nodes → (before : List ℕ) × (behind : List ℕ) × (tree_order nodes ≡ before ++ (subtree (listed nodes) (length nodes) x ++ behind))
  unfolding tree_order
  subtree-run x h k = run-whole (listed nodes) (length nodes) (IsTree-listed nodes v) x h k

  pub is_in-subtree_top : (x : ℕ) → 0 < x → x ≤ length nodes → is_in x (subtree (listed nodes) (length nodes) x) ≡ true
  is_in-subtree_top x h k = ap (is_in x) (subtree-listed x h k) ∙ ap (λ b. b || is_in x (flat_map (subtree (listed nodes) (length nodes)) (children (listed nodes) x))) (same_number x)

  IsInUnder : ℕ → ℕ → Type 0
  IsInUnder x y = is_in y (subtree (listed nodes) (length nodes) x) ≡ ((y == x) || is_in x (ancestors (scene_of nodes) y))

  in_top : (x y : ℕ) → 0 < x → x ≤ length nodes → y ≡ x → IsInUnder x y
  unfolding IsInUnder
  in_top x y h k e =
      ap (λ z. is_in z (subtree (listed nodes) (length nodes) x)) e ∙ (is_in-subtree_top x h k ∙ sym (ap (λ b. b || is_in x (ancestors (scene_of nodes) y)) (eq-eqb y x e)))

  root_in : (x y : ℕ) → 0 < x → x ≤ length nodes → (y ≡ x → ⊥) → parent_of (listed nodes) y ≡ None → is_in y (subtree (listed nodes) (length nodes) x) ≡ true → ⊥
  root_in x y h k d e j =
      let within = each_is_in (λ z. (x ≤ z) × (z ≤ length nodes)) y (subtree (listed nodes) (length nodes) x) (each_below (listed nodes) (length nodes) (IsTree-listed nodes v).grows (length nodes) x k) j in
      let first : y ≡ 1 = only_root-listed nodes v y (is_element-listed nodes y (omega arith) within.1) e in
      d (omega arith)

  -- a number with no parent is in no subtree but its own
  in_root : (x y : ℕ) → 0 < x → x ≤ length nodes → (y ≡ x → ⊥) → parent_of (listed nodes) y ≡ None → IsInUnder x y
  unfolding IsInUnder
  in_root x y h k d e =
      let absent : is_in y (subtree (listed nodes) (length nodes) x) ≡ false =
      false_from_ne_true (is_in y (subtree (listed nodes) (length nodes) x)) (root_in x y h k d e) in
      let none : is_in x (ancestors (scene_of nodes) y) ≡ false = ap (is_in x) (ancestors-root (scene_of nodes) IsValid-scene_of y (parent_of-scene_of y ∙ e)) in
      absent ∙ (sym none ∙ ap (λ b. b || is_in x (ancestors (scene_of nodes) y)) (sym (differs y x d)))

  in_child : (x y p : ℕ) → 0 < x → x ≤ length nodes → (y ≡ x → ⊥) → parent_of (listed nodes) y ≡ Some p → IsInUnder x p → IsInUnder x y
  unfolding IsInUnder
  in_child x y p h k d e r =
      in_subtree-parent (listed nodes) (length nodes) (IsTree-listed nodes v) x y p h k (λ f. d (sym f)) e ∙ (r ∙ (sym (ap (is_in x) (ancestors-child (scene_of nodes) IsValid-scene_of y p (parent_of-scene_of y ∙ e))) ∙ ap (λ b. b || is_in x (ancestors (scene_of nodes) y)) (sym (differs y x d))))

  in_by_parent : (x y : ℕ) (o : Option ℕ) → 0 < x → x ≤ length nodes → parent_of (listed nodes) y ≡ o → ((p : ℕ) → parent_of (listed nodes) y ≡ Some p → IsInUnder x p) → IsInUnder x y
  in_by_parent x y None h k e r = elim (cases_eq y x) [ inl same ↦ in_top x y h k same | inr d ↦ in_root x y h k d e ]
  in_by_parent x y (Some p) h k e r = elim (cases_eq y x) [ inl same ↦ in_top x y h k same | inr d ↦ in_child x y p h k d e (r p e) ]

  in_up_to : (m x y : ℕ) → y ≤ m → 0 < x → x ≤ length nodes → IsInUnder x y
  in_up_to zero x y j h k = in_by_parent x y (parent_of (listed nodes) y) h k refl (λ p e. let b = parent-below nodes v y p e in absurd (omega arith))
  in_up_to (suc m) x y j h k = in_by_parent x y (parent_of (listed nodes) y) h k refl (λ p e. let b = parent-below nodes v y p e in in_up_to m x p (omega arith) h k)

  -- a subtree has the element and those that have it among their ancestors
  pub is_in-subtree : (x y : ℕ) → 0 < x → x ≤ length nodes → is_in y (subtree (listed nodes) (length nodes) x) ≡ ((y == x) || is_in x (ancestors (scene_of nodes) y))
  unfolding IsInUnder
  is_in-subtree x y h k = in_up_to y x y (omega arith) h k
