-- The children of the nodes so far, and what one more node makes of them.
use Rattle.std.proofs.Common.{◌≡◌, ◌≢◌, ℕ, ◌+◌, ◌-◌, ◌<◌, ◌≤◌, List, [], ◌∷◌, ◌++◌, length, take, slice_set, Some, None, IfSome, slice_get, sym, ap, ◌∙◌, subst, refl, inl, inr, arith}
use Rattle.std.specs.List.{AllByRecursion}
use Rattle.std.proofs.Math.Seq.{take-length}
use Rattle.std.proofs.lemmas.Bool.{cases_eq}
use Rattle.std.proofs.lemmas.List.{length-set, length_push, length-take-le}
use Rattle.std.proofs.lemmas.Option.{slice_get_within}
use Rattle.base_model.proofs.Lists.{get_push_below, get_push_last}
use Rattle.scene_model.specs.Lookups.{children}
use Rattle.scene_model.specs.Nodes.{Node, IsNodeList, IsParentAt, listed}
use Rattle.scene_model.proofs.Listed.{parent_at, each_child, children_push_below, children_push_other, children_push_root, within-listed, IsNodeList-take}
use Rattle.dom_tree.specs.declared.numbers.Numbers.{Numbers}
use Rattle.dom_tree.specs.ChildLists.{AreChildren}
use Rattle.dom_tree.proofs.Places.{at_some, get_set_other, get_set_same, item_at, taken}

-- the children so far of the node at an index
abbrev kids : List Node → ℕ → ℕ → List ℕ
kids list k i = children (listed (take k list)) (i + 1)

pub record AreChildrenSoFar (list : List Node) (k : ℕ) (lists : List (List ℕ)) : Type 0 where
  pub count : length lists ≡ k
  pub each : (i : ℕ) → i < k → slice_get lists i ≡ Some (kids list k i)

-- the lists after a write and one more
record IsAfter (lists longer : List (List ℕ)) (p k : ℕ) (here last : List ℕ) : Type 0 where
  count : length longer ≡ k + 1
  changed : slice_get longer p ≡ Some here
  others : (i : ℕ) → i < k → i ≢ p → slice_get longer i ≡ slice_get lists i
  added : slice_get longer k ≡ Some last

lists_after : (lists hung longer : List (List ℕ)) (p k : ℕ) (here last : List ℕ) → length lists ≡ k → p < k → hung ≡ slice_set lists p here
    → longer ≡ hung ++ last ∷ [] → IsAfter lists longer p k here last
lists_after lists hung longer p k here last count l e f =
    let same : length hung ≡ k = ap length e ∙ (length-set lists p here ∙ count) in
    let front = λ (i : ℕ) (h : i < k). ap (λ l. slice_get l i) f ∙ (get_push_below hung i last (omega arith) ∙ ap (λ l. slice_get l i) e) in
    record {
      count = ap length f ∙ (length_push hung last ∙ ap (λ n. n + 1) same);
      changed = front p l ∙ get_set_same lists p here (omega arith);
      others = λ i h other. front i h ∙ get_set_other lists p i here (λ g. other (sym g));
      added = ap (λ l. slice_get l k) f ∙ get_push_last hung k last (sym same);
    }

pub parent_below : {list : List Node} {k p : ℕ} → IsNodeList list → k < length list → IfSome (slice_get list k) (λ node. Some p ≡ node.parent) → p < k
parent_below {list} {k} {p} v l told =
    let (node, at, e) = item_at list k (λ node. Some p ≡ node.parent) l told in
    subst (IsParentAt k) (sym e) (parent_at list k node v at)

-- a number after all so far has no children yet
none_yet : (k : ℕ) (xs : List ℕ) → AllByRecursion (λ y. (k + 1 < y) × (y ≤ k)) xs → xs ≡ []
none_yet k [] h = refl
none_yet k (y ∷ ys) h = let b : (k + 1 < y) × (y ≤ k) = h.0 in absurd (omega arith)

module _ {list : List Node} (v : IsNodeList list) (k : ℕ) {node : Node} (at : slice_get list k ≡ Some node) where
  so_many : length (take k list) ≡ k
  so_many = length-take-le k list (omega (arith, slice_get_within list k node at))

  none_after : 0 < k → kids list k k ≡ []
  none_after l =
      none_yet k (kids list k k) (subst (λ n. AllByRecursion (λ y. (k + 1 < y) × (y ≤ n)) (kids list k k)) so_many
      (each_child (take k list) (IsNodeList-take list k v l (omega (arith, slice_get_within list k node at))) (k + 1)))

  -- the children of the parent gain the node, and all others stay
  module _ (p : ℕ) (above : node.parent ≡ Some p) where
    below : p < k
    below = subst (IsParentAt k) above (parent_at list k node v at)

    children_here : kids list (k + 1) p ≡ kids list k p ++ (k + 1) ∷ []
    children_here =
        ap (λ l. children (listed l) (p + 1)) (taken list k node at) ∙ (children_push_below (take k list) node p above ∙ ap (λ n. kids list k p ++ (n + 1) ∷ []) so_many)

    children_there : (i : ℕ) → i ≢ p → kids list (k + 1) i ≡ kids list k i
    children_there i other =
        ap (λ l. children (listed l) (i + 1)) (taken list k node at) ∙ children_push_other (take k list) node (i + 1) p above (λ e. other (omega arith))

    module _ {lists longer : List (List ℕ)} {none : Numbers} (so_far : AreChildrenSoFar list k lists) (new_is : none ≡ []) where
      child_listed : IsAfter lists longer p k (kids list k p ++ (k + 1) ∷ []) none → AreChildrenSoFar list (k + 1) longer
      child_listed after = record { count = after.count; each = by_place }
        where
          at_parent : slice_get longer p ≡ Some (kids list (k + 1) p)
          at_parent = after.changed ∙ ap Some (sym children_here)

          at_last : slice_get longer k ≡ Some (kids list (k + 1) k)
          at_last =
              let l : p < k = below in
              after.added ∙ ap Some (new_is ∙ sym (children_there k (λ f. omega arith) ∙ none_after (omega arith)))

          by_place : (i : ℕ) → i < k + 1 → slice_get longer i ≡ Some (kids list (k + 1) i)
          by_place i h = elim (cases_eq i p) [
            | inl e ↦ subst (λ j. slice_get longer j ≡ Some (kids list (k + 1) j)) (sym e) at_parent
            | inr e ↦ elim (cases_eq i k) [
              | inl f ↦ subst (λ j. slice_get longer j ≡ Some (kids list (k + 1) j)) (sym f) at_last
              | inr f ↦
                  let l : i < k = omega arith in
                  after.others i l e ∙ (so_far.each i l ∙ ap Some (sym (children_there i e)))
            ]
          ]

  root_listed : {lists longer : List (List ℕ)} {none : Numbers} → node.parent ≡ None → AreChildrenSoFar list k lists → none ≡ [] → longer ≡ lists ++ none ∷ [] → AreChildrenSoFar list (k + 1) longer
  root_listed {lists} {longer} {none} above so_far new_is longer_is =
      let first : k ≡ 0 = subst (IsParentAt k) above (parent_at list k node v at) in
      let alone = ap (λ l. children (listed l) (k + 1)) (taken list k node at) ∙ (children_push_root (take k list) node (k + 1) above ∙ ap (λ n. kids list n k) first) in
      let last : slice_get longer k ≡ Some (kids list (k + 1) k) =
      ap (λ l. slice_get l k) longer_is ∙ (get_push_last lists k none (sym so_far.count) ∙ ap Some (new_is ∙ sym alone)) in
      record {
        count = ap length longer_is ∙ (length_push lists none ∙ ap (λ n. n + 1) so_far.count);
        each = λ i h. (let here : k ≡ i = omega arith in subst (λ j. slice_get longer j ≡ Some (kids list (k + 1) j)) here last);
      }

-- one node more, which has this parent
module _ {list : List Node} {k : ℕ} {lists longer : List (List ℕ)} {none : Numbers} (v : IsNodeList list) (l : k < length list) (so_far : AreChildrenSoFar list k lists) (new_is : none ≡ []) where
  pub child_step : (p : ℕ) (hung : List (List ℕ)) → IfSome (slice_get list k) (λ node. Some p ≡ node.parent)
      → IfSome (slice_get lists p) (λ children. hung ≡ slice_set lists p (children ++ (k + 1) ∷ [])) → longer ≡ hung ++ none ∷ [] → AreChildrenSoFar list (k + 1) longer
  child_step p hung seen hung_is longer_is =
      let (node, at, e) = item_at list k (λ node. Some p ≡ node.parent) l seen in
      let above = sym e in
      let there = so_far.each p (below v k at p above) in
      child_listed v k at p above so_far new_is
      (lists_after lists hung longer p k _ _ so_far.count (below v k at p above)
      (at_some (λ (children : List ℕ). hung ≡ slice_set lists p (children ++ (k + 1) ∷ [])) there hung_is) longer_is)

  pub root_step : IfSome (slice_get list k) (λ node. None ≡ node.parent) → longer ≡ lists ++ none ∷ [] → AreChildrenSoFar list (k + 1) longer
  root_step seen longer_is =
      let (node, at, e) = item_at list k (λ node. None ≡ node.parent) l seen in root_listed v k at (sym e) so_far new_is longer_is

pub all_listed : {list : List Node} {k : ℕ} {lists : List (List ℕ)} → AreChildrenSoFar list k lists → k ≡ length list → AreChildren (length list) (listed list) lists
all_listed {list} {k} so_far e =
    let whole = ap (λ n. take n list) e ∙ take-length list in
    record {
      count = so_far.count ∙ e;
      each = λ x is. (let within = within-listed list x is in let back : x - 1 + 1 ≡ x = omega (arith, within.0) in so_far.each (x - 1) (omega (arith, within))
          ∙ (λ i. Some (children (listed (whole i)) (back i))));
    }
