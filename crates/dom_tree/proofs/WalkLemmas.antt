-- The walk of a list of nodes: the numbers so far, and what is ahead of it, the next one last.
use Rattle.std.proofs.Common.{◌≡◌, ℕ, ◌-◌, ◌<◌, ◌≤◌, List, [], ◌∷◌, ◌++◌, flat_map, length, reverse, Some, slice_get, sym, ap, ◌∙◌, subst, arith, append_assoc, append-nil, length-append}
use Rattle.std.specs.List.{AllByRecursion}
use Rattle.std.proofs.lemmas.List.{reverse-append, reverse-reverse}
use Rattle.std.proofs.lemmas.List.Concat.{flat_map-append}
use Rattle.std.proofs.lemmas.Option.{same_Some}
use Rattle.scene_model.specs.Lookups.{children}
use Rattle.scene_model.specs.Nodes.{Node, IsNodeList, listed, subtree, tree_order}
use Rattle.scene_model.proofs.Lists.{each_weaker}
use Rattle.scene_model.proofs.Listed.{each_child, is_element-listed}
use Rattle.scene_model.proofs.TreeOrder.{subtree-listed}
use Rattle.dom_tree.specs.ChildLists.{AreChildren}
use Rattle.base_model.proofs.Lists.{each-append}

-- the subtrees of what is ahead
abbrev pub still : List Node → List ℕ → List ℕ
still list ahead = flat_map (subtree (listed list) (length list)) (reverse ahead)

abbrev AreNumbersOf : List Node → List ℕ → Type 0
AreNumbersOf list xs = AllByRecursion (λ x. (0 < x) × (x ≤ length list)) xs

pub record IsWalk (list : List Node) (order ahead : List ℕ) : Type 0 where
  pub inside : AreNumbersOf list (reverse ahead)
  pub whole : order ++ still list ahead ≡ tree_order list

pub walk_begins : {list : List Node} {order ahead : List ℕ} → IsNodeList list → order ≡ [] → ahead ≡ 1 ∷ [] → IsWalk list order ahead
unfolding tree_order
walk_begins {list} {order} {ahead} v e f =
    let one : IsWalk list [] (1 ∷ []) = record { inside = ((omega arith, omega (arith, v.some)), tt); whole = append-nil (subtree (listed list) (length list) 1) } in
    subst (λ o. IsWalk list o ahead) (sym e) (subst (IsWalk list []) (sym f) one)

-- the children that were read
read_children : (list : List Node) (lists : List (List ℕ)) (x : ℕ) (shown : List ℕ) → AreChildren (length list) (listed list) lists → (0 < x) × (x ≤ length list)
    → slice_get lists (x - 1) ≡ Some shown → shown ≡ children (listed list) x
read_children list lists x shown are inside at = same_Some shown (children (listed list) x) (sym at ∙ are.each x (is_element-listed list x inside.0 inside.1))

module _ {list : List Node} (v : IsNodeList list) {order ahead : List ℕ} (rest : List ℕ) (x : ℕ) (walk : IsWalk list order ahead) (popped : ahead ≡ rest ++ x ∷ []) where
  turned : reverse ahead ≡ x ∷ reverse rest
  turned = ap reverse popped ∙ reverse-append rest (x ∷ [])

  inside : AreNumbersOf list (x ∷ reverse rest)
  inside = subst (AreNumbersOf list) turned walk.inside

  pub next_inside : (0 < x) × (x ≤ length list)
  next_inside = inside.0

  abbrev kids : List ℕ
  kids = children (listed list) x

  abbrev below : List ℕ → List ℕ
  below xs = flat_map (subtree (listed list) (length list)) xs

  whole : order ++ ((x ∷ below kids) ++ still list rest) ≡ tree_order list
  whole = ap (λ s. order ++ (s ++ still list rest)) (sym (subtree-listed list v x next_inside.0 next_inside.1)) ∙ (ap (λ l. order ++ below l) (sym turned) ∙ walk.whole)

  -- its children are put ahead, and it is put down
  module _ {lists : List (List ℕ)} (numbers : List ℕ) {later next : List ℕ} (are : AreChildren (length list) (listed list) lists) (seen : slice_get lists (x - 1) ≡ Some numbers) where
    pub walk_goes_on : later ≡ order ++ x ∷ [] → next ≡ rest ++ reverse numbers → IsWalk list later next
    walk_goes_on e f =
        let same = read_children list lists x numbers are next_inside seen in
        let ahead_is = ap reverse f ∙ (reverse-append rest (reverse numbers) ∙ ap (λ l. l ++ reverse rest) (reverse-reverse numbers ∙ same)) in
        let each = each_weaker (λ y. (x < y) × (y ≤ length list)) (λ y. (0 < y) × (y ≤ length list)) (λ y h. (omega arith, h.1)) kids (each_child list v x) in
        record {
          inside = subst (AreNumbersOf list) (sym ahead_is) (each-append (λ y. (0 < y) × (y ≤ length list)) kids (reverse rest) each inside.1);
          whole = (λ i. e i ++ below (ahead_is i)) ∙ (ap (λ l. (order ++ x ∷ []) ++ l) (flat_map-append (subtree (listed list) (length list)) kids (reverse rest))
              ∙ (append_assoc order (x ∷ []) (below kids ++ still list rest) ∙ whole));
        }

    -- there is less ahead
    pub walk_nears_end : later ≡ order ++ x ∷ [] → next ≡ rest ++ reverse numbers → length (still list next) < length (still list ahead)
    walk_nears_end e f =
        let now = sym (length-append order (still list ahead)) ∙ ap length walk.whole in
        let then = sym (length-append later (still list next)) ∙ ap length (walk_goes_on e f).whole in
        omega (arith, now, then, ap length e, length-append order (x ∷ []))
