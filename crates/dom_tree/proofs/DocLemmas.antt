-- What was made of a list of nodes is whole, and is its document.
use Rattle.std.proofs.Common.{◌≡◌, ℕ, ◌-◌, ◌<◌, ◌≤◌, nat_lt, Bool, false, true, List, length, Option, Some, None, unwrap_or, slice_get, sym, ap, ◌∙◌, subst, arith, ltb-true, lt-ltb}
use Rattle.std.specs.Bool.{Decides}
use Rattle.std.specs.List.{filter_map}
use Rattle.std.proofs.Math.ListN.{replicate}
use Rattle.std.proofs.lemmas.Bool.{and_from, and_parts}
use Rattle.std.proofs.lemmas.Bool.Decides.{same_from_decides}
use Rattle.std.proofs.lemmas.List.{length-replicate}
use Rattle.std.proofs.lemmas.Option.{slice_get_within}
use Rattle.stylo_base.specs.NameList.{StandOnce}
use Rattle.base_model.specs.Limits.{element_limit}
use Rattle.scene_model.specs.Lookups.{IsElement, element_at, place_of, place_of_type}
use Rattle.scene_model.specs.Nodes.{Node, IsNodeList, listed, tree_order, scene_of}
use Rattle.scene_model.specs.Document.{document_of}
use Rattle.change_model.specs.Sound.{IsSound}
use Rattle.change_model.proofs.Started.{IsSound-document_of}
use Rattle.scene_model.proofs.TreeOrder.{numbers-scene_of, length-tree_order, is_element-scene_of, decides-scene_of, children-scene_of}
use Rattle.dom_tree.specs.ChildLists.{AreChildren, AreParts, lists_of}
use Rattle.dom_tree.specs.Kept.{Table}
use Rattle.dom_tree.specs.Labels.{AreCuts, AreLabels}
use Rattle.dom_tree.specs.SiblingPlaces.{ArePlaces, AreZeros, HasTagBelow}
use Rattle.dom_tree.specs.Whole.{IsKept, IsWhole, Parts, in_order, document, is_present}
use Rattle.dom_tree.proofs.Places.{replicate_at}

in_order_of_list : (list : List Node) (order : List ℕ) → order ≡ tree_order list → in_order list order ≡ scene_of list
unfolding in_order scene_of
in_order_of_list list order e = ap (λ o. filter_map (element_at (listed list)) o) e

pub document_of_list : (table : Table) {list : List Node} {order : List ℕ} → table.nodes ≡ list → order ≡ tree_order list → document table order ≡ document_of list
document_of_list table {list} {order} same e =
    λ i. record { elements = (ap (λ l. in_order l order) same ∙ in_order_of_list list order e) i; last = length (same i) }

some_true : (o : Option Bool) → unwrap_or o false ≡ true → o ≡ Some true
some_true None h = absurd (cc)
some_true (Some b) h = ap Some h

-- at first each number is that of an element
present-Decides : (x n : ℕ) → Decides (is_present (replicate n true) x) ((0 < x) × (x ≤ n))
present-Decides x n = (
  λ h. (let parts = and_parts (nat_lt 0 x) (unwrap_or (slice_get (replicate n true) (x - 1)) false) h in let at = some_true (slice_get (replicate n true) (x - 1)) parts.1 in
      let low = ltb-true 0 x parts.0 in (low, omega (arith, low, slice_get_within (replicate n true) (x - 1) true at, length-replicate n true))),
  λ h. and_from (nat_lt 0 x) (unwrap_or (slice_get (replicate n true) (x - 1)) false) (lt-ltb 0 x h.0) (ap (λ o. unwrap_or o false) (replicate_at n (x - 1) true (omega (arith, h)))),
)

module _ {list : List Node} (v : IsNodeList list) where
  children_in_tree : (lists : List (List ℕ)) → AreChildren (length list) (listed list) lists → AreChildren (length list) (scene_of list) lists
  children_in_tree lists are = record {
    count = are.count;
    each = λ x is. are.each x (sym (is_element-scene_of list v x) ∙ is) ∙ ap Some (sym (children-scene_of list v x));
  }

  pub whole_of_list : {p : Parts} → p.table.nodes ≡ list → length list ≤ element_limit → AreParts p.flat p.spans → AreChildren (length list) (listed list) (lists_of p.flat p.spans)
      → ArePlaces (length p.table.nodes) (scene_of p.table.nodes) (place_of (scene_of p.table.nodes)) p.index
      → ArePlaces (length p.table.nodes) (scene_of p.table.nodes) (place_of_type (scene_of p.table.nodes) false) p.before
      → ArePlaces (length p.table.nodes) (scene_of p.table.nodes) (place_of_type (scene_of p.table.nodes) true) p.after → AreZeros p.table.names p.tally
      → ((x : ℕ) → IsElement (scene_of p.table.nodes) x → HasTagBelow (scene_of p.table.nodes) p.table.names (length p.tally) x)
      → StandOnce p.table.names → AreLabels p.table p.lists p.labels → AreCuts p.table.names p.lists p.cuts → p.order ≡ tree_order list → p.present ≡ replicate (length list) true → IsWhole p
  whole_of_list {p} nodes few parts are index before after zeros tags once labelled cut f all =
      let same = ap (λ l. in_order l p.order) nodes ∙ in_order_of_list list p.order f in
      let so_many = ap length (sym nodes) in
      let shown = ap scene_of nodes in
      subst (IsKept p) (sym same) (record {
        few = omega (arith, few, ap length f, length-tree_order list v);
        given = omega (arith, few, so_many);
        sound = subst (λ n. IsSound (record { elements = scene_of list; last = n })) so_many (IsSound-document_of list v);
        listed = numbers-scene_of list v ∙ sym f;
        known = record {
          count = ap length all ∙ (length-replicate (length list) true ∙ so_many);
          each = λ x. same_from_decides _ _ (decides-scene_of list v x) (present-Decides x (length list)) ∙ ap (λ l. is_present l x) (sym all);
        };
        apart = parts;
        children_of = subst (λ n. AreChildren n (scene_of list) (lists_of p.flat p.spans)) so_many (children_in_tree (lists_of p.flat p.spans) are);
        index_of = subst (λ doc. ArePlaces (length p.table.nodes) doc (place_of doc) p.index) shown index;
        before_of = subst (λ doc. ArePlaces (length p.table.nodes) doc (place_of_type doc false) p.before) shown before;
        after_of = subst (λ doc. ArePlaces (length p.table.nodes) doc (place_of_type doc true) p.after) shown after;
        zeros = zeros;
        tags = subst (λ doc. (x : ℕ) → IsElement doc x → HasTagBelow doc p.table.names (length p.tally) x) shown tags;
        once = once;
        labels_of = labelled;
        cuts_of = cut;
      })
