-- The depths of the nodes of a list that grows by a node.
use Rattle.std.proofs.Common.{◌≡◌, ℕ, zero, suc, ◌+◌, ◌-◌, ◌<◌, ◌≤◌, List, [], ◌∷◌, ◌++◌, length, map, get_or, Option, Some, None, slice_get, subst, ◌∙◌, ap, sym, refl, arith}
use Rattle.std.specs.List.{AllByRecursion, range_with_len}
use Rattle.std.proofs.lemmas.List.{length-map, length_push}
use Rattle.std.proofs.lemmas.List.FromFn.{get_or-map-range_with_len, map-range_with_len_more}
use Rattle.std.proofs.lemmas.Option.{slice_get_within}
use Rattle.base_model.proofs.Lists.{get_push_below, get_push_last, slice_get_some}
use Rattle.scene_model.specs.Ancestors.{depth_of}
use Rattle.scene_model.specs.Element.{Element}
use Rattle.scene_model.specs.Lookups.{numbers}
use Rattle.scene_model.specs.Nodes.{Node, IsParentAt, IsNodeList, listed, scene_of}
use Rattle.scene_model.proofs.Listed.{IsNodeList-one, IsNodeList-push, length-listed, numbers-listed, parent_at}
use Rattle.scene_model.proofs.Lists.{each_weaker}
use Rattle.scene_model.proofs.Numbers.{each-range}
use Rattle.scene_model.proofs.Depths.{depth_of-node, depth_of-first}
use Rattle.dom_tree.specs.Depths.{depths_of}

-- No node is deeper than there are nodes up to it.
bound_by : (nodes : List Node) (k : ℕ) (node : Node) (o : Option ℕ) → IsNodeList nodes → slice_get nodes k ≡ Some node → node.parent ≡ o → ((p : ℕ) → p < k → depth_of (scene_of nodes) (p + 1) ≤ p + 1)
    → depth_of (scene_of nodes) (k + 1) ≤ k + 1
bound_by nodes k node None w is same before = omega (arith, depth_of-first nodes w k node is same)
bound_by nodes k node (Some p) w is same before =
    omega (arith, depth_of-node nodes w k node p is same, before p (subst (IsParentAt k) same (parent_at nodes k node w is)), subst (IsParentAt k) same (parent_at nodes k node w is))

bound_from : (nodes : List Node) (m k : ℕ) → IsNodeList nodes → k < m → k < length nodes → depth_of (scene_of nodes) (k + 1) ≤ k + 1
bound_from nodes zero k w below within = absurd (omega arith)
bound_from nodes (suc m) k w below within =
    let (node, at) = slice_get_some nodes k within in
    bound_by nodes k node node.parent w at refl (λ p lt. bound_from nodes m p w (omega arith) (omega arith))

kept_by : (nodes : List Node) (node own : Node) (k : ℕ) (o : Option ℕ) → IsNodeList nodes → IsNodeList (nodes ++ node ∷ []) → slice_get nodes k ≡ Some own → own.parent ≡ o
    → ((p : ℕ) → p < k → depth_of (scene_of (nodes ++ node ∷ [])) (p + 1) ≡ depth_of (scene_of nodes) (p + 1)) → depth_of (scene_of (nodes ++ node ∷ [])) (k + 1) ≡ depth_of (scene_of nodes) (k + 1)
kept_by nodes node own k None v w is same before =
    depth_of-first (nodes ++ node ∷ []) w k own (get_push_below nodes k node (slice_get_within nodes k own is) ∙ is) same ∙ sym (depth_of-first nodes v k own is same)
kept_by nodes node own k (Some p) v w is same before =
    depth_of-node (nodes ++ node ∷ []) w k own p (get_push_below nodes k node (slice_get_within nodes k own is) ∙ is) same
    ∙ (ap (λ n. n + 1) (before p (subst (IsParentAt k) same (parent_at nodes k own v is))) ∙ sym (depth_of-node nodes v k own p is same))

kept_from : (nodes : List Node) (node : Node) (m k : ℕ) → IsNodeList nodes → IsNodeList (nodes ++ node ∷ []) → k < m → k < length nodes
    → depth_of (scene_of (nodes ++ node ∷ [])) (k + 1) ≡ depth_of (scene_of nodes) (k + 1)
kept_from nodes node zero k v w below within = absurd (omega arith)
kept_from nodes node (suc m) k v w below within =
    let (own, at) = slice_get_some nodes k within in
    kept_by nodes node own k own.parent v w at refl (λ p lt. kept_from nodes node m p v w (omega arith) (omega arith))

map_each : {X Y : Type 0} (f g : X → Y) (xs : List X) → AllByRecursion (λ x. f x ≡ g x) xs → map f xs ≡ map g xs
map_each f g [] h = refl
map_each f g (x ∷ xs) h = λ i. h.0 i ∷ map_each f g xs h.1 i

by_range : (nodes : List Node) → depths_of nodes ≡ map (depth_of (scene_of nodes)) (range_with_len 1 (length nodes))
by_range nodes = ap (map (depth_of (scene_of nodes))) (numbers-listed nodes)

pub depths_pushed : {nodes later : List Node} {depths grown : List ℕ} {p depth : ℕ} (node : Node) → IsNodeList nodes → depths ≡ depths_of nodes → node.parent ≡ Some p → p < length nodes
    → depth ≡ get_or depths p 0 + 1 → later ≡ nodes ++ node ∷ [] → grown ≡ depths ++ depth ∷ [] → grown ≡ depths_of later
depths_pushed {nodes} {later} {depths} {p = p} {depth} node v known above l made e f =
    let k : ℕ = length nodes in
    let deep : ℕ → ℕ = depth_of (scene_of nodes) in
    let deeper : ℕ → ℕ = depth_of (scene_of (nodes ++ node ∷ [])) in
    let w = IsNodeList-push nodes node v (subst (IsParentAt k) (sym above) l) in
    let front = map_each deeper deep (range_with_len 1 k)
    (each_weaker (λ y. (1 ≤ y) × (y < 1 + k)) (λ y. deeper y ≡ deep y) (λ y h. (let back : y - 1 + 1 ≡ y = omega (arith, h) in subst (λ z. deeper z ≡ deep z) back (kept_from nodes node k
    (y - 1) v w (omega (arith, h)) (omega (arith, h)))))
    (range_with_len 1 k) (each-range 1 k)) in
    let told : get_or depths p 0 ≡ deep (p + 1) = ap (λ l. get_or l p 0) (known ∙ by_range nodes) ∙ get_or-map-range_with_len deep 1 k p (p + 1) 0 l (omega arith) in
    let last : deeper (k + 1) ≡ depth =
    depth_of-node (nodes ++ node ∷ []) w k node p (get_push_last nodes k node refl) above ∙ omega (arith, kept_from nodes node k p v w l l, told, made) in
    let all = by_range (nodes ++ node ∷ []) ∙ (ap (λ n. map deeper (range_with_len 1 n)) (length_push nodes node) ∙ map-range_with_len_more deeper 1 k (k + 1) (omega arith)) in
    f ∙ ((λ i. (known ∙ (by_range nodes ∙ sym front)) i ++ sym last i ∷ []) ∙ (sym all ∙ ap depths_of (sym e)))

-- no node is deeper than there are nodes up to it
pub depth_fits : {nodes : List Node} {depths : List ℕ} (p : ℕ) → IsNodeList nodes → depths ≡ depths_of nodes → p < length nodes → get_or depths p 0 ≤ p + 1
depth_fits {nodes} p v known l =
    omega (
      arith,
      ap (λ l. get_or l p 0) (known ∙ by_range nodes) ∙ get_or-map-range_with_len (depth_of (scene_of nodes)) 1 (length nodes) p (p + 1) 0 l (omega arith),
      bound_from nodes
          (length nodes) p v l l,
    )

pub depths_long : (nodes : List Node) {depths : List ℕ} → depths ≡ depths_of nodes → length depths ≡ length nodes
depths_long nodes known = ap length known ∙ (length-map (numbers (listed nodes)) (depth_of (scene_of nodes)) ∙ (length-map (listed nodes) (λ (e : Element). e.number) ∙ length-listed nodes))

-- the root alone
pub depths_alone : {nodes : List Node} {depths : List ℕ} (node : Node) → node.parent ≡ None → nodes ≡ node ∷ [] → depths ≡ 1 ∷ [] → depths ≡ depths_of nodes
depths_alone node above e f = f ∙ (ap (λ d. d ∷ []) (sym (depth_of-first (node ∷ []) (IsNodeList-one node above) 0 node refl above)) ∙ ap depths_of (sym e))
