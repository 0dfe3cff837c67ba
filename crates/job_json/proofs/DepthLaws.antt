-- The depths of the nodes of a list, one more at a time.
use Rattle.std.proofs.Common.{◌≡◌, ℕ, ◌+◌, ◌-◌, ◌^◌, ◌<◌, ◌≤◌, min, List, [], ◌∷◌, ◌++◌, length, get_or, Option, Some, None, refl, sym, arith}
use Rattle.std.proofs.lemmas.List.{length_push}
use Rattle.base_model.specs.Limits.{element_limit}
use Rattle.base_model.proofs.Lists.{get_push_last}
use Rattle.scene_model.specs.Nodes.{Node, IsParentAt, HaveParentsFrom, IsNodeList}
use Rattle.scene_model.proofs.Listed.{parent_at}
use Rattle.dom_tree.specs.Depths.{depths_of}
use Rattle.dom_tree.proofs.DepthSteps.{depth_fits, depths_alone, depths_pushed}
use Rattle.job_json.specs.Held.{depth_below}

as_number : (a p : ℕ) → a ≤ p + 1 → p < element_limit → min (a + 1) (2 ^ 64 - 1) ≡ a + 1
as_number a p fits few = omega arith

by_parent : (list : List Node) (node : Node) (o : Option ℕ) → node.parent ≡ o → IsParentAt (length list) o → HaveParentsFrom 0 list → length list < element_limit
    → depths_of (list ++ node ∷ []) ≡ depths_of list ++ depth_below (depths_of list) o ∷ []
by_parent [] node None is first parents few = sym (depths_alone {nodes = node ∷ []} {depths = 1 ∷ []} node is refl refl)
by_parent (x ∷ list) node None is first parents few = absurd (omega (arith, first))
by_parent list node (Some p) is within parents few =
    let below : p < length list = within in
    let v : IsNodeList list = record { some = omega (arith, below); parents = parents } in
    let fits : get_or (depths_of list) p 0 ≤ p + 1 = depth_fits {nodes = list} {depths = depths_of list} p v refl below in
    let made = as_number (get_or (depths_of list) p 0) p fits (omega (arith, below, few)) in
    sym (depths_pushed {nodes = list} {later = list ++ node ∷ []} {depths = depths_of list} node v refl is below made refl refl)

pub depths_of-push : (list : List Node) (node : Node) → HaveParentsFrom 0 list → HaveParentsFrom 0 (list ++ node ∷ []) → length (list ++ node ∷ []) ≤ element_limit
    → depths_of (list ++ node ∷ []) ≡ depths_of list ++ depth_below (depths_of list) node.parent ∷ []
depths_of-push list node before parents few =
    let v : IsNodeList (list ++ node ∷ []) = record { some = omega (arith, length_push list node); parents = parents } in
    by_parent list node node.parent refl (parent_at (list ++ node ∷ []) (length list) node v (get_push_last list (length list) node refl)) before (omega (arith, length_push list node))
