use Rattle.std.proofs.Common.{◌++◌, ◌∷◌, [], None, ap, refl, subst, sym, ◌∙◌}
use Rattle.scene_model.specs.Nodes.{IsNodeList}
use Rattle.scene_model.proofs.Listed.{IsNodeList-one}
use Rattle.dom_tree.specs.View.{node_of}
use Rattle.dom_tree.proofs.DepthSteps.{depths_alone}
use Rattle.dom_tree.proofs.nodes.NodeList.of_root.Goals as goal

pub invariant_of-result : goal.invariant_of-result
invariant_of-result c =
    let node = node_of None c.args.root in
    let alone = c.in_ok-push.ensures.ok ∙ ap (λ l. l ++ node ∷ []) c.new-columns.ensures in
    (subst IsNodeList (sym alone) (IsNodeList-one node refl), depths_alone node refl alone (c.in_ok-depths.ensures.items_if_clones_equal (λ y h. h)), c.push.ensures.once)
