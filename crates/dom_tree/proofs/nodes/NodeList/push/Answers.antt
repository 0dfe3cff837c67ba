use Rattle.std.proofs.Common.{◌+◌, ◌<◌, ◌++◌, ◌∷◌, [], Some, arith, ap, length, refl, subst, sym, ◌∙◌}
use Rattle.std.proofs.lemmas.Option.{get_or_from_slice_get}
use Rattle.scene_model.specs.Nodes.{IsNodeList}
use Rattle.scene_model.proofs.Listed.{IsNodeList-push}
use Rattle.dom_tree.specs.Depths.{depths_of}
use Rattle.dom_tree.specs.View.{node_of}
use Rattle.dom_tree.proofs.DepthSteps.{depth_fits, depths_long, depths_pushed}
use Rattle.dom_tree.proofs.Places.{read_at}
use Rattle.dom_tree.proofs.nodes.NodeList.push.Goals as goal

pub index-requires : goal.index-requires
index-requires c = omega (arith, c.requires, ap length c.self.view_is, depths_long c.self.inside.columns.nodes c.self.invariant.1, c.self.inside.depths.ok.0)

pub overflow_add-depth : goal.overflow_add-depth
overflow_add-depth c =
    let depths = c.self.inside.depths.items in
    let within : c.args.parent < length c.self.inside.columns.nodes = omega (arith, c.requires, ap length c.self.view_is) in
    let at = read_at depths (omega (arith, within, depths_long c.self.inside.columns.nodes c.self.invariant.1)) c.index.ensures in
    omega (arith, depth_fits c.args.parent c.self.invariant.0 c.self.invariant.1 within, get_or_from_slice_get depths c.args.parent c.index.result.now 0 at, c.ranges.parent.fits)

pub invariant_of-self-in_err-push : goal.invariant_of-self-in_err-push
invariant_of-self-in_err-push c =
    let same = c.in_err-push.ensures.err in
    (subst IsNodeList (sym same) c.self.invariant.0, c.reserve.ensures.items ∙ (c.self.invariant.1 ∙ ap depths_of (sym same)), c.push.ensures.once)

pub invariant_of-self-2 : goal.invariant_of-self-2
invariant_of-self-2 c =
    let depths = c.self.inside.depths.items in
    let within : c.args.parent < length c.self.inside.columns.nodes = omega (arith, c.requires, ap length c.self.view_is) in
    let at = read_at depths (omega (arith, within, depths_long c.self.inside.columns.nodes c.self.invariant.1)) c.index.ensures in
    let node = node_of (Some c.args.parent) c.args.node in
    let deeper = ap (λ d. d + 1) (sym (get_or_from_slice_get depths c.args.parent c.index.result.now 0 at)) in (
      subst IsNodeList (sym c.in_ok-push.ensures.ok) (IsNodeList-push c.self.inside.columns.nodes node c.self.invariant.0 within),
      depths_pushed node c.self.invariant.0 c.self.invariant.1 refl within deeper c.in_ok-push.ensures.ok (c.push_reserved.ensures.items
          ∙ ap (λ l. l ++ (c.index.result.now + 1) ∷ []) c.reserve.ensures.items),
      c.push.ensures.once,
    )
