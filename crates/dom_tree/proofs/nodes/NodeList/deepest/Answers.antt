use Rattle.std.proofs.Common.{◌≤◌, ap, subst, sym, ◌∙◌}
use Rattle.std.specs.List.{AllByRecursion}
use Rattle.dom_tree.specs.Depths.{depths_of}
use Rattle.dom_tree.proofs.nodes.NodeList.deepest.Goals as goal

pub returns : goal.returns
returns c = λ n.
    let same = c.deref.ensures.value ∙ (c.self.invariant.1 ∙ ap depths_of c.self.view_is) in
    let each = AllByRecursion (λ depth. depth ≤ n) in (
      λ most. subst each same ((c.greatest.ensures n).0 most),
      λ all. (c.greatest.ensures n).1 (subst each (sym same) all),
    )
