use Rattle.std.proofs.Common.{ap, length, sym, ◌∙◌}
use Rattle.dom_edits.proofs.TouchedLists.{all_lists}
use Rattle.dom_edits.proofs.touched.Touched.parts.Goals as goal

pub returns-clause-lists : goal.returns-clause-lists
returns-clause-lists c = λ none.
    all_lists c.self.inside.touches.items c.self.inside.elements.items c.self.inside.parents.items c.self.inside.children.items c.args.self.now c.self.view_is (sym (ap length c.as_slice.ensures.value) ∙ none)
