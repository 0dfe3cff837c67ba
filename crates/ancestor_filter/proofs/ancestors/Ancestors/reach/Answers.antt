use Rattle.std.proofs.Common.{sym, ap, ◌∙◌}
use Rattle.scene_model.proofs.Climbing.{ancestors-root}
use Rattle.ancestor_filter.specs.Paths.{Pushed}
use Rattle.ancestor_filter.proofs.ancestors.Ancestors.reach.Goals as goal

pub returns-in-None-clause-ok : goal.returns-in-None-clause-ok
returns-in-None-clause-ok c =
    ap (λ (p : Pushed). p.elements) c.clear.ensures.nothing
    ∙ sym (ancestors-root c.args.doc.now.elements c.in-None.ensures.valid c.args.x (sym c.in-None.ensures.parent))

pub returns-in-None-clause-right : goal.returns-in-None-clause-right
returns-in-None-clause-right c = c.clear.ensures.right c.args.doc.now
