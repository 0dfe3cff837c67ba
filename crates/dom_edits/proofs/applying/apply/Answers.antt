use Rattle.std.proofs.Common.{sym, ap, ◌∙◌}
use Rattle.edit_model.specs.Apply.{applied}
use Rattle.dom_edits.proofs.applying.apply.Goals as goal

pub returns-clause-ok : goal.returns-clause-ok
returns-clause-ok c = sym (ap (applied c.args.doc.now) c.in_ok-planned.ensures.planned) ∙ c.in_ok-touched.ensures.ok
