use Rattle.std.proofs.Common.{Some, ap, ◌∙◌}
use Rattle.style_session.specs.KeptView.{style_at}
use Rattle.style_session.proofs.WalkLentLemmas.{other_style}
use Rattle.style_session.proofs.lists.Lists.is_other_style.Goals as goal

pub returns-in-Some : goal.returns-in-Some
returns-in-Some c =
    other_style c.is_same.result c.deref.result.now c.args.style.now (style_at c.args.self.now.kept.now c.args.x) c.is_same.ensures (ap Some c.deref.ensures ∙ c.in-Some.ensures)
