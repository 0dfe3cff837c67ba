use Rattle.std.proofs.Common.{◌∙◌}
use Rattle.style_session.proofs.WalkLentLemmas.{matched-seen}
use Rattle.style_session.proofs.lists.Lists.is_matched.Goals as goal

pub returns : goal.returns
returns c = c.contains.ensures ∙ matched-seen c.args.self.now c.args.x c.requires
