use Rattle.element_styler.proofs.FollowLemmas.{above-idle}
use Rattle.element_styler.proofs.above.Above.reach.Goals as goal

pub returns-else-self-clause-above : goal.returns-else-self-clause-above
returns-else-self-clause-above c =
    let above = c.args.self.now in
    above-idle c.args.doc.now.elements c.args.x above (above.idle c.if-self.false)
