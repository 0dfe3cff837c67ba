use Rattle.element_styler.proofs.FollowLemmas.{follows-idle}
use Rattle.element_styler.proofs.above.Above.begin.Goals as goal

pub returns-else-self-clause-follows : goal.returns-else-self-clause-follows
returns-else-self-clause-follows c doc =
    let above = c.args.self.now in
    follows-idle doc.elements above (above.idle c.if-self.false)
