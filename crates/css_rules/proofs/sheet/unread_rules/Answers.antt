use Rattle.css_rules.proofs.ReaderLemmas.{none_more}
use Rattle.css_rules.proofs.sheet.unread_rules.Goals as goal

pub returns : goal.returns
returns c = none_more _ _ _ _ c.in_default.is c.in_ok-rule.ensures.rule c.loop-rules.invariant
