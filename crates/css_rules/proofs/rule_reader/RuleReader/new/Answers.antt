use Rattle.std.proofs.Common.{ap}
use Rattle.css_rules.specs.Reading.{unread}
use Rattle.css_rules.proofs.CloseLemmas.{left_at_start}
use Rattle.css_rules.proofs.rule_reader.RuleReader.new.Goals as goal

pub returns : goal.returns
returns c =
    rw (c.new-2.ensures, c.in_ok-tokens.ensures, c.as_str.ensures.value, c.in_ok-text.ensures.text) (ap unread (left_at_start _ _))
