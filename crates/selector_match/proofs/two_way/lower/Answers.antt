use Rattle.std.proofs.Common.{◌∙◌}
use Rattle.selector_match.proofs.TwoWayLemmas.{lower_at-lowers}
use Rattle.selector_match.proofs.two_way.lower.Goals as goal

pub returns : goal.returns
returns c = c.to_ascii_lowercase.ensures.value ∙ lower_at-lowers c.args.text.now c.args.k c.requires
