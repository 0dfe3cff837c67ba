use Rattle.selector_match.proofs.TwoWayLemmas.{FindsNeedle-lower}
use Rattle.selector_match.proofs.two_way.find_ignoring_case.Goals as goal

pub returns : goal.returns
returns c = FindsNeedle-lower c.args.text.now c.args.part.now c.search.result c.search.ensures
