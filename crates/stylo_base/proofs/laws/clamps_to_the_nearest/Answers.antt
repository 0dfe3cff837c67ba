use Rattle.stylo_base.proofs.RoundingLemmas.{clamped-in, clamped-near, clamped-same}
use Rattle.stylo_base.proofs.laws.clamps_to_the_nearest.Goals as goal

pub returns-clause-range : goal.returns-clause-range
returns-clause-range c = clamped-in

pub returns-clause-nearest : goal.returns-clause-nearest
returns-clause-nearest c = clamped-near

pub returns-clause-same : goal.returns-clause-same
returns-clause-same c = clamped-same
