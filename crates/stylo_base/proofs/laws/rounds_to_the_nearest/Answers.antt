use Rattle.stylo_base.proofs.RoundingLemmas.{rounded-near, rounded-alone}
use Rattle.stylo_base.proofs.laws.rounds_to_the_nearest.Goals as goal

pub returns-clause-nearest : goal.returns-clause-nearest
returns-clause-nearest c = rounded-near

pub returns-clause-alone : goal.returns-clause-alone
returns-clause-alone c = rounded-alone
