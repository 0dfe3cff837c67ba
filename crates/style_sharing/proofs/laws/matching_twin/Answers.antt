use Rattle.sharing_model.proofs.MatchingLemmas.{matching_twin}
use Rattle.style_sharing.proofs.laws.matching_twin.Goals as goal

pub returns : goal.returns
returns c = λ doc sources y x v none t. matching_twin doc.elements v y x t sources none
