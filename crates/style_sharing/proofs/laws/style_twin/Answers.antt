use Rattle.sharing_model.proofs.MatchingLemmas.{style_twin}
use Rattle.style_sharing.proofs.laws.style_twin.Goals as goal

pub returns : goal.returns
returns c = λ doc sources y x v none t. style_twin doc.elements v y x t sources none
