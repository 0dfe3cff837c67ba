use Rattle.sharing_model.proofs.ToldLemmas.{attributes_compared}
use Rattle.style_sharing.proofs.twins.have_same_attributes.Goals as goal

pub returns : goal.returns
returns c = attributes_compared _ _ _ c.same_attributes.ensures
