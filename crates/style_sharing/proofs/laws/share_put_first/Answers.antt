use Rattle.sharing_model.proofs.ShareLemmas.{share_put_first}
use Rattle.style_sharing.proofs.laws.share_put_first.Goals as goal

pub returns : goal.returns
returns c = λ doc sources x share style s is. share_put_first doc.elements sources x share style s is
