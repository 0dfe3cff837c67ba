use Rattle.sharing_model.proofs.ShareLemmas.{share_placed}
use Rattle.style_sharing.proofs.laws.share_placed.Goals as goal

pub returns : goal.returns
returns c = λ doc sources x share style v s is. share_placed doc.elements v sources x share style s is
