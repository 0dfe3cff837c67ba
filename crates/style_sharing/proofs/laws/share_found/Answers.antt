use Rattle.sharing_model.proofs.ShareLemmas.{share_found}
use Rattle.style_sharing.proofs.laws.share_found.Goals as goal

pub returns : goal.returns
returns c = λ doc sources x share s. share_found doc.elements sources x share s
