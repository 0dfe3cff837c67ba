use Rattle.sharing_model.proofs.ShareLemmas.{share_start}
use Rattle.style_sharing.proofs.laws.share_start.Goals as goal

pub returns : goal.returns
returns c = λ doc sources share. share_start doc.elements sources share
