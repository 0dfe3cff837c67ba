use Rattle.sharing_model.proofs.ShareLemmas.{found_twin}
use Rattle.style_sharing.proofs.laws.found_twin.Goals as goal

pub returns : goal.returns
returns c = λ doc sources x share e v s h. let (twin, right, same) = found_twin doc.elements v sources x share e s h in (twin, same)
