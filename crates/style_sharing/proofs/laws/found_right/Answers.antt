use Rattle.sharing_model.proofs.ShareLemmas.{found_right}
use Rattle.style_sharing.proofs.laws.found_right.Goals as goal

pub returns : goal.returns
returns c = λ doc sources x share e v s h. found_right doc.elements v sources x share e s h
