use Rattle.edit_model.proofs.TouchedPairLemmas.{touched-pairs}
use Rattle.style_session.proofs.laws.touched_pairs.Goals as goal

pub returns : goal.returns
returns c = touched-pairs
