use Rattle.rule_map_model.proofs.CandidateLemmas.{candidates_matching}
use Rattle.rule_maps.proofs.laws.candidates_suffice.Goals as goal

pub returns : goal.returns
returns c doc sources x = candidates_matching doc.elements sources x
