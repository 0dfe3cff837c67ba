use Rattle.std.proofs.lemmas.Slice.Eq.{slice_eq-Decides}
use Rattle.invalidation_map.proofs.StepEqLemmas.{same_step}
use Rattle.invalidation_map.proofs.shared.is_same_path.Goals as goal

pub returns : goal.returns
returns c = slice_eq-Decides same_step c.args.one.now c.args.other.now c.eq.result c.eq.ensures
