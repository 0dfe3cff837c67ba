use Rattle.std.proofs.Common.{refl}
use Rattle.value_model.specs.Table.{table}
use Rattle.cascade_core.proofs.WonLemmas.{none_wins}
use Rattle.cascade_core.proofs.places.Places.none.Goals as goal

pub returns : goal.returns
unfolding table
returns c = λ list. none_wins list _ refl refl c.new.ensures refl
