use Rattle.std.proofs.Common.{refl}
use Rattle.std.specs.Str.{chars}
use Rattle.sheet_model.specs.ValueIn.{units}
use Rattle.value_parser.proofs.length_unit.all_units.Goals as goal

pub returns-clause-units : goal.returns-clause-units
unfolding chars units
returns-clause-units c = refl
