use Rattle.std.proofs.Common.{◌≡◌}
use Rattle.std.specs.Str.{chars}
use Rattle.sheet_model.specs.ValueIn.{units}
use Rattle.value_parser.proofs.TableLemmas.{unit_name, named_from}
use Rattle.value_parser.proofs.length_unit.in_unit.Given as goal

abbrev pub invariant-loop-unit : goal.invariant-loop-unit
invariant-loop-unit l =
    named_from unit_name units (chars l.name) 0 ≡ named_from unit_name units (chars l.name) l.unit-index
