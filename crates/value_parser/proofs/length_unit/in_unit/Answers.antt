use Rattle.std.proofs.Common.{option_map, Some, true, false, ap, sym, ◌∙◌}
use Rattle.std.specs.Str.{chars}
use Rattle.sheet_model.specs.ValueIn.{LengthUnit, units, measured}
use Rattle.value_parser.specs.View.{has_divisor, unit_seen}
use Rattle.value_parser.proofs.TableLemmas.{unit_name, units_lower, named_row, named_end, passes_at}
use Rattle.value_parser.proofs.length_unit.in_unit.Goals as goal

pub measured-requires : goal.measured-requires
measured-requires c =
    passes_at (λ unit. has_divisor unit.measure) _ c.loop-unit.unit-index _ c.loop-unit-test.true c.all_units-unit-items.ensures.divisors

pub loop-unit-preserved : goal.loop-unit-preserved
loop-unit-preserved c =
    c.loop-unit.invariant
    ∙ named_row unit_seen unit_name units units_lower _ (chars c.args.name.now) c.loop-unit.unit-index _ false c.all_units-unit-items.ensures.units c.loop-unit-test.true c.if-eq_ascii_case.ensures.value

pub returns-then-eq_ascii_case : goal.returns-then-eq_ascii_case
returns-then-eq_ascii_case c =
    ap Some c.measured.ensures
    ∙ sym (ap (option_map (λ (unit : LengthUnit). measured unit.measure c.args.amount)) (c.loop-unit.invariant
    ∙ named_row unit_seen unit_name units units_lower _ (chars c.args.name.now) c.loop-unit.unit-index _ true c.all_units-unit-items.ensures.units c.loop-unit-test.true c.if-eq_ascii_case.ensures.value))

pub returns : goal.returns
returns c =
    sym (ap (option_map (λ (unit : LengthUnit). measured unit.measure c.args.amount)) (c.loop-unit.invariant
    ∙ named_end unit_seen unit_name units units_lower _ (chars c.args.name.now) c.loop-unit.unit-index c.all_units-unit-items.ensures.units c.loop-unit-test.false))
