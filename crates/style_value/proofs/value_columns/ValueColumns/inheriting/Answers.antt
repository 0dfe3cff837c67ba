use Rattle.std.proofs.Common.{◌∙◌, ap}
use Rattle.property_table.specs.View.{inherited_properties}
use Rattle.style_value.proofs.ColumnLemmas.{length_seen}
use Rattle.style_value.proofs.InheritedLemmas.{all_inherited, inherits_last, inherits_next, with_values_in}
use Rattle.style_value.proofs.value_columns.ValueColumns.inheriting.Goals as goal

pub loop-id-init : goal.loop-id-init
loop-id-init c =
    ap (with_values_in c.args.parent.now inherited_properties) c.initial-columns.ensures
    ∙ all_inherited c.args.parent.now (length_seen _ _ c.parent.invariant _ c.parent.view_is)

pub loop-id-preserved : goal.loop-id-preserved
loop-id-preserved c =
    inherits_next _ _ _ _ _ _ _ c.inherited-id-items.ensures c.loop-id-test.true c.inherit.ensures.new c.loop-id.invariant

pub returns : goal.returns
returns c = inherits_last _ _ _ _ _ c.inherited-id-items.ensures c.loop-id-test.false c.loop-id.invariant
