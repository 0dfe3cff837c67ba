use Rattle.std.proofs.Common.{sym, ap, ◌∙◌}
use Rattle.value_model.specs.Value.{pixels}
use Rattle.style_value.proofs.AdjustLemmas.{border_changed}
use Rattle.style_value.proofs.value_columns.ValueColumns.adjust_border.Goals as goal

pub returns-then-is_no_border : goal.returns-then-is_no_border
returns-then-is_no_border c =
    border_changed _ _ _ _ _ _ c.value.ensures.value (sym c.is_no_border.ensures ∙ c.if-is_no_border.true) (ap pixels c.zero.ensures) c.set.ensures
