use Rattle.std.proofs.Common.{sym, ◌∙◌}
use Rattle.style_value.proofs.AdjustLemmas.{float_changed}
use Rattle.style_value.proofs.value_columns.ValueColumns.adjust_float.Goals as goal

pub returns-then-is_positioned : goal.returns-then-is_positioned
returns-then-is_positioned c =
    float_changed _ _ (sym c.is_positioned.ensures ∙ c.if-is_positioned.true) c.set.ensures
