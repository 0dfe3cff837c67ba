use Rattle.style_value.proofs.ColumnLemmas.{length_seen, seen_at}
use Rattle.style_value.proofs.value_columns.ValueColumns.value.Goals as goal

pub returns-clause-value : goal.returns-clause-value
returns-clause-value c =
    seen_at _ _ c.self.invariant _ _ _ _ c.of_word.result c.self.view_is c.row-row.ensures.row c.row-row.ensures.within c.of_word.ensures

pub returns-clause-all : goal.returns-clause-all
returns-clause-all c = length_seen _ _ c.self.invariant _ c.self.view_is
