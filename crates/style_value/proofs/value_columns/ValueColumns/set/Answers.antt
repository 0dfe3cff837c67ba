use Rattle.style_value.proofs.ColumnLemmas.{are_set, seen_set}
use Rattle.style_value.proofs.value_columns.ValueColumns.set.Goals as goal

pub invariant_of-self : goal.invariant_of-self
invariant_of-self c =
    are_set _ _ c.self.invariant _ _ _ c.args.value c.amount.ensures.bytes c.word.ensures c.amount.ensures.amount

pub returns : goal.returns
returns c =
    seen_set _ _ c.self.invariant _ _ _ _ _ c.args.value c.amount.ensures.bytes c.self.view_is c.row-row.ensures.row c.word.ensures c.amount.ensures.amount
