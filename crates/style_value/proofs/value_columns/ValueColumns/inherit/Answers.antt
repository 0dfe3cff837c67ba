use Rattle.style_value.proofs.ColumnLemmas.{are_copied, length_seen, seen_copied}
use Rattle.style_value.proofs.value_columns.ValueColumns.inherit.Goals as goal

pub invariant_of-self : goal.invariant_of-self
invariant_of-self c = are_copied _ _ _ _ c.self.invariant c.parent.invariant _ _ c.row-row.ensures.within

pub returns-clause-new : goal.returns-clause-new
returns-clause-new c =
    seen_copied _ _ _ _ c.self.invariant c.parent.invariant _ _ _ _ _ c.self.view_is c.parent.view_is c.row-row.ensures.row c.row-row.ensures.within

pub returns-clause-all : goal.returns-clause-all
returns-clause-all c = length_seen _ _ c.parent.invariant _ c.parent.view_is
