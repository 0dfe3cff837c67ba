use Rattle.std.proofs.Common.{sym, subst₂}
use Rattle.dom_tree.specs.Kept.{AreRows}
use Rattle.dom_tree.proofs.node_columns.NodeColumns.compact.Goals as goal

pub invariant_of-self : goal.invariant_of-self
invariant_of-self c = c.in_ok-rows.ensures.each _ (subst₂ (AreRows c.self.inside.names) (sym c.deref-2.ensures.value) (sym c.deref.ensures.value) c.self.invariant)
