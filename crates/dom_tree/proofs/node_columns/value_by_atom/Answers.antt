use Rattle.std.proofs.Common.{sym, ◌∙◌}
use Rattle.dom_tree.proofs.AttrLemmas.{by_atom-found, by_atom-passed}
use Rattle.dom_tree.proofs.node_columns.value_by_atom.Goals as goal

pub returns-then-is_atom-clause-value : goal.returns-then-is_atom-clause-value
returns-then-is_atom-clause-value c =
    by_atom-found c.loop-row.invariant c.loop-row-test.true c.row-item.is (sym c.is_atom.ensures ∙ c.if-is_atom.true)

pub loop-row-preserved : goal.loop-row-preserved
loop-row-preserved c =
    by_atom-passed c.loop-row.invariant c.loop-row-test.true c.row-item.is (sym c.is_atom.ensures ∙ c.if-is_atom.false)
