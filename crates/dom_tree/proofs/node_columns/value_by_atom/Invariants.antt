use Rattle.dom_tree.proofs.AttrLemmas.{ArePassed}
use Rattle.dom_tree.proofs.node_columns.value_by_atom.Given as goal

abbrev pub invariant-loop-row : goal.invariant-loop-row
invariant-loop-row l = ArePassed l.names l.name l.rows l.row-index
