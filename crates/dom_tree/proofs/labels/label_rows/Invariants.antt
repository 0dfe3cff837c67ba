use Rattle.dom_tree.proofs.LabelLemmas.{AreLabelsSoFar}
use Rattle.dom_tree.proofs.labels.label_rows.Given as goal

abbrev pub invariant-loop-index : goal.invariant-loop-index
invariant-loop-index l = AreLabelsSoFar l.columns l.lists l.labels.items l.cuts.items l.index
