use Rattle.std.proofs.lemmas.Slice.Eq.{slice_eq-Decides}
use Rattle.dom_tree.proofs.AttrLemmas.{same_row}
use Rattle.dom_tree.proofs.node_columns.same_rows.Goals as goal

pub returns : goal.returns
returns c = slice_eq-Decides same_row c.args.one.now c.args.other.now c.eq.result c.eq.ensures
