use Rattle.std.proofs.Common.{◌≡◌, drop}
use Rattle.edit_model.specs.Apply.{nodes_past}
use Rattle.dom_edits.proofs.refusals.past_by_itself.Given as goal

abbrev pub invariant-loop-index : goal.invariant-loop-index
invariant-loop-index l = nodes_past (drop l.index l.nodes) ≡ nodes_past l.nodes
