use Rattle.std.proofs.Common.{subst, sym}
use Rattle.scene_model.specs.Nodes.{IsNodeList}
use Rattle.dom_edits.specs.declared.edits.NewNodes.{NewNodes}
use Rattle.dom_edits.specs.EditView.{nodes_seen}
use Rattle.dom_edits.proofs.BeyondLemmas.{beyond_shaped}
use Rattle.dom_edits.proofs.edits.NewNodes.count.Goals as goal

pub returns-in-Past-clause-shaped : goal.returns-in-Past-clause-shaped
returns-in-Past-clause-shaped c = subst (λ (n : NewNodes). IsNodeList (nodes_seen n)) (sym c.in-Past.is) (beyond_shaped c.in-Past.field-0)
