-- An edit stands for each that it says: they are refused alike.
use Rattle.std.proofs.Common.{◌≡◌, ℕ, List, Option, Some, sym, ap, ◌∙◌}
use Rattle.std.specs.Option.{option_or}
use Rattle.scene_model.specs.Document.{Document}
use Rattle.scene_model.specs.Nodes.{Node}
use Rattle.edit_model.specs.Apply.{misplaced, nodes_past, refusal, unknown}
use Rattle.edit_model.specs.Edit as model
use Rattle.edit_model.specs.Refusal.{Refusal}
use Rattle.dom_edits.specs.declared.edits.DocEdit.{DocEdit}
use Rattle.dom_edits.specs.declared.edits.DocEdit.TheVariants as edits
use Rattle.dom_edits.specs.declared.edits.NewNodes.{NewNodes}
use Rattle.dom_edits.specs.declared.edits.NewNodes.TheVariants as nodes_in
use Rattle.dom_edits.specs.EditView.{AreNewNodes, Says, doc_edit_seen, nodes_beyond, nodes_seen, refused_by}
use Rattle.dom_edits.proofs.BeyondLemmas.{beyond_past}
use Rattle.dom_edits.proofs.JudgeLemmas.{past_nodes}

-- lists of nodes that pass the same limit first
pub passing_alike : (d : Document) (p index : ℕ) (xs ys : List Node) (why : Refusal) → nodes_past xs ≡ Some why → nodes_past ys ≡ Some why → refusal d (model.insert p index xs) ≡ refusal d (model.insert p index ys)
passing_alike d p index xs ys why e f =
    ap (λ o. option_or (unknown d (model.insert p index xs)) (option_or (misplaced d (model.insert p index xs)) o)) (past_nodes d p index xs why e ∙ sym (past_nodes d p index ys why f))

inserted_alike : (d : Document) (p index : ℕ) (new : NewNodes) (nodes : List Node) → AreNewNodes new nodes → refusal d (model.insert p index (nodes_seen new)) ≡ refusal d (model.insert p index nodes)
inserted_alike d p index (nodes_in.Kept kept) nodes are = ap (λ l. refusal d (model.insert p index l)) (sym are)
inserted_alike d p index (nodes_in.Past which) nodes are = passing_alike d p index (nodes_beyond which) nodes (refused_by which) (beyond_past which) are.1

pub says_alike : (d : Document) (edit : DocEdit) (said : model.DocEdit) → Says edit said → refusal d (doc_edit_seen edit) ≡ refusal d said
says_alike d (edits.Insert parent index new) (model.insert p i nodes) are =
    (λ k. refusal d (model.insert (are.0 k) (are.1 k) (nodes_seen new))) ∙ inserted_alike d p i new nodes are.2
says_alike d (edits.Insert parent index new) (model.remove n) is = ap (refusal d) is
says_alike d (edits.Insert parent index new) (model.move n p i) is = ap (refusal d) is
says_alike d (edits.Insert parent index new) (model.set x name text) is = ap (refusal d) is
says_alike d (edits.Insert parent index new) (model.unset x name) is = ap (refusal d) is
says_alike d (edits.Insert parent index new) (model.set_state x s on) is = ap (refusal d) is
says_alike d (edits.Remove node) said is = ap (refusal d) is
says_alike d (edits.Move node parent index) said is = ap (refusal d) is
says_alike d (edits.Set node name text) said is = ap (refusal d) is
says_alike d (edits.Unset node name) said is = ap (refusal d) is
says_alike d (edits.State node s on) said is = ap (refusal d) is
