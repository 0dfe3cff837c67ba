-- The tags of a generated job hold no line feed.
use Rattle.std.proofs.Common.{◌==◌, ℕ, zero, suc, ◌+◌, ◌-◌, refl}
use Rattle.std.specs.List.{AllByRecursion}
use Rattle.std.proofs.lemmas.Bool.{cond_both}
use Rattle.base_model.proofs.LineFeedLemmas.{IsWithinLine}
use Rattle.scene_model.specs.Nodes.{Node}
use Rattle.scene_model.proofs.TagLemmas.{NodeTagsHold}
use Rattle.edit_model.proofs.TagLemmas.{EditTagsHold}
use Rattle.dom_edits.specs.declared.edits.DocEdit.{DocEdit}
use Rattle.dom_edits.specs.declared.edits.Edit.{Edit}
use Rattle.dom_edits.specs.declared.edits.Edit.TheVariants.{Document}
use Rattle.dom_edits.specs.EditView.{edit_seen}
use Rattle.job_json.specs.declared.Job.{Job}
use Rattle.job_json.specs.Draws.{Drawing, draw, drawn_list}
use Rattle.job_json.specs.Gen.{drawn_batch, drawn_batches, drawn_by, drawn_edit, drawn_insert, drawn_node, drawn_nodes, generated, tag_text}

-- what is put in by an edit of a job has such tags
abbrev pub IsLineEdit : Edit → Type 0
IsLineEdit edit = EditTagsHold IsWithinLine (edit_seen edit)

-- so have its nodes, and what its edits put in
pub record HasLineTags (job : Job) : Type 0 where
  pub nodes : NodeTagsHold IsWithinLine job.nodes
  pub edits : AllByRecursion (λ batch. AllByRecursion IsLineEdit batch) job.batches

-- what holds of all that is drawn
abbrev DrawsOnly : {A : Type 0} → (A → Type 0) → Drawing A → Type 0
DrawsOnly Holds drawing = (state : ℕ) → Holds (drawing state).0

each_drawn : {A : Type 0} (Holds : A → Type 0) (one : ℕ → Drawing A) → ((k : ℕ) → DrawsOnly Holds (one k)) → (more k : ℕ) → DrawsOnly (λ list. AllByRecursion Holds list) (drawn_list one more k)
each_drawn Holds one each zero k state = tt
each_drawn Holds one each (suc more) k state = (each k state, each_drawn Holds one each more (k + 1) (one k state).1)

tag_within : (k : ℕ) → IsWithinLine (tag_text k)
tag_within k =
    cond_both (k == 0) _ _ IsWithinLine (λ _. refl)
    (λ _. cond_both (k == 1) _ _ IsWithinLine (λ _. refl) (λ _. cond_both (k == 2) _ _ IsWithinLine (λ _. refl) (λ _. refl)))

node_within : (index : ℕ) → DrawsOnly (λ (node : Node). IsWithinLine node.tag) (drawn_node index)
node_within index state = tag_within (draw 4 state).0

nodes_within : (nodes : ℕ) → DrawsOnly (NodeTagsHold IsWithinLine) (drawn_nodes nodes)
nodes_within nodes state = (refl, each_drawn (λ (node : Node). IsWithinLine node.tag) drawn_node node_within (nodes - 1) 1 state)

abbrev IsLineDocEdit : DocEdit → Type 0
IsLineDocEdit edit = IsLineEdit (Document edit)

insert_within : (n : ℕ) → DrawsOnly IsLineDocEdit (drawn_insert n)
insert_within n state = (tag_within (draw 4 state).0, tt)

by_within : (which n : ℕ) → DrawsOnly IsLineDocEdit (drawn_by which n)
by_within which n =
    cond_both (which == 0) _ _ (DrawsOnly IsLineDocEdit) (λ _ state. tt)
    (λ _. cond_both (which == 1) _ _ (DrawsOnly IsLineDocEdit) (λ _ state. tt)
    (λ _. cond_both (which == 2) _ _ (DrawsOnly IsLineDocEdit) (λ _. insert_within n) (λ _ state. tt)))

edit_within : (nodes : ℕ) → DrawsOnly IsLineEdit (drawn_edit nodes)
edit_within nodes state =
    let which = draw 4 state in
    let place = draw nodes which.1 in
    by_within which.0 (1 + place.0) place.1

batches_within : (nodes batches : ℕ) → DrawsOnly (λ list. AllByRecursion (λ batch. AllByRecursion IsLineEdit batch) list) (drawn_batches nodes batches)
batches_within nodes batches state =
    each_drawn (λ batch. AllByRecursion IsLineEdit batch) (λ _. drawn_batch nodes)
    (λ _. each_drawn IsLineEdit (λ _. drawn_edit nodes) (λ _. edit_within nodes) 4 0) batches 0 state

pub generated_tags : (seed nodes batches : ℕ) → HasLineTags (generated seed nodes batches)
unfolding generated
generated_tags seed nodes batches = record {
  nodes = nodes_within nodes seed;
  edits = batches_within nodes batches (drawn_nodes nodes seed).1;
}
