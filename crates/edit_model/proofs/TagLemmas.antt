-- An edit keeps what holds of all tags, where it holds of those of the nodes that it puts in.
use Rattle.std.proofs.Common.{Option, Some, None, refl}
use Rattle.std.specs.FinMap as finmap
use Rattle.scene_model.specs.Element.{Characters}
use Rattle.scene_model.specs.Document.{Document}
use Rattle.scene_model.proofs.TagLemmas.{NodeTagsHold, TagsHold}
use Rattle.change_model.specs.InPlace.{put_state}
use Rattle.change_model.proofs.TagLemmas.{changed_holds, inserted_holds, moved_holds, removed_holds}
use Rattle.edit_model.specs.Edit.{DocEdit, insert, remove, move, set, unset, set_state, Edit, of_document, of_sheets}
use Rattle.edit_model.specs.Apply.{after, applied, refusal}
use Rattle.edit_model.specs.Refusal.{Outcome, Refusal, refused, accepted, outcome_of}

module _ (P : Characters → Type 0) where
  abbrev pub NewTagsHold : DocEdit → Type 0
  NewTagsHold (insert p index nodes) = NodeTagsHold P nodes
  NewTagsHold edit = Unit

  -- the same of an edit of a document or of sheets
  abbrev pub EditTagsHold : Edit → Type 0
  EditTagsHold (of_document edit) = NewTagsHold edit
  EditTagsHold (of_sheets edit) = Unit

  after_holds : (d : Document) (edit : DocEdit) → TagsHold P d.elements → NewTagsHold edit → TagsHold P (after d edit).elements
  after_holds d (insert p index nodes) h k = inserted_holds P d p index nodes h k
  after_holds d (remove n) h k = removed_holds P d n h
  after_holds d (move n p index) h k = moved_holds P d n p index h
  after_holds d (set x name text) h k =
      changed_holds P x (λ e. record e { attrs = finmap.insert e.attrs name text }) (λ e. refl) d.elements h
  after_holds d (unset x name) h k =
      changed_holds P x (λ e. record e { attrs = finmap.remove e.attrs name }) (λ e. refl) d.elements h
  after_holds d (set_state x state on) h k =
      changed_holds P x (λ e. record e { states = put_state state on e.states }) (λ e. refl) d.elements h

  -- what is accepted
  abbrev pub OutcomeHolds : Outcome Document → Type 0
  OutcomeHolds (refused why) = Unit
  OutcomeHolds (accepted d) = TagsHold P d.elements

  pub applied_holds : (d : Document) (edit : DocEdit) → TagsHold P d.elements → NewTagsHold edit → OutcomeHolds (applied d edit)
  applied_holds d edit h k = by (refusal d edit) where
    by : (o : Option Refusal) → OutcomeHolds (outcome_of o (after d edit))
    by None = after_holds d edit h k
    by (Some why) = tt
