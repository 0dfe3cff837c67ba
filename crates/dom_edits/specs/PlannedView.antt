-- What an edit that was planned stands for, and what holds of it.
use Rattle.std.specs.Prelude.{◌≡◌, None}
use Rattle.scene_model.specs.Document.{Document}
use Rattle.change_model.specs.Sound.{IsSound}
use Rattle.edit_model.specs.Apply.{after, refusal}
use Rattle.edit_model.specs.Edit.{DocEdit}
use Rattle.dom_edits.specs.AcceptedView.{accepted_seen, changes_lists, moved_by}
use Rattle.dom_edits.specs.Plans.{changes_a_list, element_moved}
use Rattle.dom_edits.specs.declared.planned.Planned.{Planned}

abbrev pub planned_seen : Planned → DocEdit
planned_seen planned = accepted_seen planned.accepted

-- nothing refuses it in this document
pub record Fits (d : Document) (planned : Planned) : Type 0 where
  pub sound : IsSound d
  pub accepted : refusal d (planned_seen planned) ≡ None

-- it tells rightly what it will do in this document
pub record Tells (d : Document) (planned : Planned) : Type 0 where
  pub last : planned.last ≡ (after d (planned_seen planned)).last
  pub lists : changes_lists planned.accepted ≡ changes_a_list d (planned_seen planned)
  pub moved : moved_by planned.accepted ≡ element_moved d (planned_seen planned)
