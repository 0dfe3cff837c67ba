-- What is answered to an edit before it is made.
use Rattle.std.specs.Prelude.{◌≡◌, ℕ, Bool, true, false, not, if◌then◌else◌, Option, Some, None, option_map, Result, Ok, Err}
use Rattle.std.specs.Str.{chars}
use Rattle.scene_model.specs.Document.{Document}
use Rattle.change_model.specs.ChildLists.{moved}
use Rattle.change_model.specs.Fresh.{is_still}
use Rattle.stylo_base.specs.StateView.{state_seen}
use Rattle.stylo_base.specs.declared.refusal.EditRefused.{EditRefused}
use Rattle.edit_model.specs.Apply.{refusal}
use Rattle.edit_model.specs.Edit as model
use Rattle.dom_edits.specs.EditView.{refusal_answered}
use Rattle.dom_edits.specs.declared.accepted.Accepted.{Accepted}
use Rattle.dom_edits.specs.declared.accepted.Accepted.TheVariants.{Insert, Remove, Move, Set, Unset, State}

abbrev pub accepted_seen : Accepted → model.DocEdit
accepted_seen (Insert parent index nodes) = model.insert parent index nodes.now
accepted_seen (Remove x) = model.remove x
accepted_seen (Move x parent index still) = model.move x parent index
accepted_seen (Set x name value) = model.set x (chars name.now) (chars value.now)
accepted_seen (Unset x name) = model.unset x (chars name.now)
accepted_seen (State x state on) = model.set_state x (state_seen state) on

-- whether a list of children changes
abbrev pub changes_lists : Accepted → Bool
changes_lists (Insert parent index nodes) = true
changes_lists (Remove x) = true
changes_lists (Move x parent index still) = not still
changes_lists accepted = false

-- the element that is moved, if it is not there already
abbrev pub moved_by : Accepted → Option ℕ
moved_by (Move x parent index still) = if still then None else Some x
moved_by accepted = None

-- it is told rightly whether a move leaves the document as it is
abbrev pub IsToldStill : Document → Accepted → Type 0
IsToldStill d (Move x parent index still) = still ≡ is_still d.elements (moved d x parent index).elements x
IsToldStill d accepted = Unit {0}

-- the edit itself, where nothing refuses it, and else its refusal
abbrev pub IsJudged : Document → model.DocEdit → Result Accepted EditRefused → Type 0
IsJudged d edit (Ok accepted) = (accepted_seen accepted ≡ edit) × ((refusal d edit ≡ None) × IsToldStill d accepted)
IsJudged d edit (Err why) = option_map refusal_answered (refusal d edit) ≡ Some why
