-- What is told of an edit before it is made.
use Rattle.std.proofs.Common.{◌≡◌, cond, not, None, Some, refl, ap}
use Rattle.scene_model.specs.Document.{Document}
use Rattle.dom_edits.specs.AcceptedView.{IsToldStill, accepted_seen, changes_lists, moved_by}
use Rattle.dom_edits.specs.Plans.{changes_a_list, element_moved}
use Rattle.dom_edits.specs.declared.accepted.Accepted.{Accepted}
use Rattle.dom_edits.specs.declared.accepted.Accepted.TheVariants.{Insert, Remove, Move, Set, Unset, State}

pub lists-told : (d : Document) (accepted : Accepted) → IsToldStill d accepted → changes_lists accepted ≡ changes_a_list d (accepted_seen accepted)
lists-told d (Insert parent index nodes) told = refl
lists-told d (Remove x) told = refl
lists-told d (Move x parent index still) told = ap not told
lists-told d (Set x name text) told = refl
lists-told d (Unset x name) told = refl
lists-told d (State x state on) told = refl

pub moved-told : (d : Document) (accepted : Accepted) → IsToldStill d accepted → moved_by accepted ≡ element_moved d (accepted_seen accepted)
moved-told d (Insert parent index nodes) told = refl
moved-told d (Remove x) told = refl
moved-told d (Move x parent index still) told = ap (λ b. cond b None (Some x)) told
moved-told d (Set x name text) told = refl
moved-told d (Unset x name) told = refl
moved-told d (State x state on) told = refl
