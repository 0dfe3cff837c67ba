-- For `marks`: what is known of an edit and of what it touches.
use Rattle.std.proofs.Common.{◌≡◌, ℕ, ◌+◌, ◌||◌, nat_eq, List, [], Option, Some, None, refl, sym, ap, ◌∙◌, subst, arith}
use Rattle.std.specs.Option.{option_or}
use Rattle.std.specs.List.{IsDistinct}
use Rattle.scene_model.specs.Document.{Document}
use Rattle.scene_model.specs.Element.{Element}
use Rattle.scene_model.specs.Numbers.{is_in}
use Rattle.change_model.specs.Sound.{IsSound}
use Rattle.edit_model.specs.Apply.{after, applied, limit_past, misplaced, nodes_past, refusal, unknown}
use Rattle.edit_model.specs.Edit.{IsShaped, insert}
use Rattle.edit_model.specs.Marked.{is_marked}
use Rattle.edit_model.specs.Refusal.{Refusal, accepted, outcome_of}
use Rattle.edit_model.specs.Steady.{SameTags}
use Rattle.edit_model.specs.Touched.{Touch}
use Rattle.edit_model.proofs.Accepted.{none_parts, sound-after, tags-after}
use Rattle.dom_edits.specs.declared.edits.DocEdit.{DocEdit}
use Rattle.dom_edits.specs.declared.edits.DocEdit.TheVariants.{Insert, Remove, Move, Set, Unset, State}
use Rattle.dom_edits.specs.declared.edits.NewNodes.TheVariants.{Kept, Past}
use Rattle.dom_edits.specs.declared.edits.NodeLimit.{NodeLimit}
use Rattle.dom_edits.specs.EditView.{doc_edit_seen, new_count, nodes_beyond}
use Rattle.dom_edits.proofs.BeyondLemmas.{beyond_past}
use Rattle.invalidation_map.specs.EditMembers.{EditMembers}
use Rattle.invalidation_map.specs.Rows.{Row}
use Rattle.invalidation_map.specs.Marks.{AddsMarkedBy, IsMarkedList}
use Rattle.invalidation_map.specs.Steps.{HasRoom}

-- the last number after an edit

beyond_refused : (d : Document) (p index : ℕ) (which : NodeLimit) → refusal d (insert p index (nodes_beyond which)) ≡ None → ⊥
beyond_refused d p index which h =
    let edit = insert p index (nodes_beyond which) in
    let later = none_parts (unknown d edit) (option_or (misplaced d edit) (limit_past d edit)) h in
    let limits = none_parts (misplaced d edit) (limit_past d edit) later.1 in
    let first = none_parts (nodes_past (nodes_beyond which)) _ limits.1 in
    some_none (sym (beyond_past which) ∙ first.0)
  where
    some_none : {X : Type 0} {x : X} → Some x ≡ None → ⊥
    some_none e = cc

last-after : (d : Document) (edit : DocEdit) → refusal d (doc_edit_seen edit) ≡ None → d.last + new_count edit ≡ (after d (doc_edit_seen edit)).last
last-after d (Insert p index (Kept nodes)) h = refl
last-after d (Insert p index (Past which)) h = absurd (beyond_refused d p index which h)
last-after d (Remove n) h = omega arith
last-after d (Move n p index) h = omega arith
last-after d (Set n name value) h = omega arith
last-after d (Unset n name) h = omega arith
last-after d (State n state on) h = omega arith

after_is : (o : Option Refusal) (after now : Document) → outcome_of o after ≡ accepted now → after ≡ now
after_is None after now h = cc
after_is (Some why) after now h = absurd (cc)

pub room_after : (before now : Document) (edit : DocEdit) (last : ℕ) → IsSound before → IsShaped (doc_edit_seen edit)
    → last ≡ before.last + new_count edit → applied before (doc_edit_seen edit) ≡ accepted now → HasRoom now.elements (last + 1)
room_after before now edit last sound shaped is h = by (refusal before (doc_edit_seen edit)) refl h
  where
    by : (o : Option Refusal) → refusal before (doc_edit_seen edit) ≡ o → outcome_of o (after before (doc_edit_seen edit)) ≡ accepted now → HasRoom now.elements (last + 1)
    by None e k =
        subst (λ (d : Document). HasRoom d.elements (last + 1)) (after_is None (after before (doc_edit_seen edit)) now k)
        (λ x there. omega (arith, is, last-after before edit e, ((sound-after before sound (doc_edit_seen edit) shaped e).given x there).1))
    by (Some why) e k = absurd (cc)

-- an element keeps its tag

pub same_tags : (before now : Document) (edit : DocEdit) → IsSound before → IsShaped (doc_edit_seen edit) → applied before (doc_edit_seen edit) ≡ accepted now → SameTags before.elements now.elements
same_tags before now edit sound shaped h = by (refusal before (doc_edit_seen edit)) refl h
  where
    by : (o : Option Refusal) → refusal before (doc_edit_seen edit) ≡ o → outcome_of o (after before (doc_edit_seen edit)) ≡ accepted now → SameTags before.elements now.elements
    by None e k =
        subst (λ (d : Document). SameTags before.elements d.elements) (after_is None (after before (doc_edit_seen edit)) now k) (tags-after before sound (doc_edit_seen edit) shaped e)
    by (Some why) e k = absurd (cc)

-- a list of those that were marked in sets where none had been
pub list_marked : (doc : List Element) (pairs : List (Touch × ℕ)) (rows : List Row) (old new : EditMembers) (list : List ℕ) → old.marked ≡ [] → AddsMarkedBy doc pairs rows old new
    → list ≡ new.marked → IsDistinct nat_eq list → IsMarkedList doc pairs rows list
list_marked doc pairs rows old new list none added same once = record {
  each = λ before selectors tags listed are x.
      ap (is_in x) same
      ∙ ((added.marked before selectors tags listed are).each x
      ∙ ap (λ l. is_in x l || is_marked before doc selectors x) none);
  once = once;
}
