-- What an edit of a session adds to its marks, to what is fresh and to what is gone.
use Rattle.std.specs.Prelude.{◌≡◌, ℕ, ◌||◌, Bool, List, false, true}
use Rattle.std.specs.List.Sorted.{IsPermutation}
use Rattle.scene_model.specs.Element.{Element}
use Rattle.scene_model.specs.Document.{Document}
use Rattle.scene_model.specs.Lookups.{IsElement, is_element}
use Rattle.scene_model.specs.Numbers.{is_in}
use Rattle.selector_model.specs.Selector.{Selector}
use Rattle.sheet_model.specs.Sources.{Sources}
use Rattle.edit_model.specs.Apply.{applied, is_fresh}
use Rattle.edit_model.specs.Edit.{DocEdit, SheetEdit}
use Rattle.edit_model.specs.Marked.{is_marked}
use Rattle.edit_model.specs.Refusal.{accepted}
use Rattle.edit_model.specs.SheetApply.{SheetList, number_in, sheets_applied}
use Rattle.invalidation_map.specs.Rows.{Row, rows_of}
use Rattle.session_model.specs.Marking.{selectors_of}
use Rattle.sheet_edit_model.specs.SheetMarks.{is_marked_by_sheets}
use Rattle.sheet_set.specs.Fits.{AreSameSheets}
use Rattle.sheet_set.specs.View.{listed_seen, sources_seen}
use Rattle.style_session.specs.PendingView.{MarksToo, PendingMembers, is_fresh_in, without_gone}
use Rattle.style_session.specs.declared.content.Content.{Content}

-- for every list of selectors with these rows, in whatever order, what an edit marks by them
abbrev pub AddsMarks : List Element → List Element → List Row → List ℕ → List ℕ → Type 0
AddsMarks before now rows old new =
    (selectors : List Selector) → IsPermutation (rows_of selectors) rows
    → (x : ℕ) → is_in x new ≡ (is_in x old || is_marked before now selectors x)

-- the numbers that were marked, and those that an edit marks by the selectors of these rules
abbrev pub AreMarkedToo : List Element → List Element → Sources → List ℕ → List ℕ → Type 0
AreMarkedToo before now sources old new =
    (x : ℕ) → is_in x new ≡ (is_in x old || is_marked before now (selectors_of sources) x)

-- whom an edit of sheets marks
abbrev pub sheet_marks_of : List Element → SheetList → SheetList → SheetEdit → ℕ → Bool
sheet_marks_of doc before after edit x =
    is_marked_by_sheets doc before.listed after.listed (number_in before.last edit) x

-- what was fresh still is, and so is what an edit makes fresh
abbrev pub AreFreshToo : Document → Document → DocEdit → PendingMembers → PendingMembers → Type 0
AreFreshToo old new edit before after =
    (x : ℕ) → IsElement new.elements x → is_fresh_in after x ≡ (is_fresh_in before x || is_fresh old edit x)

-- numbers of removed elements, with those that an edit removes
pub record AreGoneToo (old new : Document) (gone now : List ℕ) : Type 0 where
  pub stays : (x : ℕ) → is_in x gone ≡ true → is_in x now ≡ true
  pub removed : (x : ℕ) → IsElement old.elements x → is_element new.elements x ≡ false → is_in x now ≡ true
  pub of_old : (x : ℕ) → is_in x now ≡ true → is_in x gone ≡ false → IsElement old.elements x

-- what an edit is to take out is named, and all else is as it was
pub record TakesOut (old new : Document) (before after : PendingMembers) : Type 0 where
  pub gone : AreGoneToo old new before.gone after.gone
  pub others : without_gone after ≡ without_gone before

-- an edit that is made of a document, by the rows of selectors
pub record MakesEdit (old : Document) (edit : DocEdit) (new : Document) (rows : List Row)
    (before after : PendingMembers)
    : Type 0 where
  pub accepts : applied old edit ≡ accepted new
  pub marked : AddsMarks old.elements new.elements rows before.marked after.marked
  pub fresh : AreFreshToo old new edit before after
  pub gone : AreGoneToo old new before.gone after.gone

-- an edit that is made of the document of a session
pub record EditsDocument (old : Content) (edit : DocEdit) (new : Content) (before after : PendingMembers) : Type 0 where
  pub accepts : applied old.doc edit ≡ accepted new.doc
  pub sheets : new.sheets ≡ old.sheets
  pub marked : AreMarkedToo old.doc.elements new.doc.elements (sources_seen old.sheets) before.marked after.marked
  pub fresh : AreFreshToo old.doc new.doc edit before after
  pub gone : AreGoneToo old.doc new.doc before.gone after.gone

-- an edit that is made of its sheets
pub record EditsSheets (old : Content) (edit : SheetEdit) (new : Content) (before after : PendingMembers) : Type 0 where
  pub applies : accepted (listed_seen new.sheets) ≡ sheets_applied (listed_seen old.sheets) edit
  pub document : new.doc ≡ old.doc
  pub marks : MarksToo
      (sheet_marks_of old.doc.elements (listed_seen old.sheets) (listed_seen new.sheets) edit) before after

-- Nothing more is marked or fresh. What an edit was to take out may be named, though it is still there.
pub record IsPendingStill (document : Document) (before after : PendingMembers) : Type 0 where
  pub marked : after.marked ≡ before.marked
  pub fresh : is_fresh_in after ≡ is_fresh_in before
  pub gone : AreGoneToo document document before.gone after.gone

-- an edit of a document that is not made
pub record IsUnmade (old new : Document) (before after : PendingMembers) : Type 0 where
  pub document : new ≡ old
  pub pending : IsPendingStill old before after

-- an edit of a session that is not made
pub record IsUnedited (old new : Content) (before after : PendingMembers) : Type 0 where
  pub document : new.doc ≡ old.doc
  pub sheets : AreSameSheets old.sheets new.sheets
  pub pending : IsPendingStill old.doc before after
