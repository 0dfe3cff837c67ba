-- What holds of a session.
use Rattle.std.specs.Prelude.{◌≡◌, ℕ, ◌<◌, nat_eq, List, false, Option, None, Some, IfSome}
use Rattle.std.specs.List.{IsDistinct}
use Rattle.std.specs.List.Sorted.{IsPermutation}
use Rattle.scene_model.specs.Lookups.{is_element}
use Rattle.scene_model.specs.Numbers.{is_in}
use Rattle.change_model.specs.Sound.{IsSound}
use Rattle.sheet_model.specs.Sources.{Sources}
use Rattle.sheet_set.specs.View.{sources_seen}
use Rattle.element_styler.specs.Fits.{Fits}
use Rattle.element_styler.specs.Prepared.{IsPrepared}
use Rattle.element_styler.specs.declared.prepared.Prepared.{Prepared}
use Rattle.invalidation_map.specs.Rows.{rows_of}
use Rattle.invalidation_map.specs.RowView.{rows_in}
use Rattle.invalidation_map.specs.declared.rows.InvalidationMap.{InvalidationMap}
use Rattle.session_model.specs.Marking.{selectors_of}
use Rattle.session_model.specs.StandingInvariant.{AllKeep}
use Rattle.style_session.specs.KeptView.{KeptView, style_at}
use Rattle.style_session.specs.PendingView.{PendingMembers}
use Rattle.style_session.specs.SessionView.{standing_seen}
use Rattle.style_session.specs.declared.content.Content.{Content}
use Rattle.style_session.specs.declared.derived.Derived.{Derived}
use Rattle.style_session.specs.declared.derived.StyleCache.{StyleCache}

-- nothing is known of any styles
abbrev pub KnowsNothing : StyleCache → Type 0
KnowsNothing cache =
    (sources : Sources) (prepared : Prepared) → IsPrepared sources prepared
    → Fits sources cache.size prepared cache.styler

-- What styling asks of the sheets is right for them, and so is what the styler knows, for the font size that it is kept
-- with. Where nothing is made yet, nothing is known either, so it is right for all sheets.
abbrev pub CanStyle : Sources → Option Prepared → StyleCache → Type 0
CanStyle sources (Some prepared) cache = Fits sources cache.size prepared cache.styler
CanStyle sources None cache = KnowsNothing cache

-- what marks elements is made of the selectors of these rules
abbrev pub IsMapOf : Sources → InvalidationMap → Type 0
IsMapOf sources map = IsPermutation (rows_of (selectors_of sources)) (rows_in map)

-- what is made of the sheets is right for them, where it is there
pub record AreReady (sources : Sources) (derived : Derived) : Type 0 where
  pub styles : CanStyle sources derived.prepared derived.cache
  pub map : IfSome derived.map (IsMapOf sources)

-- no number above the last one that was given is in the list
abbrev pub AreGiven : ℕ → List ℕ → Type 0
AreGiven last list = (x : ℕ) → last < x → is_in x list ≡ false

-- The document is sound. What is made of the sheets is right for them. No set names a number that was not given. Styles
-- are kept of no other numbers than those of elements and of those that were removed since the last restyle. An element
-- that is neither marked nor fresh keeps its style. What the last restyle cascaded is listed once.
pub record IsSession (content : Content) (pending : PendingMembers) (kept : KeptView) (derived : Derived) : Type 0 where
  pub sound : IsSound content.doc
  pub ready : AreReady (sources_seen content.sheets) derived
  pub marks_given : AreGiven content.doc.last pending.marked
  pub gone_given : AreGiven content.doc.last pending.gone
  pub absent : (x : ℕ) → is_element content.doc.elements x ≡ false → is_in x pending.gone ≡ false
      → style_at kept x ≡ None
  pub keeps : AllKeep (standing_seen content.doc content.sheets pending kept)
  pub once : IsDistinct nat_eq kept.recent
