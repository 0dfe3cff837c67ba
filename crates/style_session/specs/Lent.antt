-- What a session lends to a restyle: its standing, and a styler that is right for what styles are computed from.
use Rattle.std.specs.Prelude.{◌≡◌, ℕ, ℤ, length, Some, slice_get, take}
use Rattle.change_model.specs.Sound.{IsSound}
use Rattle.scene_model.specs.Document.{Document}
use Rattle.scene_model.specs.Scene.{Scene}
use Rattle.sheet_model.specs.Sources.{Sources}
use Rattle.cascade_model.specs.StyleOf.{root_of}
use Rattle.sheet_set.specs.View.{sources_seen}
use Rattle.element_styler.specs.Fits.{Fits}
use Rattle.element_styler.specs.Follows.{Serves}
use Rattle.element_styler.specs.declared.prepared.Inputs.{Inputs}
use Rattle.element_styler.specs.declared.prepared.Prepared.{Prepared}
use Rattle.session_model.specs.Standing.{Standing, root_size_in, style_in}
use Rattle.style_session.specs.SessionView.{scene_seen, standing_seen}
use Rattle.style_session.specs.declared.derived.StyleCache.{StyleCache}
use Rattle.style_session.specs.declared.lists.Lists.{Lists}

-- the scene of what styles are computed from
abbrev pub scene_lent : Inputs → Scene
scene_lent inputs = scene_seen inputs.doc.now inputs.sheets.now

-- the standing of a session that lends this
abbrev pub lent : Lists → Standing
lent lists = standing_seen lists.inputs.now.doc.now lists.inputs.now.sheets.now lists.pending.now lists.kept.now

-- what the styler knows is right for these inputs
abbrev pub FitsInputs : Inputs → StyleCache → Type 0
FitsInputs inputs cache = Fits (sources_seen inputs.sheets.now) cache.size inputs.prepared.now cache.styler

-- and the styler's ancestors go with the document, so that it can style
abbrev pub ServesInputs : Inputs → StyleCache → Type 0
ServesInputs inputs cache = Serves inputs cache.size cache.styler

-- the same styles are in the table, for the same font size of the root
pub record KeepsTable (old new : StyleCache) : Type 0 where
  pub table : new.styler.table ≡ old.styler.table
  pub size : new.size ≡ old.size

-- the styler knows what it knew, for the same font size of the root, and has come to know no less right
pub record KnowsMore (old new : StyleCache) : Type 0 where
  pub table : take (length old.styler.table) new.styler.table ≡ old.styler.table
  pub size : new.size ≡ old.size
  pub fits : (sources : Sources) (prepared : Prepared) → Fits sources old.size prepared old.styler
      → Fits sources new.size prepared new.styler
  pub above : new.styler.above ≡ old.styler.above

-- what is known is for this font size of the root, and no less right
pub record IsFor (root_size : ℤ) (old new : StyleCache) : Type 0 where
  pub size : new.size ≡ root_size
  pub fits : (sources : Sources) (prepared : Prepared) → Fits sources old.size prepared old.styler
      → Fits sources new.size prepared new.styler
  pub above : new.styler.above ≡ old.styler.above

-- the root of a sound document
pub record IsRoot (document : Document) (x : ℕ) : Type 0 where
  pub sound : IsSound document
  pub root : root_of document.elements ≡ Some x

-- the number of the root's style in the table, which is for its font size
pub record IsRootStyle (inputs : Inputs) (x style : ℕ) (cache : StyleCache) : Type 0 where
  pub at : slice_get cache.styler.table style ≡ Some (style_in (scene_lent inputs) x)
  pub size : cache.size ≡ root_size_in (scene_lent inputs)
