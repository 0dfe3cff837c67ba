-- The styles that are known on the way down a document.
use Rattle.std.specs.Prelude.{◌≡◌, ℕ, List, Option, Some, option_and_then, slice_get}
use Rattle.scene_model.specs.Element.{Element}
use Rattle.scene_model.specs.Lookups.{parent_of}
use Rattle.value_model.specs.Style.{Style}
use Rattle.sheet_model.specs.Sources.{Sources}
use Rattle.cascade_model.specs.StyleOf.{root_of, root_size_of, style_of}
use Rattle.element_styler.specs.declared.styler.RootStyle.{RootStyle}

-- the style of a number, at the place that is kept for it
abbrev pub style_at : List Style → List ℕ → ℕ → Option Style
style_at styles places x = option_and_then (slice_get styles) (slice_get places x)

-- the style of the element's parent, if it has one, is known
abbrev pub KnowsParent : List Element → Sources → (ℕ → Option Style) → ℕ → Type 0
KnowsParent doc sources known x = (p : ℕ) → parent_of doc x ≡ Some p → known p ≡ Some (style_of doc sources p)

-- and so is the root's, with its font size
pub record KnowsRoot (doc : List Element) (sources : Sources) (styles : List Style) (root : RootStyle) : Type 0 where
  pub style : (x : ℕ) → root_of doc ≡ Some x → slice_get styles root.style ≡ Some (style_of doc sources x)
  pub size : root.size ≡ root_size_of doc sources
