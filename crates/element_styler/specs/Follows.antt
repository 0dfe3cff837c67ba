-- The ancestors that a styler has go with the document.
use Rattle.std.specs.Prelude.{ℕ, ℤ, List}
use Rattle.scene_model.specs.Ancestors.{ancestors}
use Rattle.scene_model.specs.Element.{Element}
use Rattle.ancestor_filter.specs.Names.{StandsFor}
use Rattle.ancestor_filter.specs.Paths.{IsRight}
use Rattle.sheet_set.specs.View.{sources_seen}
use Rattle.element_styler.specs.Fits.{Fits}
use Rattle.element_styler.specs.Prepared.{IsPrepared}
use Rattle.element_styler.specs.declared.above.Above.{Above}
use Rattle.element_styler.specs.declared.prepared.Inputs.{Inputs}
use Rattle.element_styler.specs.declared.styler.Styler.{Styler}

-- they are an element of the document and its ancestors, or none, and the filter stands for them
abbrev pub Follows : List Element → Above → Type 0
Follows doc above = IsRight doc above.ancestors

-- the filter stands for the ancestors of x
abbrev pub IsAbove : List Element → ℕ → Above → Type 0
IsAbove doc x above = StandsFor doc (ancestors doc x) above.ancestors.filter

-- An element without a parent can be styled: this is made ready of the sheets, and the ancestors go with the document.
pub record IsReady (inputs : Inputs) (styler : Styler) : Type 0 where
  pub prepared : IsPrepared (sources_seen inputs.sheets.now) inputs.prepared.now
  pub follows : Follows inputs.doc.now.elements styler.above

-- So can one over the style of its parent: what is known of styles is right, too, for this size of the root.
pub record Serves (inputs : Inputs) (size : ℤ) (styler : Styler) : Type 0 where
  pub fits : Fits (sources_seen inputs.sheets.now) size inputs.prepared.now styler
  pub follows : Follows inputs.doc.now.elements styler.above
