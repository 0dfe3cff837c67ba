-- What an element is styled with belongs together.
use Rattle.std.specs.Prelude.{ℤ}
use Rattle.sheet_model.specs.Sources.{Sources}
use Rattle.element_styler.specs.Cache.{AllRight}
use Rattle.element_styler.specs.Prepared.{IsPrepared}
use Rattle.element_styler.specs.declared.prepared.Prepared.{Prepared}
use Rattle.element_styler.specs.declared.styler.Styler.{Styler}

-- Made ready of these sheets is this, and each style that is kept is right for them and for this size of the root.
pub record Fits (sources : Sources) (size : ℤ) (prepared : Prepared) (styler : Styler) : Type 0 where
  pub prepared_is : IsPrepared sources prepared
  pub cache : AllRight sources size styler.table styler.cache
