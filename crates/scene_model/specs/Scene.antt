-- A document with its style sheets.
use Rattle.std.specs.Prelude.{ℕ, List}
use Rattle.base_model.specs.Sheet.{Sheet}
use Rattle.scene_model.specs.Element.{Element}
use Rattle.scene_model.specs.Document.{Document}

-- with the last number that was given to a sheet
pub record Scene : Type 0 where
  pub document : Document
  pub sheets : List Sheet
  pub last_sheet : ℕ

abbrev pub elements_of : Scene → List Element
elements_of scene = scene.document.elements
