-- What the parts of a name stand for.
use Rattle.std.specs.Prelude.{◌≡◌, [], ◌∷◌, ◌++◌}
use Rattle.layer_model.specs.Name as model
use Rattle.layer_order.specs.declared.part.Part.{Part}
use Rattle.layer_order.specs.declared.part.Part.TheVariants.{Named, Anonymous}

abbrev pub part_of : Part → model.Part
part_of (Named text) = model.named text
part_of (Anonymous sheet edition place) = model.anonymous sheet edition place

-- a name has one part more than another
pub record IsIn (outer name : model.LayerName) : Type 0 where
  pub part : model.Part
  pub is : name ≡ outer ++ part ∷ []
