-- The layers that names declare, each with those directly in it.
use Rattle.std.specs.Prelude.{◌≡◌, ℕ, ◌+◌, ◌<◌, ◌^◌, List, Some, filter, length, map, slice_get, take, slice_index_or}
use Rattle.layer_model.specs.Name.{LayerName, no_layer}
use Rattle.layer_model.specs.Order.{declared, is_directly_in, place_in}

-- some names declare these layers
pub record AreDeclared (layers : List LayerName) : Type 0 where
  pub names : List LayerName
  pub are : layers ≡ declared names

-- the layer of this place; past the last stands what is in no layer
abbrev pub layer_at : List LayerName → ℕ → LayerName
layer_at layers place = slice_index_or layers place no_layer

-- lists of places, by the place of the layer that they are directly in; the last list is of those in no layer
pub record AreNested (layers : List LayerName) (count : ℕ) (inner : List (List ℕ)) : Type 0 where
  pub lists : length inner ≡ length layers + 1
  pub each : (place : ℕ) (list : List ℕ) → slice_get inner place ≡ Some list
      → map (layer_at layers) list ≡ filter (is_directly_in (layer_at layers place)) (take count layers)
  pub within : (place i p : ℕ) (list : List ℕ) → slice_get inner place ≡ Some list
      → slice_get list i ≡ Some p → p < length layers

-- what is in no layer is last, and a place is a `u32`
pub record IsOrder (names : List LayerName) : Type 0 where
  pub last : place_in names no_layer + 1 ≡ length names
  pub few : length names < 2 ^ 32
