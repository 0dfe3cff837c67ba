-- What a cascade layer is known by (css-cascade-5, section 6.4).
use Rattle.std.specs.Prelude.{ℕ, ◌==◌, List, [], ◌∷◌, Bool, true, false, ◌&&◌}
use Rattle.base_model.specs.Text.{Characters, same_text}

-- A step into a layer: by a name, or into an anonymous layer, which is known by the number of its sheet, the edition of
-- that sheet's text, and how many anonymous layers come before it in that text.
pub data Part : Type 0 where
  named : Characters → Part
  anonymous : ℕ → ℕ → ℕ → Part

-- the full name: the steps from the outermost layer inwards
abbrev pub LayerName : Type 0
LayerName = List Part

-- what is in no layer has the empty name
abbrev pub no_layer : LayerName
no_layer = []

-- case makes a difference
abbrev pub same_part : Part → Part → Bool
same_part (named a) (named b) = same_text a b
same_part (anonymous sheet edition place) (anonymous other_sheet other_edition other_place) =
    (sheet == other_sheet) && ((edition == other_edition) && (place == other_place))
same_part a b = false

abbrev pub same_name : LayerName → LayerName → Bool
same_name [] [] = true
same_name (part ∷ name) (other ∷ rest) = same_part part other && same_name name rest
same_name name other = false

-- how many parts a full name may have
abbrev pub part_limit : ℕ
part_limit = 64
