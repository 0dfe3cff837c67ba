-- How examples are written.
use Rattle.std.proofs.Common.{◌≡◌, ap, ◌∙◌}
use Rattle.std.specs.Prelude.{ℕ, ℤ, Bool, ◌*◌, pos, false, List, [], ◌∷◌, map, slice_set, None}
use Rattle.std.specs.FinMap as maps
use Rattle.base_model.specs.Text.{Characters}
use Rattle.base_model.specs.Origin.{author}
use Rattle.base_model.specs.Specificity.{nothing}
use Rattle.custom_model.specs.Expand.{Lookup}
use Rattle.custom_model.specs.Computed.{resolved}
use Rattle.custom_model.proofs.Maps.{resolved-empty}
use Rattle.value_model.specs.Color.{opaque}
use Rattle.value_model.specs.Value.{Value, keyword, color, pixels}
use Rattle.value_model.specs.Table.{color_property}
use Rattle.value_model.specs.Table.{border_top_width_property, border_right_width_property}
use Rattle.value_model.specs.Table.{border_bottom_width_property, border_left_width_property}
use Rattle.value_model.specs.Style.{Style, initial_style}
use Rattle.sheet_model.specs.Declared.{longhand, exactly}
use Rattle.cascade_model.specs.Key.{Matched}
use Rattle.cascade_model.specs.Custom.{declared_values}
use Rattle.cascade_model.specs.Cascade.{cascaded, cascaded_over}

abbrev pub word : Characters → Value
word text = keyword text

-- whole pixels
abbrev pub px : ℕ → Value
px n = pixels (pos (1000 * n))

abbrev pub red : Value
red = color (opaque 255 0 0)

abbrev pub blue : Value
blue = color (opaque 0 0 255)

abbrev pub lime : Value
lime = color (opaque 0 255 0)

-- the initial values, but for these
abbrev pub values_with : List (ℕ × Value) → List Value
values_with [] = initial_style.values
values_with (one ∷ rest) = slice_set (values_with rest) one.0 one.1

-- a style without custom properties
abbrev pub styled : List (ℕ × Value) → Style
styled changes = record { values = values_with changes; custom = maps.empty }

-- what the borders are adjusted to where they have no style
abbrev pub no_borders : List (ℕ × Value)
no_borders = (border_top_width_property, px 0) ∷ (border_right_width_property, px 0) ∷ (border_bottom_width_property, px 0) ∷ (border_left_width_property, px 0) ∷ []

-- a declaration of an author's sheet, in a rule for `*`, and the same of `color`
abbrev pub declares_one : ℕ → Value → Matched
declares_one property value = record {
  target = longhand property;
  given = exactly value;
  origin = author;
  important = false;
  attached = false;
  layer = 0;
  specificity = nothing;
  sheet = 1;
  position = 0;
  index = 0;
}

abbrev pub plainly : Value → Matched
plainly value = declares_one color_property value

abbrev pub declare_all : List (ℕ × Value) → List Matched
declare_all pairs = map (λ (pair : ℕ × Value). declares_one pair.0 pair.1) pairs

-- where no custom property has a value
abbrev pub no_custom : Lookup
no_custom name = None

-- Where no custom property is declared, the parent's are kept.
pub cascaded_alone : (is_root : Bool) (changes : List (ℕ × Value)) (size : ℤ) (ds : List Matched) → declared_values ds ≡ maps.empty → cascaded is_root (styled changes) size ds ≡ cascaded_over maps.empty is_root (styled changes) size ds
cascaded_alone is_root changes size ds none =
    ap (λ declared. cascaded_over (resolved declared maps.empty) is_root (styled changes) size ds) none
    ∙ ap (λ custom. cascaded_over custom is_root (styled changes) size ds) (resolved-empty maps.empty)
