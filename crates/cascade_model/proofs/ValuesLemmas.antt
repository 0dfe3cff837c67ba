-- The values of a style, row by row over the parent's, and what the adjustments leave as it was.
use Rattle.std.proofs.Common.{◌≡◌, ◌≢◌, lit<, ℕ, ◌+◌, ◌<◌, ℤ, suc, zero, nat_eq, Bool, false, ◌||◌, if◌then◌else◌, List, [], ◌∷◌, length, set, slice_get, Option, Some, None, option_map, refl, ap, ◌∙◌, arith}
use Rattle.std.specs.List.{AllByRecursion}
use Rattle.std.specs.Option.{option_map_or}
use Rattle.std.specs.FinMap as finmap
use Rattle.std.proofs.lemmas.Bool.{cond_both, or_parts, eqb-false}
use Rattle.std.proofs.lemmas.List.{length-set}
use Rattle.base_model.proofs.Lists.{slice_get_some}
use Rattle.custom_model.specs.Expand.{Lookup}
use Rattle.value_model.specs.Value.{Value}
use Rattle.value_model.specs.Table.{PropertyRow, table, display_property, float_property, border_sides, font_size_property, font_size_row, font_weight_property}
use Rattle.value_model.specs.Table.{border_top_width_property, border_right_width_property}
use Rattle.value_model.specs.Table.{border_bottom_width_property, border_left_width_property}
use Rattle.value_model.specs.Style.{Style, changed, with_changed, passes_at, is_no_border, is_positioned, floats, with_float, with_display, with_border, with_borders, adjusted, size_in, initial_size, font_size_of, weight_in, initial_weight, font_weight_of}
use Rattle.value_model.proofs.ByRow.{by_row, by_row-at, by_row-keeps, length-by_row, keeps}
use Rattle.cascade_model.specs.Key.{Matched}
use Rattle.cascade_model.specs.Custom.{custom_values}
use Rattle.cascade_model.specs.Cascade.{sizes, own_size, property_value, values_from, values_over, cascaded}

pub values_from-by_row : (f : ℕ → PropertyRow → Value → Value) (i : ℕ) (rows : List PropertyRow) (values : List Value) → values_from f i rows values ≡ by_row f i rows values
values_from-by_row f i [] values = refl
values_from-by_row f i (row ∷ rows) [] = refl
values_from-by_row f i (row ∷ rows) (value ∷ values) =
    ap (λ l. f i row value ∷ l) (values_from-by_row f (i + 1) rows values)

pub length-values_from : (f : ℕ → PropertyRow → Value → Value) (i : ℕ) (rows : List PropertyRow) (values : List Value) → length values ≡ length rows → length (values_from f i rows values) ≡ length rows
length-values_from f i rows values h =
    ap length (values_from-by_row f i rows values)
    ∙ (length-by_row f keeps i rows values ∙ (ap length (by_row-keeps i rows values h) ∙ h))

-- the value at an index of the table
pub values_from-at : (f : ℕ → PropertyRow → Value → Value) (rows : List PropertyRow) (values : List Value) (k : ℕ) (row : PropertyRow) → slice_get rows k ≡ Some row → slice_get (values_from f 0 rows values) k ≡ option_map (f k row) (slice_get values k)
values_from-at f rows values k row at =
    ap (λ l. slice_get l k) (values_from-by_row f 0 rows values) ∙ by_row-at f rows values k row at

-- A function of a list of values that no change of this property's value changes.
abbrev Keeps : {A : Type 0} → (List Value → A) → ℕ → Type 0
Keeps look k = (change : Value → Value) (values : List Value) → look (with_changed change k values) ≡ look values

module _ {A : Type 0} (look : List Value → A) where
  float_keeps : Keeps look float_property → (values : List Value) → look (with_float values) ≡ look values
  float_keeps keeps values =
      cond_both (is_positioned values) _ _ (λ l. look l ≡ look values) (λ _. keeps _ values) (λ _. refl)

  display_keeps : Keeps look display_property → (is_root : Bool) (values : List Value) → look (with_display is_root values) ≡ look values
  display_keeps keeps is_root values =
      cond_both (is_root || (is_positioned values || floats values)) _ _ (λ l. look l ≡ look values) (λ _. keeps _ values) (λ _. refl)

  border_keeps : (side : ℕ × ℕ) → Keeps look side.0 → (values : List Value) → look (with_border side values) ≡ look values
  border_keeps side keeps values =
      cond_both (passes_at is_no_border side.1 values) _ _ (λ l. look l ≡ look values) (λ _. keeps _ values) (λ _. refl)

  borders_keep : (sides : List (ℕ × ℕ)) → AllByRecursion (λ side. Keeps look side.0) sides → (values : List Value) → look (with_borders sides values) ≡ look values
  borders_keep [] keeps values = refl
  borders_keep (side ∷ sides) keeps values =
      borders_keep sides keeps.1 (with_border side values) ∙ border_keeps side keeps.0 values

  -- what no change at the properties that are adjusted changes, the adjustments do not change
  adjusted_keeps : Keeps look float_property → Keeps look display_property → AllByRecursion (λ side. Keeps look side.0) border_sides → (is_root : Bool) (values : List Value) → look (adjusted is_root values) ≡ look values
  adjusted_keeps float display borders is_root values =
      borders_keep border_sides borders (with_display is_root (with_float values))
      ∙ (display_keeps display is_root (with_float values) ∙ float_keeps float values)

length-changed : (change : Value → Value) (o : Option Value) (k : ℕ) (values : List Value) → length (changed change o k values) ≡ length values
length-changed change None k values = refl
length-changed change (Some value) k values = length-set values k (change value)

length_keeps : (k : ℕ) → Keeps length k
length_keeps k change values = length-changed change (slice_get values k) k values

pub length-adjusted : (is_root : Bool) (values : List Value) → length (adjusted is_root values) ≡ length values
length-adjusted =
    adjusted_keeps length (length_keeps float_property) (length_keeps display_property) (length_keeps border_top_width_property, (length_keeps border_right_width_property, (length_keeps border_bottom_width_property, (length_keeps border_left_width_property, tt))))

get-set_other : (values : List Value) (k n : ℕ) (value : Value) → k ≢ n → slice_get (set values k value) n ≡ slice_get values n
get-set_other [] k n value other = refl
get-set_other (first ∷ values) zero zero value other = absurd (other refl)
get-set_other (first ∷ values) zero (suc n) value other = refl
get-set_other (first ∷ values) (suc k) zero value other = refl
get-set_other (first ∷ values) (suc k) (suc n) value other =
    get-set_other values k n value (λ same. other (ap suc same))

get-changed_other : (change : Value → Value) (o : Option Value) (k n : ℕ) (values : List Value) → k ≢ n → slice_get (changed change o k values) n ≡ slice_get values n
get-changed_other change None k n values other = refl
get-changed_other change (Some value) k n values other = get-set_other values k n (change value) other

get_keeps : (n k : ℕ) → nat_eq k n ≡ false → Keeps (λ values. slice_get values n) k
get_keeps n k other change values =
    get-changed_other change (slice_get values k) k n values (eqb-false k n other)

-- the properties that are adjusted
abbrev pub is_adjusted : ℕ → Bool
is_adjusted n =
    nat_eq float_property n || (nat_eq display_property n || (nat_eq border_top_width_property n || (nat_eq border_right_width_property n || (nat_eq border_bottom_width_property n || nat_eq border_left_width_property n))))

-- each other one stays as it was
pub adjusted-at : (n : ℕ) → is_adjusted n ≡ false → (is_root : Bool) (values : List Value) → slice_get (adjusted is_root values) n ≡ slice_get values n
adjusted-at n other =
    let float = or_parts (nat_eq float_property n) _ other in
    let display = or_parts (nat_eq display_property n) _ float.1 in
    let top = or_parts (nat_eq border_top_width_property n) _ display.1 in
    let right = or_parts (nat_eq border_right_width_property n) _ top.1 in
    let bottom = or_parts (nat_eq border_bottom_width_property n) _ right.1 in
    adjusted_keeps (λ values. slice_get values n) (get_keeps n float_property float.0) (get_keeps n display_property display.0)
    (get_keeps n border_top_width_property top.0, (get_keeps n border_right_width_property right.0, (get_keeps n border_bottom_width_property bottom.0, (get_keeps n border_left_width_property bottom.1, tt))))

pub font_size_of-adjusted : (is_root : Bool) (values : List Value) → font_size_of (adjusted is_root values) ≡ font_size_of values
font_size_of-adjusted is_root values =
    ap (λ o. option_map_or size_in o initial_size) (adjusted-at font_size_property refl is_root values)

pub font_weight_of-adjusted : (is_root : Bool) (values : List Value) → font_weight_of (adjusted is_root values) ≡ font_weight_of values
font_weight_of-adjusted is_root values =
    ap (λ o. option_map_or weight_in o initial_weight) (adjusted-at font_weight_property refl is_root values)

size_row : slice_get table font_size_property ≡ Some font_size_row
unfolding table
size_row = refl

pub size_within : font_size_property < length table
unfolding table
size_within = lit< tt

-- the font size is the one that comes first
pub font_size_of-values : (custom : Lookup) (is_root : Bool) (parents : List Value) (root_size : ℤ) (ds : List Matched) → length parents ≡ length table → font_size_of (values_over custom is_root parents root_size ds) ≡ own_size custom parents root_size ds
font_size_of-values custom is_root parents root_size ds h =
    let own = own_size custom parents root_size ds in
    let value_by : ℕ → PropertyRow → Value → Value = property_value custom parents (sizes own (if is_root then own else root_size)) ds in
    let (value, at) = slice_get_some parents font_size_property (omega (arith, h, size_within)) in
    ap (λ o. option_map_or size_in o initial_size) (values_from-at value_by table parents font_size_property font_size_row size_row ∙ ap (option_map (value_by font_size_property font_size_row)) at)

pub font_size_of-cascaded : (is_root : Bool) (parent : Style) (root_size : ℤ) (ds : List Matched) → length parent.values ≡ length table → font_size_of (cascaded is_root parent root_size ds).values ≡ own_size (finmap.get (custom_values parent.custom ds)) parent.values root_size ds
font_size_of-cascaded is_root parent root_size ds h =
    font_size_of-adjusted is_root (values_over (finmap.get (custom_values parent.custom ds)) is_root parent.values root_size ds)
    ∙ font_size_of-values (finmap.get (custom_values parent.custom ds)) is_root parent.values root_size ds h

-- a style has a value for each property where its parent has one

pub length-values_over : (custom : Lookup) (is_root : Bool) (parents : List Value) (root_size : ℤ) (ds : List Matched) → length parents ≡ length table → length (values_over custom is_root parents root_size ds) ≡ length table
length-values_over custom is_root parents root_size ds h =
    let own = own_size custom parents root_size ds in
    length-values_from (property_value custom parents (sizes own (if is_root then own else root_size)) ds) 0 table parents h

pub length-cascaded : (is_root : Bool) (parent : Style) (root_size : ℤ) (ds : List Matched) → length parent.values ≡ length table → length (cascaded is_root parent root_size ds).values ≡ length table
length-cascaded is_root parent root_size ds h =
    let custom : Lookup = finmap.get (custom_values parent.custom ds) in
    length-adjusted is_root (values_over custom is_root parent.values root_size ds)
    ∙ length-values_over custom is_root parent.values root_size ds h
