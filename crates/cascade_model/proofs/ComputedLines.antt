-- Computed values stand within a line, where the declared ones do.
use Rattle.std.proofs.Common.{◌≡◌, ℕ, ◌+◌, ℤ, Bool, true, List, [], ◌∷◌, codes, eqb, refl}
use Rattle.std.specs.Prelude.{if◌then◌else◌}
use Rattle.std.specs.List.{list_all}
use Rattle.std.proofs.lemmas.Bool.{and_parts, cond_both}
use Rattle.base_model.specs.LineFeeds.{is_within_line}
use Rattle.custom_model.specs.Expand.{Lookup}
use Rattle.value_model.specs.Value.{Value, keyword, percent, em, rem}
use Rattle.value_model.specs.Table.{PropertyRow, ComputeRule, plain, of_color, of_font_size, of_font_weight, of_line_height, table, font_size_property}
use Rattle.value_model.specs.Style.{font_size_of, font_weight_of, is_keyword}
use Rattle.value_model.proofs.LineLemmas.{AreLineValues, IsLineValue, is_line_row, is_line_value, table_within}
use Rattle.cascade_model.specs.Key.{Matched}
use Rattle.cascade_model.specs.Winner.{declares_longhand}
use Rattle.cascade_model.specs.Ending.{Ending, inherits, initially, unsets, ends_at, ending, meaning_of}
use Rattle.cascade_model.specs.Cascade.{Sizes, absolute, computed_by, computed_color, computed_height, computed_size, computed_weight, own_size, property_value, sizes, value_at, values_from, values_over}
use Rattle.cascade_model.proofs.EndingLines.{AreLineMatched, EndingHolds, ending_holds, kept_matched, meaning_within}

initial_of : (row : PropertyRow) → is_line_row row ≡ true → IsLineValue row.initial
initial_of row r = (and_parts (is_line_value row.initial) _ (and_parts (is_within_line row.name) _ r).1).0

-- what values are computed to: pixels and numbers, or what they are

absolute_within : (sizes : Sizes) (value : Value) → IsLineValue value → IsLineValue (absolute sizes value)
absolute_within sizes (em z) h = refl
absolute_within sizes (rem z) h = refl
absolute_within sizes value h = h

size_within_line : (size : ℤ) (sizes : Sizes) (value : Value) → IsLineValue value → IsLineValue (computed_size size sizes value)
size_within_line size sizes (percent z) h = refl
size_within_line size sizes (keyword word) h =
    cond_both (is_keyword (codes "larger") (keyword word)) _ _ IsLineValue (λ _. refl)
    (λ _. cond_both (is_keyword (codes "smaller") (keyword word)) _ _ IsLineValue (λ _. refl) (λ _. h))
size_within_line size sizes (em z) h = refl
size_within_line size sizes (rem z) h = refl
size_within_line size sizes value h = h

weight_within : (weight : ℤ) (value : Value) → IsLineValue value → IsLineValue (computed_weight weight value)
weight_within weight value h =
    cond_both (is_keyword (codes "bolder") value) _ _ IsLineValue (λ _. refl)
    (λ _. cond_both (is_keyword (codes "lighter") value) _ _ IsLineValue (λ _. refl) (λ _. h))

height_within : (sizes : Sizes) (value : Value) → IsLineValue value → IsLineValue (computed_height sizes value)
height_within sizes (percent z) h = refl
height_within sizes (em z) h = refl
height_within sizes (rem z) h = refl
height_within sizes value h = h

color_within : (parents value : Value) → IsLineValue parents → IsLineValue value → IsLineValue (computed_color parents value)
color_within parents value k h =
    cond_both (is_keyword (codes "currentcolor") value) _ _ IsLineValue (λ _. k) (λ _. h)

module _ (parents : Value) (size weight : ℤ) (sizes : Sizes) (k : IsLineValue parents) where
  computed_within_line : (rule : ComputeRule) (value : Value) → IsLineValue value → IsLineValue (computed_by rule parents size weight sizes value)
  computed_within_line plain value h = absolute_within sizes value h
  computed_within_line of_color value h = color_within parents value k h
  computed_within_line of_font_size value h = size_within_line size sizes value h
  computed_within_line of_font_weight value h = weight_within weight value h
  computed_within_line of_line_height value h = height_within sizes value h

  value_at_within : (row : PropertyRow) (end : Ending Value) → is_line_row row ≡ true → EndingHolds IsLineValue end → IsLineValue (value_at row parents size weight sizes end)
  value_at_within row inherits r h = k
  value_at_within row initially r h = initial_of row r
  value_at_within row unsets r h = cond_both row.inherited _ _ IsLineValue (λ _. k) (λ _. initial_of row r)
  value_at_within row (ends_at given) r h = computed_within_line row.rule given h

-- the values of all properties

module _ (custom : Lookup) (ds : List Matched) (all : AreLineMatched ds) where
  property_within : (parents : List Value) (sizes : Sizes) (property : ℕ) (row : PropertyRow) (value : Value) → is_line_row row ≡ true → IsLineValue value → IsLineValue (property_value custom parents sizes ds property row value)
  property_within parents sizes property row value r h =
      cond_both (eqb property font_size_property) _ _ IsLineValue (λ _. refl)
      (λ _. value_at_within value (font_size_of parents) (font_weight_of parents) sizes h row (ending custom property ds) r
      (ending_holds IsLineValue (meaning_of custom property) (meaning_within custom property) _ (kept_matched (declares_longhand property) ds all)))

module _
    (f : ℕ → PropertyRow → Value → Value)
    (each : (property : ℕ) (row : PropertyRow) (value : Value) → is_line_row row ≡ true → IsLineValue value → IsLineValue (f property row value))
  where
    values_from_within : (property : ℕ) (rows : List PropertyRow) (parents : List Value) → list_all is_line_row rows ≡ true → AreLineValues parents → AreLineValues (values_from f property rows parents)
    values_from_within property [] parents r h = tt
    values_from_within property (row ∷ rows) [] r h = tt
    values_from_within property (row ∷ rows) (value ∷ parents) r h =
        let parts = and_parts (is_line_row row) _ r in
        (each property row value parts.0 h.0, values_from_within (property + 1) rows parents parts.1 h.1)

pub values_over_within : (custom : Lookup) (is_root : Bool) (parents : List Value) (root_size : ℤ) (ds : List Matched) → AreLineMatched ds → AreLineValues parents → AreLineValues (values_over custom is_root parents root_size ds)
values_over_within custom is_root parents root_size ds all h =
    let own = own_size custom parents root_size ds in
    let of_root = if is_root then own else root_size in
    values_from_within (property_value custom parents (sizes own of_root) ds) (property_within custom ds all parents (sizes own of_root)) 0 table parents table_within h
