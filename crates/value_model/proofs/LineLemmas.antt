-- Values and styles are printed within a line, where keywords are.
use Rattle.std.proofs.Common.{◌≡◌, ℕ, zero, suc, ◌/◌, ◌%◌, pos, Bool, true, eqb, List, [], ◌∷◌, ◌++◌, map, set, Option, Some, None, slice_get, refl, sym, ap, ◌∙◌, subst, arith}
use Rattle.std.specs.Prelude.{◌&&◌, ◌||◌, not, nat_lt, codes}
use Rattle.std.specs.List.{AllByRecursion, list_all}
use Rattle.std.specs.FinMap as finmap
use Rattle.std.specs.Char.{digit_char}
use Rattle.std.specs.Cmp.Lexicographic.{slice_cmp}
use Rattle.std.specs.Ordering.{nat_cmp}
use Rattle.std.proofs.lemmas.Bool.{and_from, and_parts, cond_both}
use Rattle.std.proofs.lemmas.Option.{none-some, same_Some}
use Rattle.std.proofs.lemmas.Bool.Decides.{nat_tests}
use Rattle.base_model.specs.LineFeeds.{is_within_line}
use Rattle.base_model.specs.Text.{Characters}
use Rattle.base_model.specs.Thousandths as thousandths
use Rattle.base_model.proofs.LineFeedLemmas.{IsWithinLine, printed_number_within_line, within_line-append}
use Rattle.base_model.proofs.Lists.{each-append}
use Rattle.custom_model.proofs.ExpandWritable.{AllWritable}
use Rattle.custom_model.proofs.LineLemmas.{custom_texts_within, joined_within}
use Rattle.custom_model.specs.Printed.{custom_texts}
use Rattle.value_model.specs.Color.{Color, alpha_digits, color_text, two_digits}
use Rattle.value_model.specs.Value.{Value, keyword, color, pixels, percent, number, em, rem, printed_value, same_value}
use Rattle.value_model.specs.Table.{PropertyRow, ValueForm, named, table, display_property, float_property, border_sides}
use Rattle.value_model.specs.Style.{Style, adjusted, blockified, changed, floats, initial_style, is_keyword, is_no_border, is_positioned, passes_at, with_border, with_borders, with_changed, with_display, with_float}
use Rattle.value_model.specs.Printed.{declaration_texts, printed_declarations}

-- a value whose word, if it is a keyword, holds no line feed
abbrev pub is_line_value : Value → Bool
is_line_value (keyword word) = is_within_line word
is_line_value value = true

abbrev pub IsLineValue : Value → Type 0
IsLineValue value = is_line_value value ≡ true

-- it is printed within a line

hex_digit_within : (d : ℕ) → not (eqb (digit_char d) 10) ≡ true
hex_digit_within d = cond_both (nat_lt d 10) _ _ (λ n. not (eqb n 10) ≡ true) (λ _. grind (arith, nat_tests)) (λ _. grind (arith, nat_tests))

two_digits_within : (n : ℕ) → IsWithinLine (two_digits n)
two_digits_within n = and_from _ _ (hex_digit_within (n / 16)) (and_from _ _ (hex_digit_within (n % 16)) refl)

color_text_within : (c : Color) → IsWithinLine (color_text c)
color_text_within c =
    let last : Characters = alpha_digits c.alpha in
    within_line-append (two_digits c.red) (two_digits c.green ++ (two_digits c.blue ++ last)) (two_digits_within c.red)
    (within_line-append (two_digits c.green) (two_digits c.blue ++ last) (two_digits_within c.green)
    (within_line-append (two_digits c.blue) last (two_digits_within c.blue)
    (cond_both (eqb c.alpha 255) _ _ IsWithinLine (λ _. refl) (λ _. two_digits_within c.alpha))))

printed_value_within : (value : Value) → IsLineValue value → IsWithinLine (printed_value value)
printed_value_within (keyword word) h = h
printed_value_within (color c) h = color_text_within c
printed_value_within (pixels z) h = within_line-append (thousandths.printed_number z) (codes "px") (printed_number_within_line z) refl
printed_value_within (percent z) h = within_line-append (thousandths.printed_number z) (codes "%") (printed_number_within_line z) refl
printed_value_within (number z) h = printed_number_within_line z
printed_value_within (em z) h = within_line-append (thousandths.printed_number z) (codes "em") (printed_number_within_line z) refl
printed_value_within (rem z) h = within_line-append (thousandths.printed_number z) (codes "rem") (printed_number_within_line z) refl

-- the table: names, initial values, and the values that words are read as

abbrev pub is_line_form : ValueForm → Bool
is_line_form (named text read) = is_line_value read
is_line_form form = true

abbrev pub is_line_row : PropertyRow → Bool
is_line_row row = is_within_line row.name && (is_line_value row.initial && list_all is_line_form row.forms)

pub table_within : list_all is_line_row table ≡ true
unfolding table
table_within = refl

row_among : (rows : List PropertyRow) (k : ℕ) (row : PropertyRow) → list_all is_line_row rows ≡ true → slice_get rows k ≡ Some row → is_line_row row ≡ true
row_among [] k row h at = absurd (none-some row at)
row_among (first ∷ rows) zero row h at =
    ap is_line_row (sym (same_Some first row at)) ∙ (and_parts (is_line_row first) _ h).0
row_among (first ∷ rows) (suc k) row h at = row_among rows k row (and_parts (is_line_row first) _ h).1 at

pub row_within : (property : ℕ) (row : PropertyRow) → slice_get table property ≡ Some row → is_line_row row ≡ true
row_within property row at = row_among table property row table_within at

-- a style

abbrev pub AreLineValues : List Value → Type 0
AreLineValues values = AllByRecursion IsLineValue values

declarations_within : (rows : List PropertyRow) (values : List Value) → list_all is_line_row rows ≡ true → AreLineValues values → AllByRecursion IsWithinLine (declaration_texts rows values)
declarations_within [] values h k = tt
declarations_within (row ∷ rows) [] h k = tt
declarations_within (row ∷ rows) (value ∷ values) h k =
    let parts = and_parts (is_line_row row) _ h in
    let rest = declarations_within rows values parts.1 k.1 in
    cond_both (same_value value row.standing) _ _ (AllByRecursion IsWithinLine) (λ _. rest) (λ _. (
      within_line-append row.name (codes ": " ++ printed_value value) (and_parts (is_within_line row.name) _ parts.0).0 (printed_value_within value k.0),
      rest,
    ))

-- words that hold no line feed, and custom properties that can be written
pub record IsLineStyle (style : Style) : Type 0 where
  pub values : AreLineValues style.values
  pub custom : AllWritable (finmap.get style.custom)

pub printed_within : (style : Style) → IsLineStyle style → IsWithinLine (printed_declarations style)
printed_within style h =
    joined_within (codes "; ") (declaration_texts table style.values ++ custom_texts style.custom) refl
    (each-append IsWithinLine (declaration_texts table style.values) (custom_texts style.custom)
    (declarations_within table style.values table_within h.values) (custom_texts_within style.custom h.custom))

initials_within : (rows : List PropertyRow) → list_all is_line_row rows ≡ true → AreLineValues (map (λ row. row.initial) rows)
initials_within [] h = tt
initials_within (row ∷ rows) h =
    let parts = and_parts (is_line_row row) _ h in
    ((and_parts (is_line_value row.initial) _ (and_parts (is_within_line row.name) _ parts.0).1).0, initials_within rows parts.1)

pub initial_within : IsLineStyle initial_style
initial_within = record {
  values = initials_within table table_within;
  custom = λ name value is. absurd (none-some value (sym (finmap.get-empty (slice_cmp nat_cmp) name) ∙ is));
}

-- the adjustments put in words of their own, and lengths

abbrev KeepsLine : (Value → Value) → Type 0
KeepsLine change = (value : Value) → IsLineValue value → IsLineValue (change value)

set_within : (values : List Value) (k : ℕ) (value : Value) → IsLineValue value → AreLineValues values → AreLineValues (set values k value)
set_within [] k value h all = tt
set_within (first ∷ values) zero value h all = (h, all.1)
set_within (first ∷ values) (suc k) value h all = (all.0, set_within values k value h all.1)

value_among : (values : List Value) (k : ℕ) (value : Value) → AreLineValues values → slice_get values k ≡ Some value → IsLineValue value
value_among [] k value all at = absurd (none-some value at)
value_among (first ∷ values) zero value all at = subst IsLineValue (same_Some first value at) all.0
value_among (first ∷ values) (suc k) value all at = value_among values k value all.1 at

changed_within : (change : Value → Value) → KeepsLine change → (k : ℕ) (values : List Value) → AreLineValues values → AreLineValues (with_changed change k values)
changed_within change keeps k values all = by (slice_get values k) refl where
  by : (o : Option Value) → slice_get values k ≡ o → AreLineValues (changed change o k values)
  by None at = all
  by (Some value) at = set_within values k (change value) (keeps value (value_among values k value all at)) all

blockified_within : KeepsLine blockified
blockified_within value h =
    cond_both (is_keyword (codes "inline") value) _ _ IsLineValue (λ _. refl)
    (λ _. cond_both (is_keyword (codes "inline-block") value) _ _ IsLineValue (λ _. refl)
    (λ _. cond_both (is_keyword (codes "inline-flex") value) _ _ IsLineValue (λ _. refl) (λ _. h)))

float_within : (values : List Value) → AreLineValues values → AreLineValues (with_float values)
float_within values all =
    cond_both (is_positioned values) _ _ AreLineValues (λ _. changed_within (λ value. keyword (codes "none")) (λ _ _. refl) float_property values all) (λ _. all)

display_within : (is_root : Bool) (values : List Value) → AreLineValues values → AreLineValues (with_display is_root values)
display_within is_root values all =
    cond_both (is_root || (is_positioned values || floats values)) _ _ AreLineValues (λ _. changed_within blockified blockified_within display_property values all) (λ _. all)

borders_within : (sides : List (ℕ × ℕ)) (values : List Value) → AreLineValues values → AreLineValues (with_borders sides values)
borders_within [] values all = all
borders_within (side ∷ sides) values all =
    borders_within sides (with_border side values)
    (cond_both (passes_at is_no_border side.1 values) _ _ AreLineValues (λ _. changed_within (λ value. pixels (pos 0)) (λ _ _. refl) side.0 values all) (λ _. all))

pub adjusted_within : (is_root : Bool) (values : List Value) → AreLineValues values → AreLineValues (adjusted is_root values)
adjusted_within is_root values all =
    borders_within border_sides (with_display is_root (with_float values))
    (display_within is_root (with_float values) (float_within values all))
