-- The adjustments, one by one.
use Rattle.std.proofs.Common.{◌≡◌, ℕ, zero, suc, List, [], ◌∷◌, true, false, if◌then◌else◌, Option, Some, None, pos, set, slice_get, refl, sym, ap, ◌∙◌, codes}
use Rattle.std.specs.Option.{option_map_or}
use Rattle.std.proofs.lemmas.Option.{none-some}
use Rattle.value_model.specs.Value.{Value, keyword, pixels}
use Rattle.value_model.specs.Table.{float_property}
use Rattle.value_model.specs.Style.{changed, is_no_border, is_positioned, passes_at, with_border, with_changed, with_float}

set_none : (values : List Value) (property : ℕ) (v : Value) → slice_get values property ≡ None → set values property v ≡ values
set_none [] property v h = refl
set_none (first ∷ rest) zero v h = absurd (none-some first (sym h))
set_none (first ∷ rest) (suc property) v h = ap (λ l. first ∷ l) (set_none rest property v h)

changed_found : (values : List Value) (property : ℕ) (v : Value) (found : Option Value) → slice_get values property ≡ found → changed (λ _. v) found property values ≡ set values property v
changed_found values property v None h = sym (set_none values property v h)
changed_found values property v (Some old) h = refl

-- whatever the value is, it becomes this one
changed_to : (values : List Value) (property : ℕ) (v : Value) → with_changed (λ _. v) property values ≡ set values property v
changed_to values property v = changed_found values property v (slice_get values property) refl

-- an absolutely positioned box does not float
pub float_changed : (values new : List Value) → is_positioned values ≡ true → new ≡ set values float_property (keyword (codes "none")) → new ≡ with_float values
float_changed values new positioned is =
    is
    ∙ (sym (changed_to values float_property (keyword (codes "none")))
    ∙ ap (λ b. if b then with_changed (λ _. keyword (codes "none")) float_property values else values) (sym positioned))

-- there is no border of this style
pub border_changed : (values new : List Value) (width style : ℕ) (value zero_width : Value) → slice_get values style ≡ Some value → is_no_border value ≡ true → zero_width ≡ pixels (pos 0) → new ≡ set values width zero_width → new ≡ with_border (width, style) values
border_changed values new width style value zero_width at none zero_is is =
    let passes : passes_at is_no_border style values ≡ true = ap (λ found. option_map_or is_no_border found false) at ∙ none in
    is
    ∙ (ap (set values width) zero_is
    ∙ (sym (changed_to values width (pixels (pos 0)))
    ∙ ap (λ b. if b then with_changed (λ _. pixels (pos 0)) width values else values) (sym passes)))
