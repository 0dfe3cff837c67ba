-- The declaration that wins among those that pass, as those of one property (css-cascade-5, section 6).
use Rattle.std.specs.Prelude.{ℕ, List, filter, find, Bool, Option}
use Rattle.std.specs.List.{list_all}
use Rattle.std.specs.Ordering.{is_le}
use Rattle.base_model.specs.Text.{Characters}
use Rattle.sheet_model.specs.Declared.{is_longhand, is_custom}
use Rattle.cascade_model.specs.Key.{Matched, key_cmp}

-- none is greater than it
abbrev pub is_greatest : List Matched → Matched → Bool
is_greatest ds d = list_all (λ other. is_le (key_cmp other d)) ds

abbrev pub greatest_of : List Matched → Option Matched
greatest_of ds = find (is_greatest ds) ds

unfoldable pub winner : (Matched → Bool) → List Matched → Option Matched
winner passes ds = greatest_of (filter passes ds)

-- the declarations of a property
abbrev pub declares_longhand : ℕ → Matched → Bool
declares_longhand property d = is_longhand property d.target

-- the declarations of a custom property
abbrev pub declares_custom : Characters → Matched → Bool
declares_custom name d = is_custom name d.target
