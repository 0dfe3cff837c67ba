-- Which declarations win.
use Rattle.std.specs.Prelude.{◌≡◌, ℕ, ◌<◌, List, length, slice_get}
use Rattle.std.specs.Prelude.{Option, Some, None, option_map, Bool, false, is_some}
use Rattle.std.specs.List.{list_any}
use Rattle.cascade_model.specs.Key as model
use Rattle.cascade_model.specs.Winner.{winner, declares_longhand}
use Rattle.value_model.specs.Table.{table}
use Rattle.property_table.specs.PropertySet.{has_row}
use Rattle.cascade_core.specs.Declarations.{at_place}
use Rattle.cascade_core.specs.Names.{name_of}
use Rattle.cascade_core.specs.View.{entry_of}
use Rattle.cascade_core.specs.declared.matched.LentMatched.{LentMatched}
use Rattle.cascade_core.specs.declared.places.Places.{Places}

-- whether some declaration is of a custom property
abbrev pub have_custom : List model.Matched → Bool
have_custom ds = list_any (λ d. is_some (name_of d)) ds

-- the declaration that wins for a property
abbrev pub won : List model.Matched → ℕ → Option model.Matched
won ds property = winner (declares_longhand property) ds

-- These are the places in the list of the winners among these declarations.
pub record AreWinners (list : List LentMatched) (w : Places) (ds : List model.Matched) : Type 0 where
  -- a place for each property of the table
  pub long : length w.rows ≡ length table
  pub best : (p place : ℕ) → slice_get w.rows p ≡ Some place → won ds p ≡ option_map (entry_of p) (at_place list place)
  -- no other property has a declaration
  pub others : (p : ℕ) → has_row p w.declared ≡ false → p < length table → won ds p ≡ None
  pub have_custom : w.have_custom ≡ have_custom ds
