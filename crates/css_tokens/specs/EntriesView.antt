-- What the entries that are kept of custom properties stand for.
use Rattle.std.specs.Prelude.{◌≡◌, List, [], map, IsTrue, Option, Some, None, false}
use Rattle.base_model.specs.Lists.{is_nil}
use Rattle.std.specs.Arc.{arc_value}
use Rattle.std.specs.declared.sync.Arc.{Arc}
use Rattle.std.specs.Cmp.Lexicographic.{slice_cmp}
use Rattle.std.specs.FinMap as finmap
use Rattle.std.specs.Ordering.{nat_cmp}
use Rattle.base_model.specs.Text.{Characters}
use Rattle.custom_model.specs.Value.{CustomValue, CustomValues}
use Rattle.css_tokens.specs.CustomView.{entry_of}
use Rattle.css_tokens.specs.declared.custom.map.Entries.{Entries}

abbrev pub list_of : {A : Type 0} → Option (Arc Entries A) → List (Characters × CustomValue)
list_of None = []
list_of (Some entries) = map entry_of (arc_value entries).list.items

-- the map of the entries
abbrev pub values_of : {A : Type 0} → Option (Arc Entries A) → CustomValues
values_of entries = finmap.from_sorted (list_of entries)

-- their names rise, and an empty map keeps nothing
abbrev pub AreSorted : {A : Type 0} → Option (Arc Entries A) → Type 0
AreSorted None = Unit {0}
AreSorted (Some entries) =
    IsTrue (finmap.is_sorted (slice_cmp nat_cmp) (map entry_of (arc_value entries).list.items))
    × (is_nil (arc_value entries).list.items ≡ false)
