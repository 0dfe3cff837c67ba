-- Two sorted lists of entries as one: what is inherited, and in the place of it what is declared.
use Rattle.std.specs.Prelude.{◌≡◌, List, [], ◌∷◌, ◌++◌, map, Option, Some, None}
use Rattle.std.specs.Cmp.Lexicographic.{slice_cmp}
use Rattle.std.specs.FinMap.Entries.{by_order}
use Rattle.std.specs.Ordering.{nat_cmp}
use Rattle.base_model.specs.Text.{Characters}
use Rattle.custom_model.specs.Value.{CustomValue}
use Rattle.custom_properties.specs.Entry.{Entry}
use Rattle.css_tokens.specs.CustomView.{entry_of}
use Rattle.css_tokens.specs.declared.custom.map.CustomEntry.{CustomEntry}

abbrev pub Pair : Type 0
Pair = Characters × CustomValue

-- those before a name
abbrev pub lesser : Characters → List Pair → List Pair
lesser name [] = []
lesser name (pair ∷ pairs) = by_order (slice_cmp nat_cmp pair.0 name) (pair ∷ lesser name pairs) [] []

-- those behind it
abbrev pub beyond : Characters → List Pair → List Pair
beyond name [] = []
beyond name (pair ∷ pairs) = by_order (slice_cmp nat_cmp pair.0 name) (beyond name pairs) pairs (pair ∷ pairs)

abbrev pub put : Characters → Option CustomValue → List Pair
put name None = []
put name (Some value) = (name, value) ∷ []

abbrev pub merged : List Entry → List Pair → List Pair
merged [] pairs = pairs
merged (entry ∷ entries) pairs =
    lesser entry.0 pairs ++ (put entry.0 entry.1 ++ merged entries (beyond entry.0 pairs))

-- the names of entries with these values
abbrev pub with_values : List Entry → List (Option CustomValue) → List Entry
with_values [] values = []
with_values (entry ∷ entries) [] = []
with_values (entry ∷ entries) (value ∷ values) = (entry.0, value) ∷ with_values entries values

-- the entries before a name are pushed, and those behind it are left
pub record ArePushed (name : Characters) (kept : List CustomEntry) (old new left : List CustomEntry) : Type 0 where
  pub pushed : map entry_of new ≡ map entry_of old ++ lesser name (map entry_of kept)
  pub behind : map entry_of left ≡ beyond name (map entry_of kept)
