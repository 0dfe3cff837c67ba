-- Rows, and the heads that are made of them.
use Rattle.std.specs.Prelude.{◌≡◌, ℕ, ◌<◌, ◌≤◌, List, filter, length, slice_index_or, true, false}
use Rattle.std.specs.List.{All, AllPairs}
use Rattle.std.specs.List.Sorted.{IsSortedBy}
use Rattle.std.specs.Ordering.{is_lt}
use Rattle.base_model.specs.Text.{Characters, same_text}
use Rattle.rule_maps.specs.NameOrder.{name_cmp}
use Rattle.rule_maps.specs.Heads.{IsBefore, IsPart, part_under}
use Rattle.rule_maps.specs.declared.rows.Row.{Row}
use Rattle.rule_maps.specs.declared.table.Head.{Head}

abbrev pub name_of : Row → Characters
name_of row = row.name.now

-- the rows of a name, in order
abbrev pub named : Characters → List Row → List Row
named name rows = filter (λ row. same_text name (name_of row)) rows

abbrev pub AreSorted : List Row → Type 0
AreSorted rows = IsSortedBy (λ a b. is_lt (name_cmp (name_of a) (name_of b))) rows

-- the rows of each name stay in their order
abbrev pub HaveSameNamed : List Row → List Row → Type 0
HaveSameNamed old new = (name : Characters) → named name new ≡ named name old

-- under each name are its rows
pub record AreHeads (rows : List Row) (heads : List Head) : Type 0 where
  pub rising : AllPairs IsBefore heads
  pub within : All (IsPart (length rows)) heads
  pub under : (name : Characters) → part_under heads rows name ≡ named name rows

-- the rows from first up to end are of one name, and the one at end, if there is one, is not of it
pub record IsRunEnd (rows : List Row) (first end : ℕ) : Type 0 where
  pub after : first < end
  pub within : end ≤ length rows
  pub alike : (k : ℕ) (d : Row) → first ≤ k → k < end
      → same_text (name_of (slice_index_or rows k d)) (name_of (slice_index_or rows first d)) ≡ true
  pub ends : (d : Row) → end < length rows
      → same_text (name_of (slice_index_or rows end d)) (name_of (slice_index_or rows first d)) ≡ false
