-- What is checked of the marks of a graph.
use Rattle.std.specs.Prelude.{◌≡◌, ℕ, ◌<◌, ◌==◌, nat_lt, List, length, Bool, true, false, not, ◌&&◌, ◌||◌, if◌then◌else◌}
use Rattle.std.specs.Prelude.{Option, Some, None, slice_get, slice_index_or}
use Rattle.std.specs.List.{list_all}
use Rattle.cycle_search.specs.declared.mark.Edge.{Edge}
use Rattle.cycle_search.specs.declared.mark.Mark.{Mark}

-- an edge that leads to a lower group, or stays in one of cyclic names
abbrev pub falls_from : Option Mark → Option Mark → Bool
falls_from None to = false
falls_from (Some from) None = false
falls_from (Some from) (Some to) = nat_lt to.group from.group || (from.is_cyclic && to.group == from.group)

abbrev pub falls : List Mark → Edge → Bool
falls marks edge = falls_from (slice_get marks edge.from) (slice_get marks edge.to)

-- whether a walk to the head goes on at a name
abbrev pub nears : Mark → ℕ → Option Mark → Bool
nears mark place None = false
nears mark place (Some next) =
    next.is_cyclic && (next.head == mark.head && (place == mark.head || nat_lt next.onward_rank mark.onward_rank))

abbrev pub goes_on : List Mark → ℕ → Mark → Option Edge → Bool
goes_on marks place mark None = false
goes_on marks place mark (Some edge) = edge.from == place && nears mark edge.to (slice_get marks edge.to)

-- whether a walk from the head comes by a name
abbrev pub comes_by : Mark → ℕ → Option Mark → Bool
comes_by mark place None = false
comes_by mark place (Some last) =
    last.is_cyclic && (last.head == mark.head && (place == mark.head || nat_lt last.arrival_rank mark.arrival_rank))

abbrev pub arrives : List Mark → ℕ → Mark → Option Edge → Bool
arrives marks place mark None = false
arrives marks place mark (Some edge) = edge.to == place && comes_by mark edge.from (slice_get marks edge.from)

-- whether a place stands alone in a group
abbrev pub stands : ℕ → Option ℕ → Bool
stands place None = false
stands place (Some other) = other == place

abbrev pub holds : List Edge → List Mark → List ℕ → ℕ → Mark → Bool
holds edges marks order place mark =
    if mark.is_cyclic then
    goes_on marks place mark (slice_get edges mark.onward) && arrives marks place mark (slice_get edges mark.arrival)
    else stands place (slice_get order mark.group)

-- the marks fit the edges
pub record AreConfirmed (edges : List Edge) (marks : List Mark) (order : List ℕ) : Type 0 where
  pub fall : list_all (falls marks) edges ≡ true
  pub each : (k : ℕ) (d : Mark) → k < length marks → holds edges marks order k (slice_index_or marks k d) ≡ true

-- whether a name is on no cycle, and of this group
abbrev pub is_in_group : ℕ → Option Mark → Bool
is_in_group group None = false
is_in_group group (Some mark) = not mark.is_cyclic && mark.group == group
