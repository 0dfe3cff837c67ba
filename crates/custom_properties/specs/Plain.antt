-- Which places of a graph lead to another one, step by step.
use Rattle.std.specs.Prelude.{◌≡◌, ℕ, ◌<◌, ◌==◌, List, [], length, Bool, false, ◌&&◌, ◌||◌, None, slice_index_or}
use Rattle.std.specs.FinMap as finmap
use Rattle.std.specs.List.{list_any}
use Rattle.base_model.specs.Text.{Characters}
use Rattle.custom_model.specs.Cycles.{DeclaredValues}
use Rattle.cycle_search.specs.declared.mark.Edge.{Edge}

-- the declared name at a place
abbrev pub name_in : DeclaredValues → ℕ → Characters
name_in declared place = (slice_index_or (finmap.entries declared) place ([], None)).0

abbrev pub flag_at : List Bool → ℕ → Bool
flag_at flags place = slice_index_or flags place false

-- whether an edge ends at a place, or where a walk to it is known to begin
abbrev pub arrives : ℕ → List Bool → Edge → Bool
arrives to reach edge = edge.to == to || flag_at reach edge.to

-- the same of an edge from a place
abbrev pub leads : ℕ → List Bool → ℕ → Edge → Bool
leads to reach from edge = edge.from == from && arrives to reach edge

-- the places from which a walk of one edge more leads to a place
pub record AreNext (edges : List Edge) (to : ℕ) (reach next : List Bool) : Type 0 where
  pub long : length next ≡ length reach
  pub each : (a : ℕ) → a < length reach → flag_at next a ≡ list_any (leads to reach a) edges
