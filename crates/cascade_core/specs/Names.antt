-- Declarations of custom properties in the order in which they are walked: by their names, and those of one name from
-- the greatest down.
use Rattle.std.specs.Prelude.{◌≡◌, filter, List, [], ◌∷◌, Bool, true, not, ◌&&◌, Option, Some, None, option_map}
use Rattle.std.specs.declared.cmp.Ordering.{Ordering}
use Rattle.std.specs.Cmp.Lexicographic.{slice_cmp}
use Rattle.std.specs.List.{list_all}
use Rattle.std.specs.Option.{option_cmp}
use Rattle.std.specs.Ordering.{is_le, is_eq, ordering_then, nat_cmp}
use Rattle.base_model.specs.Text.{Characters}
use Rattle.custom_model.specs.Value.{CustomValue}
use Rattle.cascade_model.specs.Key.{Matched, key_cmp}
use Rattle.cascade_model.specs.Winner.{declares_custom}
use Rattle.cascade_model.specs.Ending.{custom_meaning}
use Rattle.cascade_model.specs.Custom.{custom_name, declared_value}
use Rattle.cascade_core.specs.Rollback.{Descends, unbounded, walked}

-- the name, where a custom property is declared
abbrev pub name_of : Matched → Option Characters
name_of d = custom_name d.target

abbrev pub compare_names : Matched → Matched → Ordering
compare_names a b = option_cmp (slice_cmp nat_cmp) (name_of a) (name_of b)

abbrev pub have_same_name : Matched → Matched → Bool
have_same_name a b = is_eq (compare_names a b)

-- whether a list begins with a declaration of another name, if with any
abbrev pub begins_apart : Matched → List Matched → Bool
begins_apart first [] = true
begins_apart first (d ∷ ds) = not (have_same_name first d)

-- whether these are of one name, and what is behind them begins with another
abbrev pub is_run : List Matched → List Matched → Bool
is_run [] behind = true
is_run (d ∷ ds) behind = list_all (have_same_name d) (d ∷ ds) && begins_apart d behind

-- by the names, and of one name the greater comes first
abbrev pub by_name : Matched → Matched → Ordering
by_name a b = ordering_then (compare_names a b) (key_cmp b a)

abbrev pub NamesRise : List Matched → Type 0
NamesRise [] = Unit {0}
NamesRise (d ∷ ds) = (list_all (λ e. is_le (compare_names d e)) ds ≡ true) × NamesRise ds

-- a list of declarations in this order
pub record AreByName (ds sorted : List Matched) : Type 0 where
  pub rise : NamesRise sorted
  pub each : (name : Characters) → Descends (filter (declares_custom name) ds) (filter (declares_custom name) sorted)

-- what a custom property is declared to be by declarations in this order
abbrev pub declared_along : List Matched → Option (Option CustomValue)
declared_along run = declared_value (walked custom_meaning unbounded run)

-- and with its name, where the first of them is of one
abbrev pub named_entry : Option Characters → List Matched → Option (Characters × Option CustomValue)
named_entry None run = None
named_entry (Some name) run = option_map (λ declared. (name, declared)) (declared_along run)

abbrev pub run_entry : List Matched → Option (Characters × Option CustomValue)
run_entry [] = None
run_entry (d ∷ ds) = named_entry (name_of d) (d ∷ ds)

-- what is declared of a name by all of them
abbrev pub declared_of : List Matched → Characters → Option (Option CustomValue)
declared_of sorted name = declared_along (filter (declares_custom name) sorted)
