-- How the cascade is taken back along declarations of one property, from the greatest down.
use Rattle.std.specs.Prelude.{◌≡◌, ℕ, nat_lt, find, filter, List, [], ◌∷◌, Bool, true, if◌then◌else◌}
use Rattle.std.specs.Prelude.{Option, Some, None}
use Rattle.std.specs.declared.cmp.Ordering.{Ordering}
use Rattle.std.specs.Ordering.{is_lt, ordering_then, nat_cmp, bool_cmp}
use Rattle.base_model.specs.Origin.{origin_rank}
use Rattle.syntax_model.specs.Wide.{inherit, initial, unset, revert, revert_layer}
use Rattle.sheet_model.specs.Declared.{Given}
use Rattle.cascade_model.specs.Key.{Matched}
use Rattle.cascade_model.specs.Winner.{greatest_of}
use Rattle.cascade_model.specs.Ending.{Ending, inherits, initially, unsets, ends_at, Meaning, keyword, value}

-- a list of declarations from the greatest down: the first that passes is the greatest of those that do
abbrev pub Descends : List Matched → List Matched → Type 0
Descends ds sorted = (passes : Matched → Bool) → find passes sorted ≡ greatest_of (filter passes ds)

-- the level of a declaration
pub record Level : Type 0 where
  pub rank : ℕ
  pub attached : Bool
  pub layer : ℕ

abbrev pub level_of : Matched → Level
level_of d = record { rank = origin_rank d.origin; attached = d.attached; layer = d.layer }

-- as declarations are compared by level
abbrev pub compare_level : Level → Level → Ordering
compare_level a b =
    ordering_then (nat_cmp a.rank b.rank) (ordering_then (bool_cmp a.attached b.attached) (nat_cmp a.layer b.layer))

-- how far the cascade was taken back
pub data Bound : Type 0 where
  unbounded : Bound
  below_origin : ℕ → Bound
  below_level : Level → Bound

-- whether a declaration is left
abbrev pub keeps : Bound → Matched → Bool
keeps unbounded d = true
keeps (below_origin rank) d = nat_lt (origin_rank d.origin) rank
keeps (below_level level) d = is_lt (compare_level (level_of d) level)

-- the cascaded value, where this is the winner's substituted value, unless it takes the cascade back
abbrev pub settled : {A : Type 0} → Meaning A → Option (Ending A)
settled (keyword inherit) = Some inherits
settled (keyword initial) = Some initially
settled (keyword unset) = Some unsets
settled (keyword revert) = None
settled (keyword revert_layer) = None
settled (value given) = Some (ends_at given)

-- and how far it takes it then
abbrev pub bound_by : {A : Type 0} → Matched → Meaning A → Bound
bound_by winning (keyword revert_layer) = below_level (level_of winning)
bound_by winning meaning = below_origin (origin_rank winning.origin)

abbrev pub walked : {A : Type 0} → (Given → Meaning A) → Bound → List Matched → Ending A
walked means bound [] = unsets
walked means bound (d ∷ ds) =
    if keeps bound d then elim (settled (means d.given)) [
      | Some end ↦ end
      | None ↦ walked means (bound_by d (means d.given)) ds
    ]
    else walked means bound ds
