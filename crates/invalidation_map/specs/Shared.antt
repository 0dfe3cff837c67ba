-- The paths and keys that rows share.
use Rattle.std.specs.Prelude.{◌≡◌, ℕ, ◌-◌, List, Some, Vec, length, map, take}
use Rattle.std.specs.List.{slice_get}
use Rattle.std.specs.declared.alloc.Global.{Global}
use Rattle.selector_model.specs.Key.{Key}
use Rattle.selector_types.specs.SimpleView.{key_seen}
use Rattle.edit_model.specs.Dependencies.{Step}
use Rattle.dependency_map.specs.declared.dep.PathStep.{PathStep}
use Rattle.dependency_map.specs.DepView.{path_of}
use Rattle.invalidation_map.specs.declared.selector_key.SelectorKey.{SelectorKey}
use Rattle.invalidation_map.specs.declared.shared.Shared.{Shared}

abbrev pub paths_seen : List (Vec PathStep Global) → List (List Step)
paths_seen paths = map (λ path. path_of path.items) paths

abbrev pub keys_seen : List SelectorKey → List Key
keys_seen keys = map (λ key. key_seen key.key) keys

abbrev pub paths_in : Shared → List (List Step)
paths_in shared = paths_seen shared.paths.items

abbrev pub keys_in : Shared → List Key
keys_in shared = keys_seen shared.keys.items

-- a list begins with another
abbrev pub IsFront : {X : Type 0} → List X → List X → Type 0
IsFront front whole = take (length front) whole ≡ front

-- that element stands at that place
abbrev pub StandsAt : {X : Type 0} → List X → ℕ → X → Type 0
StandsAt list place x = slice_get list place ≡ Some x

-- with more paths and keys behind those that were there
pub record KeepsShared (old new : Shared) : Type 0 where
  pub paths : IsFront (paths_in old) (paths_in new)
  pub keys : IsFront (keys_in old) (keys_in new)

-- a path and a key stand at these places
pub record ArePlaced (shared : Shared) (path : List Step) (key : Key) (places : ℕ × ℕ) : Type 0 where
  pub of_path : StandsAt (paths_in shared) places.0 path
  pub of_key : StandsAt (keys_in shared) places.1 key

-- that element is the last
abbrev pub EndsWith : {X : Type 0} → List X → X → Type 0
EndsWith list x = StandsAt list (length list - 1) x
