-- What a chain of the code stands for.
use Rattle.std.specs.Prelude.{◌≡◌, ◌≤◌, ◌+◌, List, [], ◌∷◌, ◌++◌, Option, None, Some, length}
use Rattle.std.specs.Arc.{arc_value}
use Rattle.std.specs.declared.sync.Arc.{Arc}
use Rattle.layer_model.specs.Name.{Part, part_limit}
use Rattle.layer_order.specs.Chain.{part_of}
use Rattle.layer_order.specs.Key.{key_of}
use Rattle.layer_order.specs.declared.name.NameLink.{NameLink}

-- the name that a link ends: the steps from the outermost layer inwards
abbrev pub named_by : NameLink → List Part
named_by link = link.outer ++ part_of link.part ∷ []

abbrev pub parts : {A : Type 0} → Option (Arc NameLink A) → List Part
parts None = []
parts (Some link) = named_by (arc_value link)

-- what a link keeps of the name that it ends
pub record Keeps (link : NameLink) : Type 0 where
  pub depth : link.depth ≡ length link.outer + 1
  pub few : link.depth ≤ part_limit
  pub key : link.key ≡ key_of (named_by link)

-- and a chain, of its own
abbrev pub IsKept : {A : Type 0} → Option (Arc NameLink A) → Type 0
IsKept None = Unit {0}
IsKept (Some link) = Keeps (arc_value link)
