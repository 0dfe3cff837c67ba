-- Which custom properties refer to themselves (css-variables-1, section 3.1).
use Rattle.std.specs.Prelude.{ℕ, zero, suc, List, [], Bool, false, ◌||◌, Option, Some}
use Rattle.std.specs.List.{list_any}
use Rattle.std.specs.Ordering.{nat_cmp}
use Rattle.std.specs.Cmp.Lexicographic.{slice_cmp}
use Rattle.std.specs.FinMap as map
use Rattle.base_model.specs.Text.{Characters, same_text}
use Rattle.custom_model.specs.Value.{CustomValue}
use Rattle.custom_model.specs.Parts.{references_in}

-- what custom properties are declared to be, by their names; nothing stands for the guaranteed-invalid value
abbrev pub DeclaredValues : Type 0
DeclaredValues = map.FinMap (slice_cmp nat_cmp) (Option CustomValue)

abbrev pub references_of : Option (Option CustomValue) → List Characters
references_of (Some (Some tokens)) = references_in tokens
references_of declared = []

-- the edges from a name: to all names that what it is declared to be refers to
abbrev pub edges : DeclaredValues → Characters → List Characters
edges declared name = references_of (map.get declared name)

-- whether a walk of one to so many edges leads from one name to another
abbrev pub walks : ℕ → (Characters → List Characters) → Characters → Characters → Bool
walks zero leads from to = false
walks (suc most) leads from to = list_any (λ next. same_text next to || walks most leads next to) (leads from)

-- whether a name is on a cycle: a walk of no more edges than there are names leads back to it
unfoldable pub is_cyclic : DeclaredValues → Characters → Bool
is_cyclic declared name = walks (map.len declared) (edges declared) name name
