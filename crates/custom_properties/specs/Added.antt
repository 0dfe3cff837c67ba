-- The edges that are added for the references of a value.
use Rattle.std.specs.Prelude.{◌≡◌, ℕ, List, [], ◌∷◌, ◌++◌, length, take, Bool, true, false, Option, Some, None}
use Rattle.base_model.specs.Text.{Characters}
use Rattle.custom_model.specs.Value.{CustomValue}
use Rattle.custom_model.specs.Steps.{Step, token, alone, begins, ends, steps_in}
use Rattle.cycle_search.specs.declared.mark.Edge.{Edge}
use Rattle.custom_properties.specs.Entry.{Entry}
use Rattle.custom_properties.specs.Graph.{edges_to}

-- the names that steps refer to
abbrev pub names_in : List Step → List Characters
names_in [] = []
names_in (token said ∷ steps) = names_in steps
names_in (alone name ∷ steps) = name ∷ names_in steps
names_in (begins name ∷ steps) = name ∷ names_in steps
names_in (ends ∷ steps) = names_in steps

-- edges, and behind them those of the steps that are left
abbrev pub with_steps : List Entry → ℕ → List Edge → Option (List Step) → Option (List Edge)
with_steps all from edges None = None
with_steps all from edges (Some steps) = Some (edges ++ edges_to all from (names_in steps))

-- those of all steps are added, or the value is not valid, and the first ones are still there
abbrev pub AreAdded : List Entry → ℕ → CustomValue → Bool → List Edge → List Edge → Type 0
AreAdded all from value true old new = with_steps all from old (steps_in value) ≡ Some new
AreAdded all from value false old new = (steps_in value ≡ None) × (take (length old) new ≡ old)
