-- Small documents and selectors for examples of marks.
use Rattle.std.proofs.Common.{◌≡◌, ℕ, cond, false, List, [], ◌∷◌, Option, Some, None}
use Rattle.std.specs.Prelude.{codes}
use Rattle.std.specs.Cmp.Lexicographic.{slice_cmp, nat_list_cmp_total}
use Rattle.std.specs.FinMap as maps
use Rattle.std.specs.Ordering.{nat_cmp, eq_by_cmp}
use Rattle.base_model.specs.Text.{Characters}
use Rattle.scene_model.specs.Element.{Element, Attributes, States}
use Rattle.scene_model.specs.Nodes.{Node}
use Rattle.selector_model.specs.Selector.{Simple, class_selector, Compound, any, with_test, simple}
use Rattle.selector_model.proofs.AttributeCases.{attributes}

abbrev pub quiet : States
quiet = record { hover = false; active = false; focus = false }

pub get_set : (m : Attributes) (name value asked : Characters) → maps.get (maps.insert m name value) asked ≡ cond (eq_by_cmp (slice_cmp nat_cmp) asked name) (Some value) (maps.get m asked)
get_set m name value asked = maps.get-insert nat_list_cmp_total m name value asked

pub get_unset : (m : Attributes) (name asked : Characters) → maps.get (maps.remove m name) asked ≡ cond (eq_by_cmp (slice_cmp nat_cmp) asked name) None (maps.get m asked)
get_unset m name asked = maps.get-remove nat_list_cmp_total m name asked

abbrev pub node : ℕ → Option ℕ → Characters → List (Characters × Characters) → Element
node number parent tag pairs =
    record { number = number; parent = parent; tag = tag; attrs = attributes pairs; states = quiet }

-- a node of a list
abbrev pub node_of : Option ℕ → Characters → List (Characters × Characters) → Node
node_of parent tag pairs = record { parent = parent; tag = tag; attrs = attributes pairs; states = quiet }

-- one without attributes
abbrev pub bare : Option ℕ → Characters → Node
bare parent tag = record { parent = parent; tag = tag; attrs = maps.empty; states = quiet }

abbrev pub class_of : Characters → List (Characters × Characters)
class_of value = (codes "class", value) ∷ []

abbrev pub one : Simple → Compound
one test = with_test (simple test) any

abbrev pub class_a : Compound
class_a = one (class_selector (codes "a"))
