-- The key of a selector, by which rules are found.
use Rattle.std.specs.Prelude.{Option, Some, None, unwrap_or}
use Rattle.std.specs.Option.{option_or}
use Rattle.base_model.specs.Text.{Characters}
use Rattle.selector_model.specs.Selector.{type_selector, id_selector, class_selector}
use Rattle.selector_model.specs.Selector.{Selector, subject, combined, Compound, any, with_test, Test, simple}

-- by which an element can be told to be no candidate for a rule
pub data Key : Type 0 where
  id_key : Characters → Key
  class_key : Characters → Key
  type_key : Characters → Key
  any_key : Key

abbrev pub id_in : Test → Option Key
id_in (simple (id_selector name)) = Some (id_key name)
id_in test = None

abbrev pub class_in : Test → Option Key
class_in (simple (class_selector class)) = Some (class_key class)
class_in test = None

abbrev pub type_in : Test → Option Key
type_in (simple (type_selector tag)) = Some (type_key tag)
type_in test = None

-- the first test of a compound that gives one
abbrev pub first_in : (Test → Option Key) → Compound → Option Key
first_in found any = None
first_in found (with_test test rest) = option_or (found test) (first_in found rest)

-- the first id of the subject, else its first class, else its type, else any
abbrev pub key_of_compound : Compound → Key
key_of_compound compound =
    unwrap_or
    (option_or (first_in id_in compound) (option_or (first_in class_in compound) (first_in type_in compound)))
    any_key

abbrev pub key_of : Selector → Key
key_of (subject compound) = key_of_compound compound
key_of (combined compound combinator rest) = key_of_compound compound
