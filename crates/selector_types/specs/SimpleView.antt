-- The views of simple tests and of keys.
use Rattle.selector_model.specs.Selector as model
use Rattle.selector_model.specs.Key as keys
use Rattle.stylo_base.specs.StateView.{state_seen}
use Rattle.selector_types.specs.declared.simple.AttributeOperator.{AttributeOperator}
use Rattle.selector_types.specs.declared.simple.AttributeOperator.TheVariants.{Equals, Includes, DashMatch, Prefix, Suffix, Substring}
use Rattle.selector_types.specs.declared.simple.AnB.{AnB}
use Rattle.selector_types.specs.declared.simple.AttributeTest.{AttributeTest}
use Rattle.selector_types.specs.declared.simple.Nth.{Nth}
use Rattle.selector_types.specs.declared.simple.Simple.{Simple}
use Rattle.selector_types.specs.declared.simple.Simple.TheVariants as simples
use Rattle.selector_types.specs.declared.keys.Key.{Key}
use Rattle.selector_types.specs.declared.keys.Key.TheVariants as variants

abbrev pub operator_of : AttributeOperator → model.AttributeOperator
operator_of Equals = model.equals
operator_of Includes = model.includes
operator_of DashMatch = model.dash_match
operator_of Prefix = model.prefix
operator_of Suffix = model.suffix
operator_of Substring = model.substring

abbrev pub formula_of : AnB → model.AnB
formula_of formula = record { a = formula.a; b = formula.b }

abbrev pub nth_of : Nth → model.Nth
nth_of n = record { formula = formula_of n.formula; from_last = n.from_last; of_type = n.of_type }

abbrev pub attribute_test_of : AttributeTest → model.Simple
attribute_test_of test = model.attribute_compares test.name (operator_of test.operator) test.value test.case_counts

abbrev pub simple_of : Simple → model.Simple
simple_of (simples.Type tag) = model.type_selector tag
simple_of (simples.Id name) = model.id_selector name
simple_of (simples.Class class) = model.class_selector class
simple_of (simples.Attribute name) = model.attribute_selector name
simple_of (simples.AttributeCompares test) = attribute_test_of test.value
simple_of simples.Root = model.root
simple_of simples.Empty = model.empty
simple_of (simples.Nth n) = model.nth (nth_of n)
simple_of (simples.Only of_type) = model.only of_type
simple_of (simples.State state) = model.in_state (state_seen state)

abbrev pub key_seen : Key → keys.Key
key_seen (variants.Id name) = keys.id_key name
key_seen (variants.Class class) = keys.class_key class
key_seen (variants.Type tag) = keys.type_key tag
key_seen variants.Any = keys.any_key
