-- The views of compounds and of what combines them, one layer at a time.
use Rattle.std.specs.Prelude.{List, [], ◌∷◌, map, Option, Some, None, Box}
use Rattle.std.specs.declared.alloc.Global.{Global}
use Rattle.selector_model.specs.Selector as model
use Rattle.selector_types.specs.declared.complex.Combinator.{Combinator}
use Rattle.selector_types.specs.declared.complex.Combinator.TheVariants as combinators
use Rattle.selector_types.specs.declared.complex.Test.{Test}
use Rattle.selector_types.specs.declared.complex.Complex.{Complex}
use Rattle.selector_types.specs.declared.complex.Compound.{Compound}
use Rattle.selector_types.specs.declared.complex.Left.{Left}
use Rattle.selector_types.specs.declared.complex.Test.TheOpen as layer
use Rattle.selector_types.specs.declared.complex.Test.TheOpen.{Test-F, Complex-F, Compound-F, Left-F}
use Rattle.selector_types.specs.declared.complex.Test.TheFolds.{fold-Test, fold-Complex, fold-Compound, fold-Left}
use Rattle.selector_types.specs.SimpleView.{simple_of}

abbrev pub combinator_of : Combinator → model.Combinator
combinator_of combinators.Descendant = model.descendant
combinator_of combinators.Child = model.child
combinator_of combinators.NextSibling = model.next_sibling
combinator_of combinators.LaterSibling = model.later_sibling

-- a combinator and the selector on its left
pub record Leftward : Type 0 where
  pub combinator : model.Combinator
  pub rest : model.Selector

abbrev pub listed : List model.Selector → model.Selectors
listed [] = model.no_more
listed (selector ∷ rest) = model.more selector (listed rest)

abbrev pub tested : List model.Test → model.Compound
tested [] = model.any
tested (test ∷ rest) = model.with_test test (tested rest)

abbrev pub joined : model.Compound → Option (Box Leftward Global) → model.Selector
joined subject None = model.subject subject
joined subject (Some left) = model.combined subject left.value.combinator left.value.rest

abbrev pub test_step : Test-F model.Test model.Selector model.Compound Leftward → model.Test
test_step (layer.Simple s) = model.simple (simple_of s)
test_step (layer.Is v) = model.is_some (listed v.items)
test_step (layer.Where v) = model.where_some (listed v.items)
test_step (layer.Not v) = model.not_some (listed v.items)

abbrev pub complex_step : Complex-F model.Test model.Selector model.Compound Leftward → model.Selector
complex_step c = joined c.subject c.left

abbrev pub compound_step : Compound-F model.Test model.Selector model.Compound Leftward → model.Compound
compound_step c = tested c.tests.items

abbrev pub left_step : Left-F model.Test model.Selector model.Compound Leftward → Leftward
left_step l = record { combinator = combinator_of l.combinator; rest = l.rest }

abbrev pub test_of : Test → model.Test
test_of =
    fold-Test model.Test model.Selector model.Compound Leftward test_step complex_step compound_step left_step

abbrev pub complex_of : Complex → model.Selector
complex_of =
    fold-Complex model.Test model.Selector model.Compound Leftward test_step complex_step compound_step left_step

abbrev pub compound_of : Compound → model.Compound
compound_of =
    fold-Compound model.Test model.Selector model.Compound Leftward test_step complex_step compound_step left_step

abbrev pub left_of : Left → Leftward
left_of =
    fold-Left model.Test model.Selector model.Compound Leftward test_step complex_step compound_step left_step

abbrev pub complexes_of : List Complex → model.Selectors
complexes_of selectors = listed (map complex_of selectors)
