-- Functional pseudo-classes as those of the definitions, and An+B by what it begins with.
use Rattle.std.specs.Prelude.{Option, Some}
use Rattle.base_model.specs.Options.{◌>>=◌}
use Rattle.selector_model.specs.Selector.{AnB}
use Rattle.sheet_model.specs.AnPlusB.{Head, b_in, formula}
use Rattle.sheet_model.specs.SelectorsIn as model
use Rattle.selector_parser.specs.declared.function.Function.{Function}
use Rattle.selector_parser.specs.declared.function.Function.TheVariants.{Index, Is, Where, Not}

abbrev pub function_of : Function → model.Function
function_of (Index from_last of_type) = model.index from_last of_type
function_of Is = model.is_list
function_of Where = model.where_list
function_of Not = model.not_list

-- A and B, by what An+B begins with
abbrev pub formula_from : Head → Option AnB
formula_from head = do
  b ← b_in head.word head.rest
  Some (formula head.a b)
