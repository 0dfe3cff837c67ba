use Rattle.std.proofs.Common.{◌≡◌, map}
use Rattle.selector_types.specs.ComplexView.{complex_of}
use Rattle.selector_types.specs.View.{selector_of}
use Rattle.selector_parser.proofs.list.selectors.Given as goal

abbrev pub invariant-loop-member : goal.invariant-loop-member
invariant-loop-member l = map selector_of l.list.items ≡ map complex_of l.yielded
