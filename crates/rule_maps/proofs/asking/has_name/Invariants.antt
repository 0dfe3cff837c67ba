use Rattle.std.proofs.Common.{◌≡◌}
use Rattle.ancestor_model.specs.Above.{names_in}
use Rattle.selector_types.specs.ComplexView.{compound_of}
use Rattle.rule_maps.specs.Asking.{has_some}
use Rattle.rule_maps.proofs.NameLemmas.{names_from}
use Rattle.rule_maps.proofs.asking.has_name.Given as goal

-- the tests that are left decide
abbrev pub invariant-loop-test : goal.invariant-loop-test
invariant-loop-test l = has_some (names_from l.test-items l.test-index) ≡ has_some (names_in (compound_of l.compound))
