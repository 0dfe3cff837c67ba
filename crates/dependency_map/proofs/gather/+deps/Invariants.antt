use Rattle.std.proofs.Common.{◌≡◌, ◌++◌, map, drop}
use Rattle.edit_model.specs.Dependencies.{of_compound, of_selectors}
use Rattle.selector_types.specs.ComplexView.{complexes_of, compound_of, test_of, tested}
use Rattle.dependency_map.specs.DepView.{deps_of, path_of}
use Rattle.dependency_map.proofs.gather.+deps.Given as goal

-- those so far and those of what is left are all
abbrev pub invariant-of_compound-loop-test : goal.invariant-of_compound-loop-test
invariant-of_compound-loop-test l =
    deps_of l.deps.items ++ of_compound (tested (map test_of (drop l.test-index l.test-items))) (path_of l.path) ≡ deps_of l.initial.deps.items ++ of_compound (compound_of l.compound) (path_of l.path)

abbrev pub invariant-of_list-loop-complex : goal.invariant-of_list-loop-complex
invariant-of_list-loop-complex l =
    deps_of l.deps.items ++ of_selectors (complexes_of (drop l.complex-index l.list)) (path_of l.path) ≡ deps_of l.initial.deps.items ++ of_selectors (complexes_of l.list) (path_of l.path)
