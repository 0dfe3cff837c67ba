-- The views of steps and of dependencies.
use Rattle.std.specs.Prelude.{List, map}
use Rattle.edit_model.specs.Dependencies as model
use Rattle.selector_types.specs.ComplexView.{combinator_of}
use Rattle.selector_types.specs.SimpleView.{simple_of}
use Rattle.dependency_map.specs.declared.dep.PathStep.{PathStep}
use Rattle.dependency_map.specs.declared.dep.PathStep.TheVariants.{Forwards}
use Rattle.dependency_map.specs.declared.dep.Part.{Part}
use Rattle.dependency_map.specs.declared.dep.Part.TheVariants.{Tested, Beside}
use Rattle.dependency_map.specs.declared.dep.Dep.{Dep}

abbrev pub step_of : PathStep → model.Step
step_of (Forwards combinator) = model.forwards (combinator_of combinator)

abbrev pub path_of : List PathStep → List model.Step
path_of path = map step_of path

abbrev pub part_of : Part → model.Part
part_of (Tested test) = model.tested (simple_of test.now)
part_of Beside = model.beside

abbrev pub dep_of : Dep → model.Dependency
dep_of dep = record { part = part_of dep.part; path = path_of dep.path.items }

abbrev pub deps_of : List Dep → List model.Dependency
deps_of deps = map dep_of deps
