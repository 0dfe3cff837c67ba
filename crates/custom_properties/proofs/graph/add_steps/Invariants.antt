use Rattle.std.proofs.Common.{◌≡◌, ◌≤◌, length, take}
use Rattle.std.specs.FinMap as finmap
use Rattle.custom_model.specs.Steps.{steps_in}
use Rattle.custom_properties.specs.Added.{with_steps}
use Rattle.custom_properties.proofs.graph.add_steps.Given as goal

abbrev pub invariant-loop-reader : goal.invariant-loop-reader
invariant-loop-reader l = record {
  steps : with_steps (finmap.entries l.declared) l.from l.edges.items l.reader.steps ≡ with_steps (finmap.entries l.declared) l.from l.fn.edges.items (steps_in l.value);
  first : take (length l.fn.edges.items) l.edges.items ≡ l.fn.edges.items;
  longer : length l.fn.edges.items ≤ length l.edges.items;
}

abbrev pub decreases-loop-reader : goal.decreases-loop-reader
decreases-loop-reader l = l.reader.tokens
