use Rattle.std.proofs.Common.{map, ap, ◌∙◌, arith}
use Rattle.std.specs.FinMap as finmap
use Rattle.std.proofs.lemmas.List.{take_all}
use Rattle.syntax_model.specs.Token.{said}
use Rattle.custom_model.specs.Steps.{steps_in}
use Rattle.custom_properties.specs.Added.{with_steps}
use Rattle.custom_model.proofs.Said.{said_unplaced}
use Rattle.custom_properties.proofs.graph.add_steps.Goals as goal

pub loop-reader-init : goal.loop-reader-init
loop-reader-init c = record {
  steps = ap (with_steps (finmap.entries c.args.declared.now) c.args.from c.args.edges.now.items)
      (c.new-reader.ensures.steps ∙ ap steps_in (ap (map said) c.tokens.ensures ∙ said_unplaced c.args.value.now));
  first = take_all _ c.args.edges.now.items (omega arith);
  longer = omega arith;
}
