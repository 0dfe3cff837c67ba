use Rattle.cascade_core.specs.View.{head_of}
use Rattle.cascade_core.proofs.NameLemmas.{first_of_run}
use Rattle.cascade_core.proofs.names.run_length.Goals as goal

pub loop-place-init : goal.loop-place-init
loop-place-init c = first_of_run head_of c.in-Some.first.now c.args.list.now c.in-Some.ensures.value
