use Rattle.std.proofs.Common.{refl}
use Rattle.dom_tree.proofs.PlaceLemmas.{written_at}
use Rattle.dom_tree.proofs.doc.subtrees.mark.Goals as goal

pub loop-number-preserved : goal.loop-number-preserved
loop-number-preserved c = written_at (λ _. c.args.is) c.args.numbers.now c.loop-number.number-index c.loop-number.invariant c.loop-number-test.true c.requires refl
