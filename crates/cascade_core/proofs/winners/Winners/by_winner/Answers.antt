use Rattle.std.proofs.Common.{ap, ◌∙◌}
use Rattle.std.specs.FinMap as finmap
use Rattle.property_table.specs.View.{value_seen}
use Rattle.cascade_model.specs.Ending.{ending, meaning_of}
use Rattle.cascade_core.specs.View.{entry_of}
use Rattle.cascade_core.proofs.BestLemmas.{settled_at, unset_at}
use Rattle.cascade_core.proofs.SeenLemmas.{settled_seen, settled_is}
use Rattle.cascade_core.proofs.winners.Winners.by_winner.Goals as goal

pub returns-in_default-clause-value : goal.returns-in_default-clause-value
returns-in_default-clause-value c =
    let p = c.args.longhands.now.property in
    let values = finmap.get c.args.longhands.now.custom in
    let best = c.self.invariant.best p _ (rw c.id.ensures at c.place-place.ensures) in
    unset_at (meaning_of values p) _ p (rw (← c.at_place.ensures, c.in_default.is) at best) ∙ ap (ending values p) c.self.view_is

pub returns-clause-value : goal.returns-clause-value
returns-clause-value c =
    let p = c.args.longhands.now.property in
    let values = finmap.get c.args.longhands.now.custom in
    let best = c.self.invariant.best p _ (rw c.id.ensures at c.place-place.ensures) in
    let won = rw (← c.at_place.ensures, c.in-Some.is) at best in
    let settles = settled_seen value_seen c.in_ok-substituted.substituted c.settled.result c.settled.ensures in
    settled_is value_seen (ending values p c.args.self.now) c.settled.result (λ e is.
    settled_at (meaning_of values p) _ p (entry_of p c.in-Some.d.now) e won (rw (settles, c.in_ok-substituted.ensures.value) at is)
    ∙ ap (ending values p) c.self.view_is)
