use Rattle.filter_tests.proofs.counters.after_saturating.Goals as goal

pub reach-requires-clause-right : goal.reach-requires-clause-right
reach-requires-clause-right c = c.saturate.ensures.right c.deref-then-contains.result.now
