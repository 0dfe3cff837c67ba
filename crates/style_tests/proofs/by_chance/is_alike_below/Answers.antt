use Rattle.style_tests.proofs.by_chance.is_alike_below.Goals as goal

pub reach-requires-clause-right : goal.reach-requires-clause-right
reach-requires-clause-right c = c.clear.ensures.right c.args.scene.doc.now
