use Rattle.map_tests.proofs.by_chance.are_found.Goals as goal

pub reach-requires-clause-right : goal.reach-requires-clause-right
reach-requires-clause-right c = c.clear.ensures.right c.args.scene.doc.now
