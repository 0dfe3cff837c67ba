use Rattle.style_tests.proofs.by_chance.is_alike_anywhere.Goals as goal

pub is_alike_by-requires-clause-above : goal.is_alike_by-requires-clause-above
is_alike_by-requires-clause-above c = c.saturate.ensures.stands c.args.scene.doc.now _
