use Rattle.style_tests.proofs.styles.places.Goals as goal

pub match_element-requires-clause-above : goal.match_element-requires-clause-above
match_element-requires-clause-above c = c.saturate.ensures.stands c.args.doc.now _
