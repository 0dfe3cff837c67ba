use Rattle.dom_edits.specs.AcceptedView.{accepted_seen}
use Rattle.dom_edits.proofs.ApplyLemmas.{told-edit}
use Rattle.dom_edits.proofs.ShapeLemmas.{is-shaped}
use Rattle.dom_edits.proofs.applying.commit.Goals as goal

pub returns-clause-touched : goal.returns-clause-touched
returns-clause-touched c =
    (told-edit c.args.doc.now c.make.new.doc (accepted_seen c.args.planned.accepted) c.in_ok-touched.touched c.requires.sound (is-shaped (accepted_seen c.args.planned.accepted) c.args.planned.shaped) c.requires.accepted c.in_ok-touched.ensures.ok c.in_ok-touched.ensures.touched).0

pub returns-clause-elements : goal.returns-clause-elements
returns-clause-elements c =
    (told-edit c.args.doc.now c.make.new.doc (accepted_seen c.args.planned.accepted) c.in_ok-touched.touched c.requires.sound (is-shaped (accepted_seen c.args.planned.accepted) c.args.planned.shaped) c.requires.accepted c.in_ok-touched.ensures.ok c.in_ok-touched.ensures.touched).1

pub make-requires-clause-shaped : goal.make-requires-clause-shaped
make-requires-clause-shaped c = is-shaped (accepted_seen c.args.planned.accepted) c.args.planned.shaped
