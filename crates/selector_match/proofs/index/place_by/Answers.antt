use Rattle.std.proofs.Common.{true, false}
use Rattle.selector_match.proofs.SiblingLemmas.{place_by_all}
use Rattle.selector_match.proofs.index.place_by.Goals as goal

pub returns-in-false-false-clause-place : goal.returns-in-false-false-clause-place
returns-in-false-false-clause-place c =
    rw (c.in-false-false.is-0, c.in-false-false.is-1) (place_by_all c.args.doc.now.elements false c.args.x _ c.left_siblings.ensures.siblings)

pub returns-in-true-false-clause-place : goal.returns-in-true-false-clause-place
returns-in-true-false-clause-place c =
    rw (c.in-true-false.is-0, c.in-true-false.is-1) (place_by_all c.args.doc.now.elements true c.args.x _ c.right_siblings.ensures.siblings)
