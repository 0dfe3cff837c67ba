use Rattle.std.proofs.lemmas.Result.{IfOk-weaker}
use Rattle.dom_edits.proofs.ApplyLemmas.{touched_at}
use Rattle.invalidation_map.proofs.edit_marks.marks.Goals as goal

pub invariant_of-invalidator : goal.invariant_of-invalidator
invariant_of-invalidator c = record { at_elements = touched_at _ _ _ c.requires.touched }

pub marked_by-found-requires : goal.marked_by-found-requires
marked_by-found-requires c = (c.in_ok-last.ensures c.args.after.now c.requires.edit).room

pub returns-clause-marked : goal.returns-clause-marked
returns-clause-marked c =
    let tags = (c.in_ok-last.ensures c.args.after.now c.requires.edit).tags in
    IfOk-weaker c.marked_by-found.result _ _ (λ v list. list.each c.args.before.now.elements _ tags c.requires.touched.exact c.in_ok-map.ensures) c.marked_by-found.ensures

pub returns-clause-once : goal.returns-clause-once
returns-clause-once c = IfOk-weaker c.marked_by-found.result _ _ (λ v list. list.once) c.marked_by-found.ensures
