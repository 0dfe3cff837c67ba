use Rattle.std.proofs.Common.{arith, refl, subst, sym, ◌∙◌}
use Rattle.dom_tree.specs.Labels.{AreCuts}
use Rattle.dom_tree.proofs.CutLemmas.{KeepsLists-push, cut_read, cuts_more, cuts_set, list_pushed}
use Rattle.dom_tree.proofs.labels.list_for.Goals as goal

pub returns-in_err-grow_cuts-clause-cuts : goal.returns-in_err-grow_cuts-clause-cuts
returns-in_err-grow_cuts-clause-cuts c = c.grow_cuts.ensures.cuts c.args.lists.now c.requires.cuts

pub returns-in-Some-clause-list : goal.returns-in-Some-clause-list
returns-in-Some-clause-list c =
    let cuts = c.grow_cuts.ensures.cuts c.args.lists.now c.requires.cuts in
    cut_read cuts c.index.ensures (omega (arith, c.in_ok-grow_cuts.ensures.room, c.requires.within)) c.index-2.ensures c.in-Some.is

pub returns-in-Some-clause-cuts : goal.returns-in-Some-clause-cuts
returns-in-Some-clause-cuts c = c.grow_cuts.ensures.cuts c.args.lists.now c.requires.cuts

pub returns-in_default-try_from-clause-cuts : goal.returns-in_default-try_from-clause-cuts
returns-in_default-try_from-clause-cuts c = c.grow_cuts.ensures.cuts c.args.lists.now c.requires.cuts

pub returns-in_err-push-clause-cuts : goal.returns-in_err-push-clause-cuts
returns-in_err-push-clause-cuts c =
    subst (λ lists. AreCuts c.args.names.now lists c.grow_cuts.new.cuts.items) (sym c.in_err-push.ensures.err) (c.grow_cuts.ensures.cuts c.args.lists.now c.requires.cuts)

pub returns-clause-list : goal.returns-clause-list
returns-clause-list c = list_pushed c.args.names.now _ c.args.value c.text.ensures c.in_ok-push.ensures.ok (c.in-Ok.ensures.1 ∙ c.len.ensures)

pub returns-clause-cuts : goal.returns-clause-cuts
returns-clause-cuts c =
    let cuts = c.grow_cuts.ensures.cuts c.args.lists.now c.requires.cuts in
    let more = cuts_more (λ n l. refl) (KeepsLists-push _ _ _ c.in_ok-push.ensures.ok) cuts in
    cuts_set more c.index-3.ensures _ (list_pushed c.args.names.now _ c.args.value c.text.ensures c.in_ok-push.ensures.ok (c.in-Ok.ensures.1 ∙ c.len.ensures))

pub returns-clause-kept : goal.returns-clause-kept
returns-clause-kept c = KeepsLists-push _ _ _ c.in_ok-push.ensures.ok
