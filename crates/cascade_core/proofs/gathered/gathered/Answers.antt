use Rattle.std.proofs.Common.{[], ◌++◌, filter, take, sym, ap, ◌∙◌}
use Rattle.std.specs.List.{flat_map}
use Rattle.std.proofs.lemmas.List.Elements.{filter-append}
use Rattle.cascade_core.specs.View.{lent_of}
use Rattle.cascade_core.specs.Wanted.{wanted_by}
use Rattle.cascade_core.proofs.WonLemmas.{one_more}
use Rattle.cascade_core.proofs.gathered.gathered.Goals as goal

pub loop-d-preserved : goal.loop-d-preserved
loop-d-preserved c =
    let p = wanted_by c.args.wanted in
    let list = c.args.declarations.matched.now in
    let i = c.loop-d.d-index in
    let d = c.d-item.result in
    c.in_ok-add.ensures
    ∙ (ap (λ l. l ++ filter p (lent_of d)) c.loop-d.invariant
    ∙ (sym (filter-append p (flat_map lent_of (take i list)) (lent_of d))
    ∙ ap (filter p) (one_more lent_of [] list i d c.loop-d-test.true c.d-item.is)))

pub loop-d-2-preserved : goal.loop-d-2-preserved
loop-d-2-preserved c =
    let p = wanted_by c.args.wanted in
    let before = c.args.declarations.matched.now in
    let list = c.args.declarations.attached.now in
    let i = c.loop-d-2.d-index in
    let d = c.d-item-in-loop-d-2.result in
    c.in_ok-add-2.ensures
    ∙ (ap (λ l. l ++ filter p (lent_of d)) c.loop-d-2.invariant
    ∙ (sym (filter-append p (flat_map lent_of (before ++ take i list)) (lent_of d))
    ∙ ap (filter p) (one_more lent_of before list i d c.loop-d-2-test.true c.d-item-in-loop-d-2.is)))
