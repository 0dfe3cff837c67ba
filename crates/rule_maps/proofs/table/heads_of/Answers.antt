use Rattle.std.proofs.Common.{List, sym, subst}
use Rattle.rule_maps.specs.declared.table.Head.{Head}
use Rattle.rule_maps.proofs.RowLemmas.{AreHeadsTo, heads_more}
use Rattle.rule_maps.proofs.table.heads_of.Goals as goal

pub loop-first-preserved : goal.loop-first-preserved
loop-first-preserved c =
    let rows = c.args.rows.now in
    let end = c.run_end-end.result in
    subst (λ (heads : List Head). AreHeadsTo rows end heads) (sym c.in_ok-push.ensures.items)
    (heads_more rows c.requires c.loop-first.first end c.run_end-end.ensures c.loop-first.heads.items c.in_ok-copy.field-0 c.index-rows-first.result
    c.in_ok-copy.ensures c.loop-first.invariant)
