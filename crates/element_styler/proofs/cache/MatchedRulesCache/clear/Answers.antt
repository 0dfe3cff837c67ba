use Rattle.std.proofs.Common.{◌∙◌, ap, length, refl, arith}
use Rattle.element_styler.specs.Cache.{HaveRight}
use Rattle.element_styler.proofs.CacheLemmas.{all_back, all_empty_right, empty_more}
use Rattle.element_styler.proofs.cache.MatchedRulesCache.clear.Goals as goal

pub loop-pair-preserved : goal.loop-pair-preserved
loop-pair-preserved c =
    empty_more c.loop-pair.pair-items c.loop-pair.pair-index _ (record { newer = refl; older = refl }) c.loop-pair.invariant

pub returns : goal.returns
returns c sources size table =
    let right = all_empty_right sources size table c.loop-pair.pair-index c.loop-pair.pair-items (omega (arith, c.loop-pair-test.false, c.loop-pair.auto.pair-items)) c.loop-pair.invariant in
    all_back (HaveRight sources size table) c.args.self.now.pairs.len c.loop-pair.pair-items c.args.self.now.pairs.items (c.loop-pair.auto.pair-items ∙ ap length c.deref_mut-pair-items.ensures.value) right
