use Rattle.std.proofs.lemmas.List.Elements.{All-nil, All-push, All-same}
use Rattle.element_styler.specs.Cache.{HaveRight, kept_key}
use Rattle.element_styler.proofs.CacheLemmas.{nothing_right}
use Rattle.element_styler.proofs.cache.MatchedRulesCache.start.Goals as goal

pub loop-init : goal.loop-init
loop-init c sources size table =
    All-same (HaveRight sources size table) _ _ c.in_ok-pairs.ensures.items (All-nil (HaveRight sources size table))

pub loop-preserved : goal.loop-preserved
loop-preserved c sources size table =
    let newer = nothing_right sources size table (kept_key c.empty.result) c.empty.result.known c.empty.ensures in
    let older = nothing_right sources size table (kept_key c.empty-in-loop.result) c.empty-in-loop.result.known c.empty-in-loop.ensures in
    All-same (HaveRight sources size table) _ _ c.in_ok-push.ensures.items (All-push (HaveRight sources size table) c.loop.pairs.items _ (c.loop.invariant sources size table) (record { newer = newer; older = older }))

pub returns : goal.returns
returns c sources size table = c.loop.invariant sources size table
