use Rattle.std.proofs.Common.{◌≡◌, ◌<◌, get_or, length, ap, ◌∙◌, rules, arith}
use Rattle.element_styler.specs.Cache.{lent_key}
use Rattle.element_styler.proofs.CacheLemmas.{entry_right, pair_at}
use Rattle.element_styler.proofs.cache.MatchedRulesCache.find.Goals as goal

pub returns-then-is_for : goal.returns-then-is_for
returns-then-is_for c sources size table right =
    let pair = c.in-Some.pair.now in
    let pairs = c.args.self.now.pairs.items in
    let at : pair ≡ get_or c.deref.result.now c.slot.result pair = search rules in
    let below : c.slot.result < length c.deref.result.now = search rules in
    let have = pair_at sources size table pairs c.slot.result pair (at ∙ ap (λ l. get_or l c.slot.result pair) c.deref.ensures.value)
    (omega (arith, below, ap length c.deref.ensures.value)) right in
    entry_right sources size table (lent_key c.args.key.now) pair.newer (c.is_for.ensures c.if-is_for.true) have.newer

pub returns-then-is_for-2 : goal.returns-then-is_for-2
returns-then-is_for-2 c sources size table right =
    let pair = c.in-Some.pair.now in
    let pairs = c.args.self.now.pairs.items in
    let at : pair ≡ get_or c.deref.result.now c.slot.result pair = search rules in
    let below : c.slot.result < length c.deref.result.now = search rules in
    let have = pair_at sources size table pairs c.slot.result pair (at ∙ ap (λ l. get_or l c.slot.result pair) c.deref.ensures.value)
    (omega (arith, below, ap length c.deref.ensures.value)) right in
    entry_right sources size table (lent_key c.args.key.now) pair.older (c.is_for-else-is_for.ensures c.if-is_for-2.true) have.older
