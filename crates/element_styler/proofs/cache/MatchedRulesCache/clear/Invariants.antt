use Rattle.element_styler.proofs.CacheLemmas.{AreEmpty}
use Rattle.element_styler.proofs.cache.MatchedRulesCache.clear.Given as goal

abbrev pub invariant-loop-pair : goal.invariant-loop-pair
invariant-loop-pair l = AreEmpty l.pair-index l.pair-items
