use Rattle.std.proofs.Common.{ℤ, List}
use Rattle.std.specs.List.{All}
use Rattle.value_model.specs.Style.{Style}
use Rattle.sheet_model.specs.Sources.{Sources}
use Rattle.element_styler.specs.Cache.{HaveRight}
use Rattle.element_styler.proofs.cache.MatchedRulesCache.start.Given as goal

abbrev pub invariant-loop : goal.invariant-loop
invariant-loop l = (sources : Sources) (size : ℤ) (table : List Style) → All (HaveRight sources size table) l.pairs.items
