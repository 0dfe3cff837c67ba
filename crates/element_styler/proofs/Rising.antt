-- For matching_rules: what was sorted by rules rises.
use Rattle.std.proofs.Common.{ℕ, suc, ◌<◌, ◌≤◌, List, [], ◌∷◌, length, map, get_or, arith}
use Rattle.std.specs.List.{AllByRecursion}
use Rattle.std.specs.List.Sorted.{IsNonDecreasingBy}
use Rattle.rule_map_model.specs.Hits.{IsRising}
use Rattle.element_styler.specs.MatchedRules.{hit_seen}
use Rattle.element_styler.specs.declared.matched_rules.MatchedRule.{MatchedRule}

abbrev pub rule_in : MatchedRule → ℕ
rule_in found = found.rule

all_after : (n : ℕ) (found : List MatchedRule) → ((k : ℕ) (d : MatchedRule) → k < length found → n ≤ rule_in (get_or found k d))
    → AllByRecursion (λ h. n ≤ h.rule) (map hit_seen found)
all_after n [] after = tt
all_after n (m ∷ found) after = (after 0 m (omega arith), all_after n found (λ k d below. after (suc k) d (omega (arith, below))))

pub rising : (found : List MatchedRule) → IsNonDecreasingBy rule_in found → IsRising (map hit_seen found)
rising [] up = tt
rising (m ∷ found) up = (
  all_after m.rule found (λ k d below. up 0 (suc k) d (omega arith) (omega (arith, below))),
  rising found (λ i j d within below. up (suc i) (suc j) d (omega (arith, within)) (omega (arith, below))),
)
