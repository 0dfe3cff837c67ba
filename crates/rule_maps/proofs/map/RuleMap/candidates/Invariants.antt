use Rattle.std.proofs.Common.{◌≡◌, ◌++◌, length}
use Rattle.rule_maps.proofs.CandidateLemmas.{rules_in, rules_to}
use Rattle.rule_maps.proofs.map.RuleMap.candidates.Given as goal

-- what was found and the rules of the places that are left
abbrev pub invariant-loop-pairs : goal.invariant-loop-pairs
invariant-loop-pairs l = l.found.items ++ rules_in l.buckets ≡ rules_in l.initial.buckets

abbrev pub decreases-loop-pairs : goal.decreases-loop-pairs
decreases-loop-pairs l = length l.buckets

-- and then those by attributes
abbrev pub invariant-loop-index : goal.invariant-loop-index
invariant-loop-index l = l.found.items ≡ l.initial.found.items ++ rules_to l.self.attributes l.index
