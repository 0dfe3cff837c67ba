use Rattle.std.proofs.Common.{◌≡◌, ◌++◌, drop, map}
use Rattle.rule_map_model.specs.Hits.{folded, folded_after}
use Rattle.element_styler.specs.MatchedRules.{hit_seen}
use Rattle.element_styler.proofs.matched_rules.fold.Given as goal

-- what is folded so far, and what the last and those that are left come to, is the whole
abbrev pub invariant-loop-hit : goal.invariant-loop-hit
invariant-loop-hit l =
    map hit_seen l.found.items ++ folded_after (hit_seen l.last) (map hit_seen (drop l.hit-index l.rest)) ≡ folded (map hit_seen l.hits)
