use Rattle.std.proofs.Common.{◌≡◌, ◌++◌, length, map}
use Rattle.element_styler.specs.Finding.{hits_by_all}
use Rattle.element_styler.specs.MatchedRules.{hit_seen}
use Rattle.element_styler.proofs.finder.find.Given as goal

-- what is found so far, and what is found in the buckets that are left, is all
abbrev pub invariant-loop-pairs : goal.invariant-loop-pairs
invariant-loop-pairs l =
    map hit_seen l.hits.items ++ hits_by_all l.finder l.x l.looked ≡ hits_by_all l.finder l.x l.initial.looked

abbrev pub decreases-loop-pairs : goal.decreases-loop-pairs
decreases-loop-pairs l = length l.looked
