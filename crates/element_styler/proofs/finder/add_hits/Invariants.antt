use Rattle.std.proofs.Common.{◌≡◌, ◌++◌, drop, flat_map, map}
use Rattle.rule_maps.specs.SlotView.{place_seen}
use Rattle.element_styler.specs.Finding.{hits_by}
use Rattle.element_styler.specs.MatchedRules.{hit_seen}
use Rattle.element_styler.proofs.finder.add_hits.Given as goal

-- what is added so far, and what is found at the places that are left, is the whole
abbrev pub invariant-loop-pair : goal.invariant-loop-pair
invariant-loop-pair l =
    map hit_seen l.hits.items ++ flat_map (hits_by l.finder l.x) (map place_seen (drop l.pair-index l.pairs))
    ≡ map hit_seen l.initial.hits.items ++ flat_map (hits_by l.finder l.x) (map place_seen l.pairs)
