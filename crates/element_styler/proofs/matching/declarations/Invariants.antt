use Rattle.std.proofs.Common.{◌≡◌, ◌++◌, drop}
use Rattle.std.specs.List.{flat_map}
use Rattle.cascade_core.specs.View.{lent_of}
use Rattle.sheet_set.specs.View.{sources_seen}
use Rattle.element_styler.specs.MatchedRules.{declarations_of}
use Rattle.element_styler.proofs.matching.declarations.Given as goal

-- what is listed so far, and what the rules that are left declare, is the whole
abbrev pub invariant-loop-one : goal.invariant-loop-one
invariant-loop-one l =
    flat_map lent_of l.list.items ++ declarations_of (sources_seen l.sheets) (drop l.one-index l.found) ≡ declarations_of (sources_seen l.sheets) l.found
