use Rattle.std.proofs.Common.{map, ap, ◌∙◌, rules}
use Rattle.std.proofs.lemmas.List.Sorted.{IsNonDecreasingBy-from_sort_by_key}
use Rattle.std.proofs.lemmas.Result.{on_ok_weaker}
use Rattle.rule_map_model.specs.Hits.{folded}
use Rattle.element_styler.specs.MatchedRules.{hit_seen}
use Rattle.element_styler.proofs.FindLemmas.{folded_matching}
use Rattle.element_styler.proofs.Rising.{rule_in}
use Rattle.element_styler.proofs.matched_rules.matching_rules.Goals as goal

pub returns : goal.returns
returns c =
    let hits = c.find.new.hits.items in
    let sorted = c.sort_unstable_by_key.new.self.items in
    let up = IsNonDecreasingBy-from_sort_by_key rule_in sorted c.sort_unstable_by_key.ensures.sorted (λ a r q k. search rules) in
    on_ok_weaker c.fold.result (λ is. folded_matching c.args.finder.now c.args.x hits sorted c.fold.new.found.items c.requires c.in_ok-find.ensures c.sort_unstable_by_key.ensures.permutation up
    (is ∙ ap (λ l. folded (map hit_seen l)) c.deref.ensures.value)) c.fold.ensures
