-- What the rules that match an element declare.
use Rattle.std.specs.Prelude.{List, [], ◌++◌, Option, flat_map, slice_get}
use Rattle.std.specs.Option.{option_map_or}
use Rattle.base_model.specs.Text.{Characters}
use Rattle.sheet_model.specs.Declared.{style_declared}
use Rattle.sheet_model.specs.Sources.{Sources}
use Rattle.cascade_model.specs.Key.{Matched}
use Rattle.cascade_model.specs.Matching.{all_attached, all_matched}
use Rattle.rule_map_model.specs.Hits.{Hit, hit}
use Rattle.element_styler.specs.declared.matched_rules.MatchedRule.{MatchedRule}

-- a rule that was found, as a hit
abbrev pub hit_seen : MatchedRule → Hit
hit_seen found = hit found.rule found.specificity

-- the declarations of a rule, which is found by its place
abbrev pub rule_declares : Sources → MatchedRule → List Matched
rule_declares sources found =
    option_map_or (λ rule. all_matched sources.layers rule found.specificity rule.first_index rule.declarations)
    (slice_get sources.rules found.rule) []

-- those of several rules
abbrev pub declarations_of : Sources → List MatchedRule → List Matched
declarations_of sources found = flat_map (rule_declares sources) found

-- those of rules and of a `style` attribute with this text, if there is one
abbrev pub declared_by : Sources → List MatchedRule → Option Characters → List Matched
declared_by sources found text =
    declarations_of sources found ++ option_map_or (λ t. all_attached sources.layers 0 (style_declared t)) text []
