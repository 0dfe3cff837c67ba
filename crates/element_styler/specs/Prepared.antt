-- What is made ready of style sheets.
use Rattle.std.specs.Prelude.{◌≡◌, List, map, Bool, codes}
use Rattle.std.specs.List.{list_any}
use Rattle.selector_model.specs.Selector.{Selector}
use Rattle.sheet_model.specs.Sources.{Sources}
use Rattle.ancestor_model.specs.Above.{ancestor_names}
use Rattle.ancestor_filter.specs.Names.{slot}
use Rattle.rule_map_model.specs.Places as places
use Rattle.rule_maps.specs.Asking.{has_some}
use Rattle.rule_maps.specs.View.{in_bucket}
use Rattle.rule_maps.specs.declared.map.RuleMap.{RuleMap}
use Rattle.element_styler.specs.declared.prepared.Prepared.{Prepared}

-- the selectors of each rule
abbrev pub lists_of : Sources → List (List Selector)
lists_of sources = map (λ rule. rule.selectors) sources.rules

-- this is the map of rules with these selectors
abbrev pub IsMapOf : List (List Selector) → RuleMap → Type 0
IsMapOf rules rule_map = places.IsMapOf slot rules (in_bucket rule_map)

-- it asks for names of ancestors
abbrev pub asks : Selector → Bool
asks selector = has_some (ancestor_names selector)

-- some selector of these rules does
abbrev pub some_asks : List (List Selector) → Bool
some_asks rules = list_any (list_any asks) rules

-- this is made ready of these sheets
pub record IsPrepared (sources : Sources) (prepared : Prepared) : Type 0 where
  pub map : IsMapOf (lists_of sources) prepared.map
  pub name : prepared.style_name ≡ codes "style"
  pub asks : prepared.asks_ancestors ≡ some_asks (lists_of sources)
