-- What the rules that match an element are found by.
use Rattle.std.specs.Prelude.{◌≡◌, ℕ, List, map}
use Rattle.scene_model.specs.Lookups.{IsElement}
use Rattle.scene_model.specs.Ancestors.{ancestors}
use Rattle.scene_model.specs.Valid.{IsValid}
use Rattle.ancestor_filter.specs.Names.{StandsFor}
use Rattle.rule_map_model.specs.Hits.{Hit}
use Rattle.rule_map_model.specs.Places.{AreLookedAt, Place, hits_at, hits_in}
use Rattle.rule_maps.specs.RulesView.{rules_seen}
use Rattle.rule_maps.specs.View.{in_bucket}
use Rattle.element_styler.specs.MatchedRules.{hit_seen}
use Rattle.element_styler.specs.Prepared.{IsMapOf}
use Rattle.element_styler.specs.declared.finder.Finder.{Finder}
use Rattle.element_styler.specs.declared.matched_rules.MatchedRule.{MatchedRule}

-- x is an element, the map is that of the rules, and the filter stands for the ancestors of x
pub record CanFind (finder : Finder) (x : ℕ) : Type 0 where
  pub element : IsElement finder.doc.now.elements x
  pub map : IsMapOf (rules_seen finder.sheets.now.selectors.items) finder.map.now
  pub above : StandsFor finder.doc.now.elements (ancestors finder.doc.now.elements x) finder.filter.now

-- the hits of a place, or of pieces of the map
abbrev pub hits_by : Finder → ℕ → Place → List Hit
hits_by finder x =
    hits_at finder.filter.now finder.doc.now.elements x (rules_seen finder.sheets.now.selectors.items)

abbrev pub hits_by_all : Finder → ℕ → List (List Place) → List Hit
hits_by_all finder x =
    hits_in finder.filter.now finder.doc.now.elements x (rules_seen finder.sheets.now.selectors.items)

-- these were found in the pieces of the map that x looks at
pub record AreFound (finder : Finder) (x : ℕ) (found : List MatchedRule) : Type 0 where
  pub valid : IsValid finder.doc.now.elements
  pub pieces : List (List Place)
  pub looked : AreLookedAt finder.doc.now.elements x (in_bucket finder.map.now) pieces
  pub are : map hit_seen found ≡ hits_by_all finder x pieces
