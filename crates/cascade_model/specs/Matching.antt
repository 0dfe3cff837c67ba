-- Which declarations apply to an element (css-cascade-5, section 5).
use Rattle.std.specs.Prelude.{ℕ, ◌+◌, List, [], ◌∷◌, ◌++◌, flat_map, Bool, true, false, Option, Some, None, if◌then◌else◌, codes}
use Rattle.std.specs.Option.{option_map_or}
use Rattle.base_model.specs.Origin.{author}
use Rattle.base_model.specs.Specificity.{Specificity, nothing, greater}
use Rattle.layer_model.specs.Name.{no_layer}
use Rattle.layer_model.specs.Order.{Layers, layer_rank}
use Rattle.scene_model.specs.Element.{Element}
use Rattle.scene_model.specs.Lookups.{attribute_of}
use Rattle.selector_model.specs.Selector.{Selector}
use Rattle.selector_model.specs.SpecificityOf.{specificity_of}
use Rattle.selector_model.specs.Holds.{holds}
use Rattle.sheet_model.specs.Declared.{Declared, style_declared}
use Rattle.sheet_model.specs.Sources.{PlacedRule, Sources}
use Rattle.cascade_model.specs.Key.{Matched}

-- the greater of what was found so far and one more
abbrev pub with_greater : Option Specificity → Specificity → Specificity
with_greater best specificity = option_map_or (λ other. greater other specificity) best specificity

-- the greatest specificity of the selectors that pass, if some does
abbrev pub greatest_by : (Selector → Bool) → Option Specificity → List Selector → Option Specificity
greatest_by passes best [] = best
greatest_by passes best (selector ∷ rest) =
    greatest_by passes (if passes selector then Some (with_greater best (specificity_of selector)) else best) rest

-- a declaration of a rule that applies with this specificity
abbrev pub matched : Layers → PlacedRule → Specificity → ℕ → Declared → Matched
matched layers rule specificity index d = record {
  target = d.target;
  given = d.given;
  origin = rule.origin;
  important = d.important;
  attached = false;
  layer = layer_rank layers rule.origin rule.layer;
  specificity = specificity;
  sheet = rule.sheet;
  position = rule.position;
  index = index;
}

abbrev pub all_matched : Layers → PlacedRule → Specificity → ℕ → List Declared → List Matched
all_matched layers rule specificity index [] = []
all_matched layers rule specificity index (d ∷ ds) =
    matched layers rule specificity index d ∷ all_matched layers rule specificity (index + 1) ds

-- the declarations of a rule, if a selector of it passes
abbrev pub rule_matched : Layers → (Selector → Bool) → PlacedRule → List Matched
rule_matched layers passes rule =
    option_map_or (λ specificity. all_matched layers rule specificity rule.first_index rule.declarations)
    (greatest_by passes None rule.selectors) []

-- all declarations of the rules with a selector that holds at x
unfoldable pub matching_rules : List Element → Sources → ℕ → List Matched
matching_rules doc sources x =
    flat_map (rule_matched sources.layers (λ selector. holds doc selector x)) sources.rules

-- A declaration of a `style` attribute: of the author, in no layer and of no sheet, with this many before it.
abbrev pub attached : Layers → ℕ → Declared → Matched
attached layers index d = record {
  target = d.target;
  given = d.given;
  origin = author;
  important = d.important;
  attached = true;
  layer = layer_rank layers author no_layer;
  specificity = nothing;
  sheet = 0;
  position = 0;
  index = index;
}

abbrev pub all_attached : Layers → ℕ → List Declared → List Matched
all_attached layers index [] = []
all_attached layers index (d ∷ ds) = attached layers index d ∷ all_attached layers (index + 1) ds

-- the declarations of an element's `style` attribute
unfoldable pub matching_style : List Element → Sources → ℕ → List Matched
matching_style doc sources x =
    option_map_or (λ text. all_attached sources.layers 0 (style_declared text)) (attribute_of doc x (codes "style")) []

-- all declarations that apply to x
abbrev pub matching : List Element → Sources → ℕ → List Matched
matching doc sources x = matching_rules doc sources x ++ matching_style doc sources x
