-- The rules of a text that are kept, and its layers (css-syntax-3, section 5; selectors-4, section 4.1; css-cascade-5,
-- section 6.4).
use Rattle.std.specs.Prelude.{List, Option, Some, None, filter_map}
use Rattle.base_model.specs.Options.{◌>>=◌}
use Rattle.base_model.specs.Text.{Characters}
use Rattle.layer_model.specs.Name.{LayerName}
use Rattle.syntax_model.specs.Rules.{Context, StyleBlock, Rule, style, layer, SheetEdition}
use Rattle.syntax_model.specs.SheetRules.{sheet_rules_in}
use Rattle.selector_model.specs.Selector.{Selector}
use Rattle.sheet_model.specs.SelectorsIn.{selectors_in}
use Rattle.sheet_model.specs.Declared.{Declared, block_declared}

pub record StyleRule : Type 0 where
  pub selectors : List Selector
  pub declarations : List Declared
  -- what it is in
  pub context : Context

-- a rule whose prelude is no list of selectors is dropped
abbrev pub style_rule_of : StyleBlock → Option StyleRule
style_rule_of rule = do
  selectors ← selectors_in rule.prelude
  Some (record { selectors = selectors; declarations = block_declared rule.block; context = rule.context })

abbrev pub style_rule_in : Rule → Option StyleRule
style_rule_in (style rule) = style_rule_of rule
style_rule_in (layer context) = None

unfoldable pub style_rules_in : SheetEdition → Characters → List StyleRule
style_rules_in edition text = filter_map style_rule_in (sheet_rules_in edition text)

abbrev pub layer_in : Rule → Option LayerName
layer_in (style rule) = None
layer_in (layer context) = Some context.layer

-- the layers that a text declares, in its order
unfoldable pub layers_in : SheetEdition → Characters → List LayerName
layers_in edition text = filter_map layer_in (sheet_rules_in edition text)
