-- What the rules of the code stand for, those of one sheet and those of a list of sheets.
use Rattle.std.specs.Prelude.{◌≡◌, ℕ, if◌then◌else◌, List, [], ◌∷◌, length, flat_map, map, Vec, Bool, false, Option}
use Rattle.std.specs.Option.{option_map_or}
use Rattle.std.specs.declared.alloc.Global.{Global}
use Rattle.base_model.specs.Sheet.{Sheet}
use Rattle.base_model.specs.Text.{Characters}
use Rattle.sheet_model.specs.StyleRules.{StyleRule, style_rules_in}
use Rattle.sheet_model.specs.Sources.{PlacedRule, all_placed, edition_of}
use Rattle.syntax_model.specs.Rules.{Context, StyleBlock}
use Rattle.syntax_model.specs.Token.{Token}
use Rattle.layer_order.specs.View.{origin_of}
use Rattle.layer_order.specs.declared.origin.Origin.{Origin}
use Rattle.layer_order.specs.declared.sheet_input.SheetInput.{SheetInput}
use Rattle.css_rules.specs.declared.rule.SheetEdition.{SheetEdition}
use Rattle.selector_types.specs.declared.selector.Selector.{Selector}
use Rattle.selector_types.specs.View.{selector_of}
use Rattle.shorthands.specs.View.{declared_of}
use Rattle.sheet_set.specs.declared.sheet_rule.SheetRule.{SheetRule}

-- a qualified rule, of its parts
abbrev pub block_of : List Token → List Token → Context → StyleBlock
block_of prelude block context = record { prelude = prelude; block = block; context = context }

-- how many declarations of a rule are kept
abbrev pub rule_count : Option StyleRule → ℕ
rule_count rule = option_map_or (λ r. length r.declarations) rule 0

-- a rule with its selectors, as one of the sheet at position 0
abbrev pub placed_rule_of : SheetRule → List Selector → PlacedRule
placed_rule_of rule selectors = record {
  selectors = map selector_of selectors;
  declarations = flat_map declared_of rule.body.value.declarations.items;
  origin = origin_of rule.body.value.origin;
  layer = rule.body.value.layer;
  sheet = rule.body.value.sheet;
  position = 0;
  first_index = rule.body.value.first_index;
}

-- rules, each with its own list of selectors
abbrev pub rules_with : List SheetRule → List (Vec Selector Global) → List PlacedRule
rules_with [] lists = []
rules_with (rule ∷ rules) [] = []
rules_with (rule ∷ rules) (list ∷ lists) = placed_rule_of rule list.items ∷ rules_with rules lists

-- a rule of a sheet that has another position, and rules, each at its own
abbrev pub put_at : ℕ → PlacedRule → PlacedRule
put_at position rule = record rule { position = position }

abbrev pub placed_at : List ℕ → List PlacedRule → List PlacedRule
placed_at [] rules = []
placed_at (position ∷ positions) [] = []
placed_at (position ∷ positions) (rule ∷ rules) = put_at position rule ∷ placed_at positions rules

-- a sheet, from what is kept of it
abbrev pub sheet_made : ℕ → Origin → Bool → Characters → ℕ → Sheet
sheet_made number origin enabled text edition = record {
  number = number;
  origin = origin_of origin;
  enabled = enabled;
  text = text;
  edition = edition;
}

-- a sheet that is read, under a number and an edition, and doesn't take part yet
abbrev pub sheet_read : SheetEdition → SheetInput → Sheet
sheet_read at input = sheet_made at.sheet input.origin false input.text at.edition

-- the rules of a sheet's text as those of the sheet at a position, and how many there are
abbrev pub rules_at : ℕ → Sheet → List PlacedRule
rules_at position sheet = all_placed sheet position 0 (style_rules_in (edition_of sheet) sheet.text)

abbrev pub count_in : Sheet → ℕ
count_in sheet = length (style_rules_in (edition_of sheet) sheet.text)

-- the rules of a sheet that take part, wherever it stands, and those that wait until it does
abbrev pub taking_part : Sheet → List PlacedRule
taking_part sheet = if sheet.enabled then rules_at 0 sheet else []

abbrev pub waiting : Sheet → List PlacedRule
waiting sheet = if sheet.enabled then [] else rules_at 0 sheet

-- Two lists of rules are the same. No proof is told from another, so a type can keep it.
abbrev pub AreSame : List PlacedRule → List PlacedRule → Type 0
AreSame rules others = ∥ rules ≡ others ∥₁
