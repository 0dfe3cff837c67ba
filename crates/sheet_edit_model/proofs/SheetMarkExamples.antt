-- Whom edits of sheets mark, computed.
use Rattle.std.proofs.Common.{◌≡◌, ℕ, true, false, List, [], ◌∷◌, filter, Option, Some, None, refl}
use Rattle.std.specs.Prelude.{codes}
use Rattle.std.specs.FinMap as maps
use Rattle.base_model.specs.Text.{Characters}
use Rattle.base_model.specs.Origin.{Origin, author, user}
use Rattle.base_model.specs.Sheet.{Sheet}
use Rattle.layer_model.specs.Order.{declared, layer_order}
use Rattle.syntax_model.specs.TokensIn.{tokens_in}
use Rattle.syntax_model.specs.SheetRules.{rules_in}
use Rattle.syntax_model.specs.RulesIn.{declarations_in}
use Rattle.syntax_model.specs.Numbers.{thousandths}
use Rattle.custom_model.specs.Parts.{parts}
use Rattle.value_model.specs.Color.{named_colors}
use Rattle.value_model.specs.Table.{table}
use Rattle.sheet_model.specs.SelectorsIn.{selectors_in}
use Rattle.sheet_model.specs.ValueIn.{value_in, units}
use Rattle.scene_model.specs.Element.{Element, States}
use Rattle.scene_model.specs.Lookups.{numbers}
use Rattle.sheet_model.specs.StyleRules.{style_rules_in, layers_in}
use Rattle.sheet_model.specs.Sources.{layers_of_sheets}
use Rattle.edit_model.specs.Edit.{SheetEdit, add_sheet, remove_sheet, replace_sheet, enable_sheet}
use Rattle.edit_model.specs.SheetApply.{number_in, sheets_after}
use Rattle.sheet_edit_model.specs.SheetMarks.{is_marked_by_sheets}

abbrev sheet : ℕ → Origin → Characters → Sheet
sheet n origin text = record { number = n; origin = origin; enabled = true; text = text; edition = 0 }

abbrev quiet : States
quiet = record { hover = false; active = false; focus = false }

abbrev element : ℕ → Option ℕ → Characters → Element
element n p tag = record { number = n; parent = p; tag = tag; attrs = maps.empty; states = quiet }

abbrev doc : List Element
doc =
    element 1 None (codes "html") ∷ element 2 (Some 1) (codes "p") ∷ element 3 (Some 2) (codes "i") ∷ []

abbrev marked : List Sheet → SheetEdit → List ℕ
marked sheets edit =
    filter (is_marked_by_sheets doc sheets (sheets_after 2 edit sheets) (number_in 2 edit)) (numbers doc)

abbrev two : Characters → Characters → List Sheet
two first second = sheet 1 author first ∷ sheet 2 author second ∷ []

abbrev colors : Characters
colors = codes "@layer b{p{color:red}} @layer a{p{color:lime}}"

abbrev off : ℕ → List Sheet → List Sheet
off n sheets = sheets_after 2 (enable_sheet n false) sheets

-- the layers of another sheet are turned round
turned_round : marked (two (codes "@layer a, b;") colors) (replace_sheet 1 (codes "@layer b, a;")) ≡ 1 ∷ 2 ∷ 3 ∷ []
unfolding tokens_in rules_in style_rules_in layers_in layers_of_sheets layer_order declared declarations_in selectors_in value_in thousandths units table named_colors parts
turned_round = refl

-- two layers keep their order without a sheet that has no rules
one_off : marked (two (codes "@layer b, a;") colors) (enable_sheet 1 false) ≡ []
unfolding tokens_in rules_in style_rules_in layers_in layers_of_sheets layer_order declared declarations_in selectors_in value_in thousandths units table named_colors parts
one_off = refl

-- a sheet with rules comes back to one that is off
rules_off : marked (off 1 (two (codes "@layer b, a;") colors)) (enable_sheet 2 false) ≡ 2 ∷ []
unfolding tokens_in rules_in style_rules_in layers_in layers_of_sheets layer_order declared declarations_in selectors_in value_in thousandths units table named_colors parts
rules_off = refl

both_off_one_on : marked (off 2 (off 1 (two (codes "@layer b, a;") colors))) (enable_sheet 1 true) ≡ []
unfolding tokens_in rules_in style_rules_in layers_in layers_of_sheets layer_order declared declarations_in selectors_in value_in thousandths units table named_colors parts
both_off_one_on = refl

-- and its rules come back behind the layers of the other
rules_back : marked (off 2 (two (codes "@layer b, a;") colors)) (enable_sheet 2 true) ≡ 2 ∷ []
unfolding tokens_in rules_in style_rules_in layers_in layers_of_sheets layer_order declared declarations_in selectors_in value_in thousandths units table named_colors parts
rules_back = refl

-- one that comes first turns them round
added_before : marked (two (codes "@layer b, a;") colors) (add_sheet 0 author true (codes "@layer a;")) ≡ 1 ∷ 2 ∷ 3 ∷ []
unfolding tokens_in rules_in style_rules_in layers_in layers_of_sheets layer_order declared declarations_in selectors_in value_in thousandths units table named_colors parts
added_before = refl

-- but not from another origin
of_another_origin : marked (two (codes "@layer b, a;") colors) (add_sheet 0 user true (codes "@layer a;")) ≡ []
unfolding tokens_in rules_in style_rules_in layers_in layers_of_sheets layer_order declared declarations_in selectors_in value_in thousandths units table named_colors parts
of_another_origin = refl

removed : marked (two (codes "p{color:lime}") (codes "b{color:red}")) (remove_sheet 1) ≡ 2 ∷ []
unfolding tokens_in rules_in style_rules_in layers_in layers_of_sheets layer_order declared declarations_in selectors_in value_in thousandths units table named_colors parts
removed = refl

-- by the keys of the text before and of that after
replaced : marked (two (codes "p{color:lime}") (codes "b{color:red}")) (replace_sheet 1 (codes "i{}")) ≡ 2 ∷ 3 ∷ []
unfolding tokens_in rules_in style_rules_in layers_in layers_of_sheets layer_order declared declarations_in selectors_in value_in thousandths units table named_colors parts
replaced = refl

equal_text : marked (two (codes "p{color:lime}") (codes "b{color:red}")) (replace_sheet 1 (codes "p{color:lime}")) ≡ []
unfolding tokens_in rules_in style_rules_in layers_in layers_of_sheets layer_order declared declarations_in selectors_in value_in thousandths units table named_colors parts
equal_text = refl

on_as_it_was : marked (two (codes "p{color:lime}") (codes "b{color:red}")) (enable_sheet 1 true) ≡ []
unfolding tokens_in rules_in style_rules_in layers_in layers_of_sheets layer_order declared declarations_in selectors_in value_in thousandths units table named_colors parts
on_as_it_was = refl

off_replaced : marked (off 1 (two (codes "p{color:lime}") (codes "b{color:red}"))) (replace_sheet 1 (codes "*{}")) ≡ []
unfolding tokens_in rules_in style_rules_in layers_in layers_of_sheets layer_order declared declarations_in selectors_in value_in thousandths units table named_colors parts
off_replaced = refl

anonymous_replaced : marked (two (codes "@layer{p{color:red}}") (codes "@layer a{p{color:lime}} @layer{p{clear:both}}")) (replace_sheet 1 (codes "@layer{p{color:red}} ")) ≡ 2 ∷ []
unfolding tokens_in rules_in style_rules_in layers_in layers_of_sheets layer_order declared declarations_in selectors_in value_in thousandths units table named_colors parts
anonymous_replaced = refl

-- the anonymous layer of a text that replaces another one is another layer: no two layers are swapped
other_edition : marked (two (codes "@layer{p{color:red}}") (codes "@layer a{p{color:lime}} @layer{p{clear:both}}")) (replace_sheet 2 (codes "@layer{p{clear:left}} @layer a{p{color:lime}}")) ≡ 2 ∷ []
unfolding tokens_in rules_in style_rules_in layers_in layers_of_sheets layer_order declared declarations_in selectors_in value_in thousandths units table named_colors parts
other_edition = refl
