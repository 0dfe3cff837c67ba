-- The definitions computed on whole jobs, from the texts of their sheets to the text that they are answered with.
use Rattle.std.proofs.Common.{◌≡◌, ℕ, false, true, List, [], ◌∷◌, ◌++◌, Some, None, refl, ap, ◌∙◌, lit<}
use Rattle.std.specs.Prelude.{pos, codes, decimal, encode_utf8_all}
use Rattle.std.specs.FinMap.{gets}
use Rattle.std.proofs.lemmas.Fmt.{decimal_digit}
use Rattle.base_model.specs.Specificity.{Specificity}
use Rattle.scene_model.specs.Element.{Element}
use Rattle.scene_model.specs.Ancestors.{ancestors}
use Rattle.scene_model.specs.Nodes.{scene_of, tree_order}
use Rattle.syntax_model.specs.TokensIn.{tokens_in}
use Rattle.syntax_model.specs.Numbers.{thousandths}
use Rattle.syntax_model.specs.RulesIn.{declarations_in}
use Rattle.syntax_model.specs.SheetRules.{rules_in}
use Rattle.layer_model.specs.Order.{layer_order, declared, rank_in}
use Rattle.selector_model.specs.Selector.{Selector, Simple, any, class_selector, simple, subject, type_selector, with_test}
use Rattle.custom_model.specs.Parts.{parts}
use Rattle.value_model.specs.Color.{named_colors, opaque}
use Rattle.value_model.specs.Value.{Value, color, em, percent, rem}
use Rattle.value_model.specs.Table.{table}
use Rattle.value_model.specs.Table.{color_property, display_property, clear_property, width_property}
use Rattle.value_model.specs.Table.{margin_top_property, margin_right_property, margin_bottom_property}
use Rattle.value_model.specs.Table.{margin_left_property, padding_left_property, font_size_property}
use Rattle.value_model.specs.Style.{initial_size}
use Rattle.sheet_model.specs.SelectorsIn.{selectors_in}
use Rattle.sheet_model.specs.ValueIn.{units, value_in}
use Rattle.sheet_model.specs.Sources.{PlacedRule, Sources, sources_of, rules_of_sheets, layers_of_sheets}
use Rattle.sheet_model.specs.StyleRules.{style_rules_in, layers_in}
use Rattle.sheet_model.proofs.ExampleCases.{declares}
use Rattle.cascade_model.specs.Matching.{matching, matching_rules, matching_style}
use Rattle.cascade_model.specs.Ending.{ending_of}
use Rattle.cascade_model.specs.Custom.{declared_values}
use Rattle.cascade_model.specs.StyleOf.{root_size_of, style_along}
use Rattle.cascade_model.proofs.ExampleCases.{no_borders, px, styled, word}
use Rattle.edit_model.specs.Refusal.{unknown_node}
use Rattle.session_model.specs.Batches.{Report}
use Rattle.stylo_base.specs.declared.refusal.EditRefused.TheVariants.{UnknownNode}
use Rattle.report_text.specs.Lines.{batch_line, refused_line}
use Rattle.layer_order.specs.View.{sheets_of}
use Rattle.job_json.specs.declared.Job.{Job}
use Rattle.report_text.specs.Elements.{line_at}
use Rattle.style_cli.specs.Text.{batch_text, first_scene, text_of}
use Rattle.style_cli.proofs.BatchText.{text_by, text_of-none}
use Rattle.style_cli.proofs.ExampleCases.{IsBy, applied, child_along, line_along, node, over, report_is, root_along, root_size_is, rule, sheet, text_is}
use Rattle.base_model.proofs.Digits.{digit_0, digit_1}

digit_2 : decimal 2 ≡ codes "2"
digit_2 = decimal_digit 2 (lit< tt)

digit_3 : decimal 3 ≡ codes "3"
digit_3 = decimal_digit 3 (lit< tt)

digit_4 : decimal 4 ≡ codes "4"
digit_4 = decimal_digit 4 (lit< tt)

digit_6 : decimal 6 ≡ codes "6"
digit_6 = decimal_digit 6 (lit< tt)

digit_8 : decimal 8 ≡ codes "8"
digit_8 = decimal_digit 8 (lit< tt)

digit_9 : decimal 9 ≡ codes "9"
digit_9 = decimal_digit 9 (lit< tt)

-- the values of the root, of an element below it, and of one below that, where nothing is declared
abbrev bare_root : List (ℕ × Value)
bare_root = (display_property, word (codes "block")) ∷ no_borders

bare_root_is : IsBy true [] bare_root initial_size []
unfolding ending_of table declared_values
bare_root_is = record { alone = refl; values = refl }

bare_child_is : IsBy false bare_root no_borders initial_size []
unfolding ending_of table declared_values
bare_child_is = record { alone = refl; values = refl }

bare_is : IsBy false no_borders no_borders initial_size []
unfolding ending_of table declared_values
bare_is = record { alone = refl; values = refl }

-- No sheets, and an element beside another one's child: tree order is not the order of the numbers.

abbrev bare_job : Job
bare_job = record {
  nodes =
      node None (codes "html") [] ∷ node (Some 0) (codes "p") [] ∷ node (Some 0) (233 ∷ []) [] ∷ node (Some 1) (codes "i") []
      ∷ [];
  sheets = [];
  batches = [];
}

abbrev bare_doc : List Element
bare_doc = scene_of bare_job.nodes

abbrev no_sources : Sources
no_sources = sources_of (sheets_of [])

module _ where
  bare_at_1 : matching bare_doc no_sources 1 ≡ []
  unfolding scene_of tree_order matching_rules matching_style rules_of_sheets layers_of_sheets
  bare_at_1 = simp gets

  bare_at_2 : matching bare_doc no_sources 2 ≡ []
  unfolding scene_of tree_order matching_rules matching_style rules_of_sheets layers_of_sheets
  bare_at_2 = simp gets

  bare_at_3 : matching bare_doc no_sources 3 ≡ []
  unfolding scene_of tree_order matching_rules matching_style rules_of_sheets layers_of_sheets
  bare_at_3 = simp gets

  bare_at_4 : matching bare_doc no_sources 4 ≡ []
  unfolding scene_of tree_order matching_rules matching_style rules_of_sheets layers_of_sheets
  bare_at_4 = simp gets

bare_size : root_size_of bare_doc no_sources ≡ initial_size
unfolding scene_of tree_order table
bare_size = root_size_is bare_doc no_sources 1 bare_root initial_size [] refl bare_at_1 bare_root_is refl

bare_style_1 : style_along bare_doc no_sources initial_size (1 ∷ []) ≡ styled bare_root
unfolding scene_of tree_order
bare_style_1 = root_along bare_doc no_sources 1 bare_root initial_size [] refl bare_at_1 bare_root_is

bare_style_2 : style_along bare_doc no_sources initial_size (2 ∷ 1 ∷ []) ≡ styled no_borders
unfolding scene_of tree_order
bare_style_2 =
    child_along bare_doc no_sources 2 (1 ∷ []) bare_root no_borders initial_size [] bare_style_1 refl bare_at_2 bare_child_is

bare_style_3 : style_along bare_doc no_sources initial_size (3 ∷ 1 ∷ []) ≡ styled no_borders
unfolding scene_of tree_order
bare_style_3 =
    child_along bare_doc no_sources 3 (1 ∷ []) bare_root no_borders initial_size [] bare_style_1 refl bare_at_3 bare_child_is

bare_style_4 : style_along bare_doc no_sources initial_size (4 ∷ 2 ∷ 1 ∷ []) ≡ styled no_borders
unfolding scene_of tree_order
bare_style_4 =
    child_along bare_doc no_sources 4 (2 ∷ 1 ∷ []) no_borders no_borders initial_size [] bare_style_2 refl bare_at_4 bare_is

bare_line_1 : line_at bare_doc no_sources 1 ≡ codes "1 html{display: block}\n"
unfolding scene_of tree_order ancestors table
bare_line_1 =
    line_along bare_doc no_sources 1 [] (codes "html") (codes "1") bare_root initial_size (codes "display: block" ∷ []) bare_size refl refl digit_1 bare_style_1 refl

bare_line_2 : line_at bare_doc no_sources 2 ≡ codes "2 p{}\n"
unfolding scene_of tree_order ancestors table
bare_line_2 =
    line_along bare_doc no_sources 2 (1 ∷ []) (codes "p") (codes "2") no_borders initial_size [] bare_size refl refl digit_2 bare_style_2 refl

bare_line_3 : line_at bare_doc no_sources 3 ≡ codes "3 " ++ ((233 ∷ []) ++ codes "{}\n")
unfolding scene_of tree_order ancestors table
bare_line_3 =
    line_along bare_doc no_sources 3 (1 ∷ []) (233 ∷ []) (codes "3") no_borders initial_size [] bare_size refl refl digit_3 bare_style_3 refl

bare_line_4 : line_at bare_doc no_sources 4 ≡ codes "4 i{}\n"
unfolding scene_of tree_order ancestors table
bare_line_4 =
    line_along bare_doc no_sources 4 (2 ∷ 1 ∷ []) (codes "i") (codes "4") no_borders initial_size [] bare_size refl refl digit_4 bare_style_4 refl

bare_text : text_of bare_job ≡ encode_utf8_all (codes "batch 0: 0 accepted, 0 refused, 4 matched, 4 cascaded\n1 html{display: block}\n2 p{}\n4 i{}\n3 " ++ ((233 ∷ []) ++ codes "{}\n"))
unfolding scene_of tree_order
bare_text =
    text_of-none bare_job refl
    ∙ text_is bare_doc no_sources (1 ∷ 2 ∷ 4 ∷ 3 ∷ []) (codes "4") (codes "1 html{display: block}\n" ∷ codes "2 p{}\n" ∷ codes "4 i{}\n" ∷ (codes "3 " ++ ((233 ∷ []) ++ codes "{}\n")) ∷ []) refl digit_4 (bare_line_1, (bare_line_2, (bare_line_4, (bare_line_3, tt))))

-- A batch of two edits behind it, of which one is refused.

abbrev edited : Report
edited = record {
  accepted = 1;
  refusals = record { place = 2; why = unknown_node 9 } ∷ [];
  matched = 0;
  cascaded = 0;
  scene = first_scene bare_job;
}

edited_counts : batch_line 1 1 1 0 0 ≡ codes "batch 1: 1 accepted, 1 refused, 0 matched, 0 cascaded\n"
unfolding batch_line
edited_counts = simp (digit_0, digit_1)

edited_refusal : refused_line 2 (UnknownNode 9) ≡ codes "refused 2: unknown node 9\n"
unfolding refused_line
edited_refusal = simp (digit_2, digit_9)

edited_text : batch_text 1 edited ≡ encode_utf8_all (codes "batch 1: 1 accepted, 1 refused, 0 matched, 0 cascaded\nrefused 2: unknown node 9\n1 html{display: block}\n2 p{}\n4 i{}\n3 " ++ ((233 ∷ []) ++ codes "{}\n"))
unfolding scene_of tree_order
edited_text =
    report_is 1 edited (1 ∷ 2 ∷ 4 ∷ 3 ∷ []) (codes "batch 1: 1 accepted, 1 refused, 0 matched, 0 cascaded\n") (codes "refused 2: unknown node 9\n" ∷ []) (codes "1 html{display: block}\n" ∷ codes "2 p{}\n" ∷ codes "4 i{}\n" ∷ (codes "3 " ++ ((233 ∷ []) ++ codes "{}\n")) ∷ []) edited_counts (ap (λ line. line ∷ []) edited_refusal) refl (bare_line_1, (bare_line_2, (bare_line_4, (bare_line_3, tt))))

-- A sheet of rules for types and a class, with a shorthand, lengths, a rule that is dropped for its selectors, a declaration
-- of no property, and a block that the end of the text closes.

abbrev job : Job
job = record {
  nodes =
      node None (codes "html") [] ∷ node (Some 0) (codes "p") ((codes "class", codes "note") ∷ []) ∷ node (Some 0) (codes "p") []
      ∷ node (Some 1) (codes "i") [] ∷ [];
  sheets =
      sheet (codes "p{color:red;display:block} .note{color:#00f;margin:1px 2px} html{font-size:8px} i{width:1rem;padding-left:1.5em;font-size:50%;colour:lime} p,{clear:both} b{clear:left")
      ∷ [];
  batches = [];
}

abbrev testing : Simple → List Selector
testing test = subject (with_test (simple test) any) ∷ []

abbrev red : Value
red = color (opaque 255 0 0)

abbrev blue : Value
blue = color (opaque 0 0 255)

abbrev rules : List PlacedRule
rules =
    rule 0 (testing (type_selector (codes "p"))) (declares color_property red ∷ declares display_property (word (codes "block")) ∷ [])
    ∷ rule 2 (testing (class_selector (codes "note"))) (declares color_property blue ∷ declares margin_top_property (px 1) ∷ declares margin_right_property (px 2) ∷ declares margin_bottom_property (px 1) ∷ declares margin_left_property (px 2) ∷ [])
    ∷ rule 7 (testing (type_selector (codes "html"))) (declares font_size_property (px 8) ∷ [])
    ∷ rule 8 (testing (type_selector (codes "i"))) (declares width_property (rem (pos 1_000)) ∷ declares padding_left_property (em (pos 1_500)) ∷ declares font_size_property (percent (pos 50_000)) ∷ [])
    ∷ rule 11 (testing (type_selector (codes "b"))) (declares clear_property (word (codes "left")) ∷ [])
    ∷ []

rules_read : sources_of (sheets_of job.sheets) ≡ over rules
unfolding rules_of_sheets layers_of_sheets layers_in layer_order declared style_rules_in rules_in tokens_in declarations_in selectors_in value_in named_colors table parts thousandths units
rules_read = refl

abbrev doc : List Element
doc = scene_of job.nodes

abbrev by_type : Specificity
by_type = record { ids = 0; classes = 0; types = 1 }

abbrev by_class : Specificity
by_class = record { ids = 0; classes = 1; types = 0 }

at_1 : matching doc (over rules) 1 ≡ applied rules 2 by_type
unfolding matching_rules matching_style layer_order declared rank_in scene_of tree_order
at_1 = simp gets

at_2 : matching doc (over rules) 2 ≡ applied rules 0 by_type ++ applied rules 1 by_class
unfolding matching_rules matching_style layer_order declared rank_in scene_of tree_order
at_2 = simp gets

at_3 : matching doc (over rules) 3 ≡ applied rules 0 by_type
unfolding matching_rules matching_style layer_order declared rank_in scene_of tree_order
at_3 = simp gets

at_4 : matching doc (over rules) 4 ≡ applied rules 3 by_type
unfolding matching_rules matching_style layer_order declared rank_in scene_of tree_order
at_4 = simp gets

-- the values of each element that are not initial ones, and the border widths

abbrev values_1 : List (ℕ × Value)
values_1 = (display_property, word (codes "block")) ∷ (font_size_property, px 8) ∷ no_borders

abbrev values_2 : List (ℕ × Value)
values_2 =
    (color_property, blue) ∷ (display_property, word (codes "block")) ∷ (margin_top_property, px 1) ∷ (margin_right_property, px 2) ∷ (margin_bottom_property, px 1) ∷ (margin_left_property, px 2) ∷ (font_size_property, px 8) ∷ no_borders

abbrev values_3 : List (ℕ × Value)
values_3 = (color_property, red) ∷ (display_property, word (codes "block")) ∷ (font_size_property, px 8) ∷ no_borders

abbrev values_4 : List (ℕ × Value)
values_4 = (color_property, blue) ∷ (width_property, px 8) ∷ (padding_left_property, px 6) ∷ (font_size_property, px 4) ∷ no_borders

by_1 : IsBy true [] values_1 initial_size (applied rules 2 by_type)
unfolding ending_of table declared_values layer_order declared rank_in
by_1 = record { alone = refl; values = refl }

by_2 : IsBy false values_1 values_2 (pos 8_000) (applied rules 0 by_type ++ applied rules 1 by_class)
unfolding ending_of table declared_values layer_order declared rank_in
by_2 = record { alone = refl; values = refl }

by_3 : IsBy false values_1 values_3 (pos 8_000) (applied rules 0 by_type)
unfolding ending_of table declared_values layer_order declared rank_in
by_3 = record { alone = refl; values = refl }

by_4 : IsBy false values_2 values_4 (pos 8_000) (applied rules 3 by_type)
unfolding ending_of table declared_values layer_order declared rank_in
by_4 = record { alone = refl; values = refl }

size : root_size_of doc (over rules) ≡ pos 8_000
unfolding scene_of tree_order table
size = root_size_is doc (over rules) 1 values_1 (pos 8_000) (applied rules 2 by_type) refl at_1 by_1 refl

style_1 : style_along doc (over rules) (pos 8_000) (1 ∷ []) ≡ styled values_1
unfolding scene_of tree_order
style_1 = root_along doc (over rules) 1 values_1 (pos 8_000) (applied rules 2 by_type) refl at_1 by_1

style_2 : style_along doc (over rules) (pos 8_000) (2 ∷ 1 ∷ []) ≡ styled values_2
unfolding scene_of tree_order
style_2 =
    child_along doc (over rules) 2 (1 ∷ []) values_1 values_2 (pos 8_000) (applied rules 0 by_type ++ applied rules 1 by_class) style_1 refl at_2 by_2

style_3 : style_along doc (over rules) (pos 8_000) (3 ∷ 1 ∷ []) ≡ styled values_3
unfolding scene_of tree_order
style_3 =
    child_along doc (over rules) 3 (1 ∷ []) values_1 values_3 (pos 8_000) (applied rules 0 by_type) style_1 refl at_3 by_3

style_4 : style_along doc (over rules) (pos 8_000) (4 ∷ 2 ∷ 1 ∷ []) ≡ styled values_4
unfolding scene_of tree_order
style_4 =
    child_along doc (over rules) 4 (2 ∷ 1 ∷ []) values_2 values_4 (pos 8_000) (applied rules 3 by_type) style_2 refl at_4 by_4

line_1 : line_at doc (over rules) 1 ≡ codes "1 html{display: block; font-size: 8px}\n"
unfolding scene_of tree_order ancestors table
line_1 =
    line_along doc (over rules) 1 [] (codes "html") (codes "1") values_1 (pos 8_000) (codes "display: block" ∷ codes "font-size: 8px" ∷ []) size refl refl digit_1 style_1 (simp digit_8)

line_2 : line_at doc (over rules) 2 ≡ codes "2 p{color: #0000ff; display: block; margin-top: 1px; margin-right: 2px; margin-bottom: 1px; margin-left: 2px; font-size: 8px}\n"
unfolding scene_of tree_order ancestors table
line_2 =
    line_along doc (over rules) 2 (1 ∷ []) (codes "p") (codes "2") values_2 (pos 8_000) (codes "color: #0000ff" ∷ codes "display: block" ∷ codes "margin-top: 1px" ∷ codes "margin-right: 2px" ∷ codes "margin-bottom: 1px" ∷ codes "margin-left: 2px" ∷ codes "font-size: 8px" ∷ []) size refl refl digit_2 style_2 (simp (digit_1, digit_2, digit_8))

line_3 : line_at doc (over rules) 3 ≡ codes "3 p{color: #ff0000; display: block; font-size: 8px}\n"
unfolding scene_of tree_order ancestors table
line_3 =
    line_along doc (over rules) 3 (1 ∷ []) (codes "p") (codes "3") values_3 (pos 8_000) (codes "color: #ff0000" ∷ codes "display: block" ∷ codes "font-size: 8px" ∷ []) size refl refl digit_3 style_3 (simp digit_8)

line_4 : line_at doc (over rules) 4 ≡ codes "4 i{color: #0000ff; width: 8px; padding-left: 6px; font-size: 4px}\n"
unfolding scene_of tree_order ancestors table
line_4 =
    line_along doc (over rules) 4 (2 ∷ 1 ∷ []) (codes "i") (codes "4") values_4 (pos 8_000) (codes "color: #0000ff" ∷ codes "width: 8px" ∷ codes "padding-left: 6px" ∷ codes "font-size: 4px" ∷ []) size refl refl digit_4 style_4 (simp (digit_4, digit_6, digit_8))

text : text_of job ≡ encode_utf8_all (codes "batch 0: 0 accepted, 0 refused, 4 matched, 4 cascaded\n1 html{display: block; font-size: 8px}\n2 p{color: #0000ff; display: block; margin-top: 1px; margin-right: 2px; margin-bottom: 1px; margin-left: 2px; font-size: 8px}\n4 i{color: #0000ff; width: 8px; padding-left: 6px; font-size: 4px}\n3 p{color: #ff0000; display: block; font-size: 8px}\n")
unfolding scene_of tree_order
text =
    text_of-none job refl
    ∙ (ap (text_by doc) rules_read
    ∙ text_is doc (over rules) (1 ∷ 2 ∷ 4 ∷ 3 ∷ []) (codes "4") (codes "1 html{display: block; font-size: 8px}\n" ∷ codes "2 p{color: #0000ff; display: block; margin-top: 1px; margin-right: 2px; margin-bottom: 1px; margin-left: 2px; font-size: 8px}\n" ∷ codes "4 i{color: #0000ff; width: 8px; padding-left: 6px; font-size: 4px}\n" ∷ codes "3 p{color: #ff0000; display: block; font-size: 8px}\n" ∷ []) refl digit_4 (line_1, (line_2, (line_4, (line_3, tt)))))
