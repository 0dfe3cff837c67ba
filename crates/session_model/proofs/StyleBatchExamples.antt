-- What a restyle cascades besides what it matches: the child of an element whose style has changed, and all where the
-- root's font size has.
use lib.Utf8.{encode}
use Rattle.std.proofs.Common.{◌≡◌, ap, ◌∙◌, ℕ, Bool, true, false, List, [], ◌∷◌, ◌++◌, filter, length, Some, None, refl, arith}
use Rattle.std.specs.Prelude.{codes, pos, flat_map}
use Rattle.std.specs.Ordering.{int_eq}
use Rattle.std.proofs.lemmas.List.{append-nil}
use Rattle.std.specs.FinMap as maps
use Rattle.std.specs.FinMap.{gets}
use Rattle.base_model.specs.Text.{Characters}
use Rattle.base_model.specs.Origin.{author}
use Rattle.base_model.specs.Sheet.{Sheet}
use Rattle.layer_model.specs.Order.{layers_of, layer_order, declared, rank_in}
use Rattle.syntax_model.specs.SheetRules.{no_context, rules_in}
use Rattle.syntax_model.specs.TokensIn.{tokens_in}
use Rattle.syntax_model.specs.RulesIn.{declarations_in}
use Rattle.syntax_model.specs.Numbers.{thousandths}
use Rattle.custom_model.specs.Parts.{parts}
use Rattle.scene_model.specs.Element.{Element, Attributes}
use Rattle.scene_model.specs.Lookups.{numbers}
use Rattle.scene_model.specs.Ancestors.{ancestors}
use Rattle.scene_model.specs.Nodes.{Node, IsNodeList, scene_of, tree_order}
use Rattle.scene_model.specs.Document.{document_of}
use Rattle.scene_model.specs.Scene.{Scene, elements_of}
use Rattle.change_model.proofs.Started.{IsSound-document_of}
use Rattle.selector_model.specs.Selector.{Selector, subject, type_selector}
use Rattle.selector_model.specs.SpecificityOf.{specificity_of}
use Rattle.value_model.specs.Value.{Value, rem}
use Rattle.value_model.specs.Table.{table}
use Rattle.value_model.specs.Table.{display_property, width_property, margin_top_property, margin_right_property}
use Rattle.value_model.specs.Table.{margin_bottom_property, margin_left_property, font_size_property}
use Rattle.value_model.specs.Color.{named_colors}
use Rattle.value_model.specs.Style.{Style, initial_style, initial_size, font_size_of}
use Rattle.sheet_model.specs.Declared.{Declared, style_declared}
use Rattle.sheet_model.proofs.ExampleCases.{declares}
use Rattle.sheet_model.specs.SelectorsIn.{selectors_in}
use Rattle.sheet_model.specs.ValueIn.{value_in, units}
use Rattle.sheet_model.specs.StyleRules.{StyleRule, style_rules_in, layers_in}
use Rattle.sheet_model.specs.Sources.{Sources, placed, all_placed, sources_of, rules_of_sheets, layers_of_sheets}
use Rattle.cascade_model.specs.Key.{Matched}
use Rattle.cascade_model.specs.Matching.{matching, matching_rules, matching_style, all_matched, all_attached}
use Rattle.cascade_model.specs.Ending.{ending_of}
use Rattle.cascade_model.specs.Custom.{declared_values}
use Rattle.cascade_model.specs.Cascade.{cascaded}
use Rattle.cascade_model.specs.StyleOf.{root_size_of, style_of}
use Rattle.cascade_model.proofs.ExampleCases.{word, px, styled, no_borders}
use Rattle.edit_model.specs.Edit.{DocEdit, of_document, set, unset}
use Rattle.edit_model.specs.Refusal.{outcome_of}
use Rattle.edit_model.specs.Apply.{refusal}
use Rattle.edit_model.proofs.ExampleCases.{get_unset, bare, node_of, class_of, one, class_a}
use Rattle.session_model.specs.Same.{same_style}
use Rattle.session_model.specs.Standing.{style_in, root_size_in, is_cascaded, with_document}
use Rattle.session_model.specs.StandingInvariant.{IsReached}
use Rattle.session_model.specs.Batches.{edited_all}
use Rattle.session_model.proofs.BatchLemmas.{edited_all-reached}
use Rattle.session_model.proofs.RowExamples.{element, inherits_at, step, root_values, margins, first_root, plain_below}
use Rattle.session_model.proofs.BatchCases.{sheet, job, with_edit, Comes, ends, accepts_document, Reports, at_first, first, first_reached, kept_then, by_parent, by_size, root_stays, matched_too, matched_is, count_is}
use Rattle.selector_model.proofs.AttributeCases.{attributes, get_pairs}

abbrev rule_with : Selector → List Declared → StyleRule
rule_with selector declarations =
    record { selectors = selector ∷ []; declarations = declarations; context = no_context }

abbrev of_type : Characters → Selector
of_type tag = subject (one (type_selector tag))

abbrev three : Attributes → Attributes → List Element
three r s =
    element 1 None (codes "html") r ∷ element 2 (Some 1) (codes "p") s ∷ element 3 (Some 2) (codes "i") maps.empty ∷ []

-- `1 html; 2 p in 1 class=a; 3 i in 2`, `.a{margin:1px} i{margin:inherit}`

abbrev by_class : Sheet
by_class = sheet 1 author (codes ".a{margin:1px} i{margin:inherit}")

abbrev margin : List Declared
margin = declares margin_top_property (px 1) ∷ declares margin_right_property (px 1) ∷ declares margin_bottom_property (px 1) ∷ declares margin_left_property (px 1) ∷ []

abbrev sources : Sources
sources = record {
  rules = all_placed by_class 0 0 (rule_with (subject class_a) margin
      ∷ rule_with (of_type (codes "i")) (inherits_at margin_top_property ∷ inherits_at margin_right_property ∷ inherits_at margin_bottom_property ∷ inherits_at margin_left_property ∷ []) ∷ []);
  layers = layers_of [];
}

are_sources : sources_of (by_class ∷ []) ≡ sources
unfolding rules_of_sheets layers_of_sheets layers_in style_rules_in rules_in tokens_in declarations_in selectors_in value_in thousandths units table named_colors parts layer_order declared
are_sources = refl

abbrev ruled : List Matched
ruled =
    all_matched sources.layers (placed by_class 0 0 (rule_with (subject class_a) margin)) (specificity_of (subject class_a)) 0 margin

ruled_margins : cascaded false (styled root_values) initial_size ruled ≡ styled margins
unfolding layer_order declared rank_in ending_of table declared_values
ruled_margins = step false root_values (styled margins) ruled refl refl

module _ (attrs : Attributes) (plain : maps.get attrs (codes "style") ≡ None) where
  rules_1 : matching_rules (three maps.empty attrs) sources 1 ≡ []
  unfolding matching_rules
  rules_1 = simp gets

  none_1 : matching (three maps.empty attrs) sources 1 ≡ []
  unfolding matching_style
  none_1 = rw rules_1 (simp gets)

  with_class : maps.get attrs (codes "class") ≡ Some (codes "a") → matching_rules (three maps.empty attrs) sources 2 ≡ ruled
  unfolding matching_rules
  with_class h = rw h refl

  without_class : maps.get attrs (codes "class") ≡ None → matching_rules (three maps.empty attrs) sources 2 ≡ []
  unfolding matching_rules
  without_class h = rw h refl

  of_2 : (ds : List Matched) → matching_rules (three maps.empty attrs) sources 2 ≡ ds → matching (three maps.empty attrs) sources 2 ≡ ds
  unfolding matching_style
  of_2 ds h = rw (h, plain) (append-nil ds)

  root_is : cascaded true initial_style initial_size (matching (three maps.empty attrs) sources 1) ≡ styled root_values
  root_is = ap (cascaded true initial_style initial_size) none_1 ∙ first_root

  size_is : root_size_of (three maps.empty attrs) sources ≡ initial_size
  unfolding root_size_of table
  size_is = ap (λ (s : Style). font_size_of s.values) root_is

  over_root : (ds : List Matched) (style : Style) → matching_rules (three maps.empty attrs) sources 2 ≡ ds → cascaded false (styled root_values) initial_size ds ≡ style → style_of (three maps.empty attrs) sources 2 ≡ style
  unfolding style_of ancestors
  over_root ds style apply becomes =
      ap (λ s. cascaded false s (root_size_of (three maps.empty attrs) sources) (matching (three maps.empty attrs) sources 2)) root_is
      ∙ (ap (λ z. cascaded false (styled root_values) z (matching (three maps.empty attrs) sources 2)) size_is
      ∙ (ap (cascaded false (styled root_values) initial_size) (of_2 ds apply) ∙ becomes))

abbrev family : List Node
family =
    bare None (codes "html") ∷ node_of (Some 0) (codes "p") (class_of (codes "a")) ∷ bare (Some 1) (codes "i") ∷ []

family_shape : IsNodeList family
family_shape = record { some = omega arith; parents = (refl, (omega arith, (omega arith, tt))) }

abbrev no_class : DocEdit
no_class = unset 2 (codes "class")

abbrev at_start : Scene
at_start = job family (by_class ∷ [])

abbrev then_on : Scene
then_on = with_edit at_start no_class

style_before : style_in at_start 2 ≡ styled margins
unfolding scene_of tree_order
style_before =
    ap (λ s. style_of (three maps.empty (attributes (class_of (codes "a")))) s 2) are_sources
    ∙ over_root (attributes (class_of (codes "a"))) (get_pairs (class_of (codes "a")) (codes "style")) ruled (styled margins) (with_class (attributes (class_of (codes "a"))) (get_pairs (class_of (codes "a")) (codes "style")) (get_pairs (class_of (codes "a")) (codes "class"))) ruled_margins

style_then : style_in then_on 2 ≡ styled no_borders
unfolding scene_of tree_order
style_then =
    let left = maps.remove (attributes (class_of (codes "a"))) (codes "class") in
    let plain : maps.get left (codes "style") ≡ None = simp (get_unset, get_pairs) in
    let gone : maps.get left (codes "class") ≡ None = simp get_unset in
    ap (λ s. style_of (three maps.empty left) s 2) are_sources
    ∙ over_root left plain [] (styled no_borders) (without_class left plain gone) plain_below

other_margins : same_style (styled margins) (styled no_borders) ≡ false
unfolding same_style table
other_margins = refl

differ : same_style (style_in at_start 2) (style_in then_on 2) ≡ false
differ =
    ap (λ s. same_style s (style_in then_on 2)) style_before
    ∙ (ap (same_style (styled margins)) style_then ∙ other_margins)

class_comes : Comes (at_first at_start) (of_document no_class ∷ []) 1 1 [] then_on (2 ∷ []) []
unfolding scene_of tree_order ancestors
class_comes =
    accepts_document (first at_start) no_class refl (subject class_a ∷ of_type (codes "i") ∷ []) (ap (λ s. flat_map (λ rule. rule.selectors) s.rules) are_sources) (2 ∷ []) [] (simp (get_pairs, get_unset, gets)) refl 0 (ends 2)

module _ (p : ℕ → Bool) where
  two_of_three : p 1 ≡ false → p 2 ≡ true → p 3 ≡ true → length (filter p (1 ∷ 2 ∷ 3 ∷ [])) ≡ 2
  two_of_three h k l = rw (h, k, l) refl

  all_three : p 1 ≡ true → p 2 ≡ true → p 3 ≡ true → length (filter p (1 ∷ 2 ∷ 3 ∷ [])) ≡ 3
  all_three h k l = rw (h, k, l) refl

class_reached : IsReached (edited_all (at_first at_start) (of_document no_class ∷ []))
class_reached =
    edited_all-reached (at_first at_start) (of_document no_class ∷ []) (first_reached family family_shape (by_class ∷ [])) (tt, tt)

-- one is matched, and its child is cascaded as well
class_reports : Reports (at_first at_start) (of_document no_class ∷ []) 1 [] 1 2 (1 ∷ 2 ∷ 3 ∷ [])
unfolding scene_of tree_order
class_reports =
    let is = class_comes.stands in
    let st = edited_all (at_first at_start) (of_document no_class ∷ []) in
    let kept = kept_then at_start (IsSound-document_of family family_shape) (of_document no_class) then_on refl 2 refl refl in (
      class_comes.counted,
      class_comes.told,
      matched_is is 1 refl,
      count_is is (1 ∷ 2 ∷ 3 ∷ []) refl 2 (two_of_three (is_cascaded st) (root_stays is class_reached 1 refl refl) (matched_too is 2 refl) (by_parent is 3 2 (style_in at_start 2) refl kept differ)),
      ap (λ s. numbers (elements_of s)) is.scene_is,
    )

-- `1 html; 2 p in 1; 3 i in 2`, `html{font-size:2rem} i{width:1.5rem}`

abbrev by_rem : Sheet
by_rem = sheet 1 author (codes "html{font-size:2rem} i{width:1.5rem}")

abbrev larger : List Declared
larger = declares font_size_property (rem (pos 2_000)) ∷ []

abbrev in_rem : Sources
in_rem = record {
  rules = all_placed by_rem 0 0 (rule_with (of_type (codes "html")) larger
      ∷ rule_with (of_type (codes "i")) (declares width_property (rem (pos 1_500)) ∷ []) ∷ []);
  layers = layers_of [];
}

are_in_rem : sources_of (by_rem ∷ []) ≡ in_rem
unfolding rules_of_sheets layers_of_sheets layers_in style_rules_in rules_in tokens_in declarations_in selectors_in value_in thousandths units table named_colors parts layer_order declared
are_in_rem = refl

abbrev own_size : Attributes
own_size = maps.insert maps.empty (codes "style") (codes "font-size:10px")

own_is : style_declared (codes "font-size:10px") ≡ declares font_size_property (px 10) ∷ []
unfolding style_declared tokens_in declarations_in value_in thousandths units table named_colors parts
own_is = refl

abbrev enlarged : List Matched
enlarged =
    all_matched in_rem.layers (placed by_rem 0 0 (rule_with (of_type (codes "html")) larger)) (specificity_of (of_type (codes "html"))) 0 larger

abbrev with_own : List Matched
with_own = enlarged ++ all_attached in_rem.layers 0 (declares font_size_property (px 10) ∷ [])

enlarged_is : (attrs : Attributes) → matching_rules (three attrs maps.empty) in_rem 1 ≡ enlarged
unfolding matching_rules
enlarged_is attrs = refl

size_at_first : matching (three maps.empty maps.empty) in_rem 1 ≡ enlarged
unfolding matching_style
size_at_first = rw (enlarged_is maps.empty) (simp (gets, append-nil))

size_of_own : matching (three own_size maps.empty) in_rem 1 ≡ with_own
unfolding matching_style
size_of_own = rw (enlarged_is own_size) (simp (gets, own_is))

abbrev sized : ℕ → List (ℕ × Value)
sized n = (font_size_property, px n) ∷ (display_property, word (codes "block")) ∷ no_borders

root_at_first : cascaded true initial_style initial_size enlarged ≡ styled (sized 32)
unfolding layer_order declared rank_in ending_of table declared_values
root_at_first = step true [] (styled (sized 32)) enlarged refl refl

root_of_own : cascaded true initial_style initial_size with_own ≡ styled (sized 10)
unfolding layer_order declared rank_in ending_of table declared_values
root_of_own = step true [] (styled (sized 10)) with_own refl refl

abbrev plain_three : List Node
plain_three = bare None (codes "html") ∷ bare (Some 0) (codes "p") ∷ bare (Some 1) (codes "i") ∷ []

plain_shape : IsNodeList plain_three
plain_shape = record { some = omega arith; parents = (refl, (omega arith, (omega arith, tt))) }

abbrev set_style : DocEdit
set_style = set 1 (codes "style") (codes "font-size:10px")

abbrev in_large : Scene
in_large = job plain_three (by_rem ∷ [])

abbrev in_small : Scene
in_small = with_edit in_large set_style

large_root : style_in in_large 1 ≡ styled (sized 32)
unfolding scene_of tree_order style_of ancestors
large_root =
    ap (λ s. style_of (three maps.empty maps.empty) s 1) are_in_rem
    ∙ (ap (cascaded true initial_style initial_size) size_at_first ∙ root_at_first)

small_size : root_size_in in_small ≡ pos 10_000
unfolding scene_of tree_order root_size_of table
small_size =
    ap (root_size_of (three own_size maps.empty)) are_in_rem
    ∙ ap (λ (s : Style). font_size_of s.values) (ap (cascaded true initial_style initial_size) size_of_own ∙ root_of_own)

large_size : font_size_of (styled (sized 32)).values ≡ pos 32_000
unfolding table
large_size = refl

sizes_differ : int_eq (font_size_of (style_in in_large 1).values) (root_size_in in_small) ≡ false
sizes_differ =
    ap (λ (s : Style). int_eq (font_size_of s.values) (root_size_in in_small)) large_root
    ∙ (ap (λ z. int_eq z (root_size_in in_small)) large_size ∙ ap (int_eq (pos 32_000)) small_size)

set_style_passes : refusal (document_of plain_three) set_style ≡ None
unfolding scene_of tree_order encode
set_style_passes = simp gets

style_comes : Comes (at_first in_large) (of_document set_style ∷ []) 1 1 [] in_small (1 ∷ []) []
unfolding scene_of tree_order ancestors
style_comes =
    accepts_document (first in_large) set_style set_style_passes (of_type (codes "html") ∷ of_type (codes "i") ∷ []) (ap (λ s. flat_map (λ rule. rule.selectors) s.rules) are_in_rem) (1 ∷ []) [] (simp gets) refl 0 (ends 2)

-- one is matched, and all are cascaded
style_reports : Reports (at_first in_large) (of_document set_style ∷ []) 1 [] 1 3 (1 ∷ 2 ∷ 3 ∷ [])
unfolding scene_of tree_order
style_reports =
    let is = style_comes.stands in
    let st = edited_all (at_first in_large) (of_document set_style ∷ []) in
    let kept = kept_then in_large (IsSound-document_of plain_three plain_shape) (of_document set_style) in_small (ap (λ o. with_document in_large (outcome_of o in_small.document)) set_style_passes) 1 refl refl in
    let other : (x : ℕ) → is_cascaded st x ≡ true = λ x. by_size is x 1 (style_in in_large 1) refl kept sizes_differ in (
      style_comes.counted,
      style_comes.told,
      matched_is is 1 refl,
      count_is is (1 ∷ 2 ∷ 3 ∷ []) refl 3 (all_three (is_cascaded st) (other 1) (other 2) (other 3)),
      ap (λ s. numbers (elements_of s)) is.scene_is,
    )
