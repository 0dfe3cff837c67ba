-- What batches with edits of sheets report, over `1 html; 2 p in 1`.
use lib.Utf8.{encode}
use Rattle.std.proofs.Common.{◌≡◌, true, false, List, [], ◌∷◌, Some, None, refl, arith}
use Rattle.std.specs.Prelude.{codes}
use Rattle.std.specs.FinMap.{gets}
use Rattle.base_model.specs.Origin.{author}
use Rattle.base_model.specs.Sheet.{Sheet}
use Rattle.layer_model.specs.Order.{declared, layer_order}
use Rattle.syntax_model.specs.TokensIn.{tokens_in}
use Rattle.syntax_model.specs.SheetRules.{rules_in}
use Rattle.syntax_model.specs.RulesIn.{declarations_in}
use Rattle.syntax_model.specs.Numbers.{thousandths}
use Rattle.custom_model.specs.Parts.{parts}
use Rattle.value_model.specs.Color.{named_colors}
use Rattle.value_model.specs.Table.{table}
use Rattle.sheet_model.specs.AttributeIn.{attribute_in}
use Rattle.sheet_model.specs.SelectorsIn.{selectors_in}
use Rattle.sheet_model.specs.ValueIn.{value_in, units}
use Rattle.sheet_model.specs.StyleRules.{style_rules_in, layers_in}
use Rattle.sheet_model.specs.Sources.{rules_of_sheets, layers_of_sheets}
use Rattle.scene_model.specs.Ancestors.{ancestors}
use Rattle.scene_model.specs.Nodes.{Node, IsNodeList, scene_of, tree_order}
use Rattle.scene_model.specs.Document.{document_of}
use Rattle.scene_model.specs.Scene.{Scene}
use Rattle.edit_model.specs.Edit.{DocEdit, SheetEdit, of_document, of_sheets, set, replace_sheet, enable_sheet}
use Rattle.edit_model.specs.Apply.{refusal}
use Rattle.selector_model.proofs.AttributeCases.{no_attributes, get_pairs}
use Rattle.edit_model.proofs.ExampleCases.{get_set, node_of}
use Rattle.session_model.specs.Marking.{marking_selectors}
use Rattle.session_model.specs.Standing.{restyled}
use Rattle.session_model.specs.Batches.{edited_all}
use Rattle.session_model.proofs.BatchLemmas.{batch-reached}
use Rattle.session_model.proofs.BatchCases.{sheet, job, with_edit, with_sheet_edit, Comes, ends, accepts_document, accepts_sheets, Reports, reports, at_first, first, first_reached, next}

abbrev two : List Node
two = node_of None (codes "html") [] ∷ node_of (Some 0) (codes "p") [] ∷ []

two_shape : IsNodeList two
two_shape = record { some = omega arith; parents = (refl, (omega arith, tt)) }

-- the layers are turned round

abbrev layered : List Sheet
layered =
    sheet 1 author (codes "@layer a, b;")
    ∷ sheet 2 author (codes "@layer a{p{color:red}} @layer b{p{color:lime}}")
    ∷ []

abbrev turn : SheetEdit
turn = replace_sheet 1 (codes "@layer b, a;")

turn_comes : Comes (at_first (job two layered)) (of_sheets turn ∷ []) 1 1 [] (with_sheet_edit (job two layered) turn) (1 ∷ 2 ∷ []) []
unfolding scene_of tree_order encode tokens_in rules_in style_rules_in layers_in layers_of_sheets layer_order declared declarations_in selectors_in value_in thousandths units table named_colors parts
turn_comes =
    accepts_sheets (first (job two layered)) turn refl (1 ∷ 2 ∷ []) refl [] refl 0 (ends 2)

turn_reports : Reports (at_first (job two layered)) (of_sheets turn ∷ []) 1 [] 2 2 (1 ∷ 2 ∷ [])
unfolding scene_of tree_order
turn_reports =
    reports turn_comes (first_reached two two_shape layered) (tt, tt) refl 2 refl (1 ∷ 2 ∷ []) refl

-- a sheet that is off marks nothing, and its keys mark when it comes on

abbrev disabled : List Sheet
disabled = record (sheet 1 author (codes "p[k]{color:red}")) { enabled = false } ∷ []

disabled_is : marking_selectors disabled ≡ []
unfolding rules_of_sheets
disabled_is = refl

abbrev set_k : DocEdit
set_k = set 2 (codes "k") []

set_k_passes : refusal (document_of two) set_k ≡ None
unfolding scene_of tree_order encode
set_k_passes = simp (no_attributes, gets)

abbrev with_k : Scene
with_k = with_edit (job two disabled) set_k

set_k_comes : Comes (at_first (job two disabled)) (of_document set_k ∷ []) 1 1 [] with_k [] []
unfolding scene_of tree_order ancestors
set_k_comes =
    accepts_document (first (job two disabled)) set_k set_k_passes [] disabled_is [] [] (simp (get_pairs, get_set)) refl 0 (ends 2)

set_k_reports : Reports (at_first (job two disabled)) (of_document set_k ∷ []) 1 [] 0 0 (1 ∷ 2 ∷ [])
unfolding scene_of tree_order
set_k_reports =
    reports set_k_comes (first_reached two two_shape disabled) (tt, tt) refl 0 refl (1 ∷ 2 ∷ []) refl

abbrev enable : SheetEdit
enable = enable_sheet 1 true

enable_comes : Comes (restyled (edited_all (at_first (job two disabled)) (of_document set_k ∷ []))) (of_sheets enable ∷ []) 1 1 [] (with_sheet_edit with_k enable) (2 ∷ []) []
unfolding scene_of tree_order tokens_in rules_in style_rules_in layers_in layers_of_sheets layer_order declared declarations_in selectors_in value_in thousandths units table named_colors parts attribute_in
enable_comes = accepts_sheets (next set_k_comes) enable refl (2 ∷ []) refl [] refl 0 (ends 2)

enable_reports : Reports (restyled (edited_all (at_first (job two disabled)) (of_document set_k ∷ []))) (of_sheets enable ∷ []) 1 [] 1 1 (1 ∷ 2 ∷ [])
unfolding scene_of tree_order
enable_reports =
    reports enable_comes (batch-reached (at_first (job two disabled)) (of_document set_k ∷ []) (first_reached two two_shape disabled) (tt, tt)) (tt, tt) refl 1 refl (1 ∷ 2 ∷ []) refl
