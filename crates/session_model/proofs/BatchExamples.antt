-- What batches report: how many edits are accepted, how many elements are matched and cascaded, and the order then.
use lib.Utf8.{encode}
use Rattle.std.proofs.Common.{◌≡◌, ℕ, Bool, true, false, List, [], ◌∷◌, ◌||◌, ap, ◌∙◌, filter, Some, None, refl, arith}
use Rattle.std.specs.Prelude.{codes, pos}
use Rattle.std.specs.FinMap as maps
use Rattle.std.specs.FinMap.{gets}
use Rattle.base_model.specs.Text.{Characters}
use Rattle.base_model.specs.Origin.{author}
use Rattle.base_model.specs.Sheet.{Sheet}
use Rattle.scene_model.specs.Element.{Element, hover_state}
use Rattle.scene_model.specs.Lookups.{numbers}
use Rattle.scene_model.specs.Numbers.{is_in}
use Rattle.scene_model.specs.Ancestors.{ancestors}
use Rattle.scene_model.specs.Nodes.{Node, IsNodeList, scene_of, tree_order}
use Rattle.scene_model.specs.Document.{document_of}
use Rattle.scene_model.specs.Scene.{Scene, elements_of}
use Rattle.selector_model.specs.Selector.{descendant, next_sibling, later_sibling}
use Rattle.selector_model.specs.Selector.{type_selector, class_selector, nth, in_state}
use Rattle.selector_model.specs.Selector.{Selector, subject, combined, Compound, with_test, simple}
use Rattle.syntax_model.specs.SheetRules.{rules_in}
use Rattle.syntax_model.specs.TokensIn.{tokens_in}
use Rattle.sheet_model.specs.StyleRules.{style_rules_in}
use Rattle.sheet_model.specs.AnPlusB.{an_plus_b_in}
use Rattle.sheet_model.specs.SelectorsIn.{selectors_in}
use Rattle.sheet_model.specs.Sources.{rules_of_sheets}
use Rattle.edit_model.specs.Edit.{DocEdit, Edit, of_document, insert, remove, move, set, unset, set_state}
use Rattle.edit_model.specs.Refusal.{Refusal, bad_place, unknown_node}
use Rattle.edit_model.specs.Apply.{after, refusal}
use Rattle.edit_model.specs.Marked.{is_marked}
use Rattle.selector_model.proofs.AttributeCases.{no_attributes, get_pairs}
use Rattle.edit_model.proofs.ExampleCases.{get_set, get_unset, node, node_of, class_of, one, class_a}
use Rattle.edit_model.proofs.LimitCases.{values-none}
use Rattle.session_model.specs.Marking.{marking_selectors}
use Rattle.session_model.specs.Standing.{is_open, restyled}
use Rattle.session_model.specs.Batches.{RefusedEdit, edited_all}
use Rattle.session_model.proofs.BatchLemmas.{batch-reached}
use Rattle.session_model.proofs.BatchCases.{sheet, job, with_edit, Comes, ends, accepts_document, refuses, Reports, reports, at_first, first, first_reached, next, open_is}

abbrev class_is : Characters → Compound
class_is name = one (class_selector name)

-- a class that no selector asks for: `1 html; 2 p in 1`, `.a{color:red}`

abbrev two : List Node
two = node_of None (codes "html") [] ∷ node_of (Some 0) (codes "p") [] ∷ []

two_shape : IsNodeList two
two_shape = record { some = omega arith; parents = (refl, (omega arith, tt)) }

abbrev by_a : List Sheet
by_a = sheet 1 author (codes ".a{color:red}") ∷ []

by_a_is : marking_selectors by_a ≡ subject class_a ∷ []
unfolding rules_of_sheets style_rules_in rules_in tokens_in selectors_in
by_a_is = refl

abbrev other_class : DocEdit
other_class = set 2 (codes "class") (codes "zz")

other_class_passes : refusal (document_of two) other_class ≡ None
unfolding scene_of tree_order encode
other_class_passes = simp (no_attributes, gets)

other_class_comes : Comes (at_first (job two by_a)) (of_document other_class ∷ []) 1 1 [] (with_edit (job two by_a) other_class) [] []
unfolding scene_of tree_order ancestors
other_class_comes =
    accepts_document (first (job two by_a)) other_class other_class_passes (subject class_a ∷ []) by_a_is [] [] (simp (get_pairs, get_set)) refl 0 (ends 2)

other_class_reports : Reports (at_first (job two by_a)) (of_document other_class ∷ []) 1 [] 0 0 (1 ∷ 2 ∷ [])
unfolding scene_of tree_order
other_class_reports =
    reports other_class_comes (first_reached two two_shape by_a) (tt, tt) refl 0 refl (1 ∷ 2 ∷ []) refl

-- a sibling of an ancestor: `.a ~ .b .c{color:red}`

abbrev cousins : List Node
cousins =
    node_of None (codes "html") []
    ∷ node_of (Some 0) (codes "p") (class_of (codes "a"))
    ∷ node_of (Some 0) (codes "p") (class_of (codes "b"))
    ∷ node_of (Some 0) (codes "p") (class_of (codes "b"))
    ∷ node_of (Some 2) (codes "i") (class_of (codes "c"))
    ∷ node_of (Some 3) (codes "i") (class_of (codes "c"))
    ∷ []

cousins_shape : IsNodeList cousins
cousins_shape = record {
  some = omega arith;
  parents = (refl, (omega arith, (omega arith, (omega arith, (omega arith, (omega arith, tt))))));
}

abbrev by_later : List Sheet
by_later = sheet 1 author (codes ".a ~ .b .c{color:red}") ∷ []

abbrev later : List Selector
later =
    combined (class_is (codes "c")) descendant (combined (class_is (codes "b")) later_sibling (subject class_a)) ∷ []

by_later_is : marking_selectors by_later ≡ later
unfolding rules_of_sheets style_rules_in rules_in tokens_in selectors_in
by_later_is = refl

abbrev no_class : DocEdit
no_class = unset 2 (codes "class")

later_comes : Comes (at_first (job cousins by_later)) (of_document no_class ∷ []) 1 1 [] (with_edit (job cousins by_later) no_class) (5 ∷ 6 ∷ []) []
unfolding scene_of tree_order ancestors
later_comes =
    accepts_document (first (job cousins by_later)) no_class refl later by_later_is (5 ∷ 6 ∷ []) [] (simp (get_pairs, get_unset)) refl 0 (ends 2)

later_reports : Reports (at_first (job cousins by_later)) (of_document no_class ∷ []) 1 [] 2 2 (1 ∷ 2 ∷ 3 ∷ 5 ∷ 4 ∷ 6 ∷ [])
unfolding scene_of tree_order
later_reports =
    reports later_comes (first_reached cousins cousins_shape by_later) (tt, tt) refl 2 refl (1 ∷ 2 ∷ 3 ∷ 5 ∷ 4 ∷ 6 ∷ []) refl

-- before the restyle the style of 5 is not known, that of 2 is
open_then : (is_open (edited_all (at_first (job cousins by_later)) (of_document no_class ∷ [])) 5 ≡ true) × (is_open (edited_all (at_first (job cousins by_later)) (of_document no_class ∷ [])) 2 ≡ false)
unfolding scene_of tree_order ancestors
open_then = (open_is later_comes.stands 5 true refl, open_is later_comes.stands 2 false refl)

-- places: `1 html; 2 p in 1; 3 p in 1; 4 p in 1`

abbrev four : List Node
four =
    node_of None (codes "html") []
    ∷ node_of (Some 0) (codes "p") []
    ∷ node_of (Some 0) (codes "p") []
    ∷ node_of (Some 0) (codes "p") []
    ∷ []

four_shape : IsNodeList four
four_shape = record {
  some = omega arith;
  parents = (refl, (omega arith, (omega arith, (omega arith, tt))));
}

abbrev by_place : List Sheet
by_place = sheet 1 author (codes ":nth-last-child(2n+1){width:1px} :first-child{height:2px}") ∷ []

abbrev index_is : ℕ → ℕ → Bool → Selector
index_is a b from_last =
    subject (one (nth record { formula = record { a = pos a; b = pos b }; from_last = from_last; of_type = false }))

abbrev places : List Selector
places = index_is 2 1 true ∷ index_is 0 1 false ∷ []

by_place_is : marking_selectors by_place ≡ places
unfolding rules_of_sheets style_rules_in rules_in tokens_in selectors_in an_plus_b_in
by_place_is = refl

abbrev put_first : DocEdit
put_first = insert 1 0 (node_of None (codes "q") [] ∷ [])

put_first_passes : refusal (document_of four) put_first ≡ None
unfolding scene_of tree_order ancestors
put_first_passes = rw (no_attributes, maps.len-empty, values-none) refl

put_first_comes : Comes (at_first (job four by_place)) (of_document put_first ∷ []) 1 1 [] (with_edit (job four by_place) put_first) (5 ∷ 2 ∷ 3 ∷ 4 ∷ []) (5 ∷ [])
unfolding scene_of tree_order ancestors
put_first_comes =
    accepts_document (first (job four by_place)) put_first put_first_passes places by_place_is (5 ∷ 2 ∷ 3 ∷ 4 ∷ []) (5 ∷ []) (simp get_pairs) refl 0 (ends 2)

put_first_reports : Reports (at_first (job four by_place)) (of_document put_first ∷ []) 1 [] 4 4 (1 ∷ 5 ∷ 2 ∷ 3 ∷ 4 ∷ [])
unfolding scene_of tree_order
put_first_reports =
    reports put_first_comes (first_reached four four_shape by_place) (record { some = omega arith; parents = (refl, tt) }, tt) refl 4 refl (1 ∷ 5 ∷ 2 ∷ 3 ∷ 4 ∷ []) refl

-- three edits: `.a + .b{color:red}` over `1 html; 2 p in 1 class=a; 3 i in 1 class=b`

abbrev couple : List Node
couple =
    node_of None (codes "html") []
    ∷ node_of (Some 0) (codes "p") (class_of (codes "a"))
    ∷ node_of (Some 0) (codes "i") (class_of (codes "b"))
    ∷ []

couple_shape : IsNodeList couple
couple_shape = record { some = omega arith; parents = (refl, (omega arith, (omega arith, tt))) }

abbrev by_next : List Sheet
by_next = sheet 1 author (codes ".a + .b{color:red}") ∷ []

abbrev next_to : List Selector
next_to = combined (class_is (codes "b")) next_sibling (subject class_a) ∷ []

by_next_is : marking_selectors by_next ≡ next_to
unfolding rules_of_sheets style_rules_in rules_in tokens_in selectors_in
by_next_is = refl

abbrev between : DocEdit
between = insert 1 1 (node_of None (codes "z") [] ∷ [])

abbrev scene_1 : Scene
scene_1 = with_edit (job couple by_next) no_class

abbrev scene_2 : Scene
scene_2 = with_edit scene_1 between

abbrev three_edits : List Edit
three_edits = of_document no_class ∷ of_document between ∷ of_document (remove 2) ∷ []

between_passes : refusal scene_1.document between ≡ None
unfolding scene_of tree_order ancestors
between_passes = rw (no_attributes, maps.len-empty, values-none) refl

three_come : Comes (at_first (job couple by_next)) three_edits 1 3 [] (with_edit scene_2 (remove 2)) (3 ∷ []) (4 ∷ [])
unfolding scene_of tree_order ancestors
three_come =
    accepts_document (first (job couple by_next)) no_class refl next_to by_next_is (3 ∷ []) [] (simp (get_pairs, get_unset)) refl 2 (λ st_1.
    accepts_document st_1 between between_passes next_to by_next_is (3 ∷ []) (4 ∷ []) (simp (get_pairs, get_unset)) refl 1 (λ st_2.
    accepts_document st_2 (remove 2) refl next_to by_next_is (3 ∷ []) (4 ∷ []) (simp (get_pairs, get_unset)) refl 0 (ends 4)))

three_report : Reports (at_first (job couple by_next)) three_edits 3 [] 2 2 (1 ∷ 4 ∷ 3 ∷ [])
unfolding scene_of tree_order ancestors
three_report =
    reports three_come (first_reached couple couple_shape by_next) (tt, (record { some = omega arith; parents = (refl, tt) }, (tt, tt))) refl 2 refl (1 ∷ 4 ∷ 3 ∷ []) refl

-- three refused ones: `1 html; 2 p in 1; 3 i in 2`, no sheet

abbrev three : List Node
three = node_of None (codes "html") [] ∷ node_of (Some 0) (codes "p") [] ∷ node_of (Some 1) (codes "i") [] ∷ []

three_shape : IsNodeList three
three_shape = record { some = omega arith; parents = (refl, (omega arith, (omega arith, tt))) }

abbrev put_past : DocEdit
put_past = insert 1 2 (node_of None (codes "b") [] ∷ [])

abbrev three_refused : List Edit
three_refused = of_document (move 2 3 0) ∷ of_document put_past ∷ of_document (remove 99) ∷ []

abbrev at_place : ℕ → Refusal → RefusedEdit
at_place place why = record { place = place; why = why }

refused_come : Comes (at_first (job three [])) three_refused 1 0 (at_place 1 bad_place ∷ at_place 2 bad_place ∷ at_place 3 (unknown_node 99) ∷ []) (job three []) [] []
unfolding scene_of tree_order ancestors
refused_come =
    refuses (first (job three [])) (of_document (move 2 3 0)) bad_place refl 0 (λ st_1.
    refuses st_1 (of_document put_past) bad_place refl 0 (λ st_2.
    refuses st_2 (of_document (remove 99)) (unknown_node 99) refl 0 (ends 4)))

refused_report : Reports (at_first (job three [])) three_refused 0 (at_place 1 bad_place ∷ at_place 2 bad_place ∷ at_place 3 (unknown_node 99) ∷ []) 0 0 (1 ∷ 2 ∷ 3 ∷ [])
unfolding scene_of tree_order ancestors
refused_report =
    reports refused_come (first_reached three three_shape []) (tt, (record { some = omega arith; parents = (refl, tt) }, (tt, tt))) refl 0 refl (1 ∷ 2 ∷ 3 ∷ []) refl

-- a state above, and the same once more with an edit of an element that is not there

abbrev by_hover : List Sheet
by_hover = sheet 1 author (codes "p:hover i{color:red}") ∷ []

abbrev in_hovered : List Selector
in_hovered =
    combined (one (type_selector (codes "i"))) descendant (subject (with_test (simple (type_selector (codes "p"))) (one (in_state hover_state)))) ∷ []

by_hover_is : marking_selectors by_hover ≡ in_hovered
unfolding rules_of_sheets style_rules_in rules_in tokens_in selectors_in
by_hover_is = refl

abbrev hovers : DocEdit
hovers = set_state 2 hover_state true

abbrev once : List Edit
once = of_document hovers ∷ []

abbrev again : List Edit
again = of_document hovers ∷ of_document (set 7 (codes "k") (codes "x")) ∷ []

abbrev hovered : Scene
hovered = with_edit (job three by_hover) hovers

once_comes : Comes (at_first (job three by_hover)) once 1 1 [] hovered (3 ∷ []) []
unfolding scene_of tree_order ancestors
once_comes =
    accepts_document (first (job three by_hover)) hovers refl in_hovered by_hover_is (3 ∷ []) [] (simp get_pairs) refl 0 (ends 2)

once_reports : Reports (at_first (job three by_hover)) once 1 [] 1 1 (1 ∷ 2 ∷ 3 ∷ [])
unfolding scene_of tree_order ancestors
once_reports =
    reports once_comes (first_reached three three_shape by_hover) (tt, tt) refl 1 refl (1 ∷ 2 ∷ 3 ∷ []) refl

again_comes : Comes (restyled (edited_all (at_first (job three by_hover)) once)) again 1 1 (at_place 2 (unknown_node 7) ∷ []) (with_edit hovered hovers) [] []
unfolding scene_of tree_order ancestors
again_comes =
    accepts_document (next once_comes) hovers refl in_hovered by_hover_is [] [] (simp get_pairs) refl 0 (λ st_1.
    refuses st_1 (of_document (set 7 (codes "k") (codes "x"))) (unknown_node 7) refl 0 (ends 3))

again_reports : Reports (restyled (edited_all (at_first (job three by_hover)) once)) again 1 (at_place 2 (unknown_node 7) ∷ []) 0 0 (1 ∷ 2 ∷ 3 ∷ [])
unfolding scene_of tree_order ancestors
again_reports =
    reports again_comes (batch-reached (at_first (job three by_hover)) once (first_reached three three_shape by_hover) (tt, tt)) (tt, (tt, tt)) refl 0 refl (1 ∷ 2 ∷ 3 ∷ []) refl

-- a move and the same move again: `1 html; 2 p in 1 class=a; 3 i in 1; 4 b in 1`

abbrev trio : List Node
trio =
    node_of None (codes "html") []
    ∷ node_of (Some 0) (codes "p") (class_of (codes "a"))
    ∷ node_of (Some 0) (codes "i") []
    ∷ node_of (Some 0) (codes "b") []
    ∷ []

trio_shape : IsNodeList trio
trio_shape = record {
  some = omega arith;
  parents = (refl, (omega arith, (omega arith, (omega arith, tt))));
}

abbrev by_beside : List Sheet
by_beside = sheet 1 author (codes ".a + i{color:red} b{clear:both}") ∷ []

abbrev beside_a : List Selector
beside_a =
    combined (one (type_selector (codes "i"))) next_sibling (subject class_a) ∷ subject (one (type_selector (codes "b"))) ∷ []

by_beside_is : marking_selectors by_beside ≡ beside_a
unfolding rules_of_sheets style_rules_in rules_in tokens_in selectors_in
by_beside_is = refl

abbrev one_move : List Edit
one_move = of_document (move 4 1 1) ∷ []

abbrev turned : Scene
turned = with_edit (job trio by_beside) (move 4 1 1)

move_comes : Comes (at_first (job trio by_beside)) one_move 1 1 [] turned (3 ∷ []) (4 ∷ [])
unfolding scene_of tree_order ancestors
move_comes =
    accepts_document (first (job trio by_beside)) (move 4 1 1) refl beside_a by_beside_is (3 ∷ []) (4 ∷ []) (simp get_pairs) refl 0 (ends 2)

move_reports : Reports (at_first (job trio by_beside)) one_move 1 [] 2 2 (1 ∷ 2 ∷ 4 ∷ 3 ∷ [])
unfolding scene_of tree_order ancestors
move_reports =
    reports move_comes (first_reached trio trio_shape by_beside) (tt, tt) refl 2 refl (1 ∷ 2 ∷ 4 ∷ 3 ∷ []) refl

-- the document after the move, and after it once more
abbrev trio_turned : List Element
trio_turned =
    node 1 None (codes "html") []
    ∷ node 2 (Some 1) (codes "p") (class_of (codes "a"))
    ∷ node 4 (Some 1) (codes "b") []
    ∷ node 3 (Some 1) (codes "i") []
    ∷ []

turned_is : (elements_of turned ≡ trio_turned) × ((after turned.document (move 4 1 1)).elements ≡ trio_turned)
unfolding scene_of tree_order ancestors
turned_is = (refl, refl)

nothing_marked : filter (λ x. is_in x [] || is_marked trio_turned trio_turned beside_a x) (numbers trio_turned) ≡ []
nothing_marked = simp get_pairs

marks_between : (a b c : List Element) → a ≡ c → b ≡ c → filter (λ x. is_in x [] || is_marked c c beside_a x) (numbers c) ≡ [] → filter (λ x. is_in x [] || is_marked a b beside_a x) (numbers b) ≡ []
marks_between a b c h k m =
    ap (λ l. filter (λ x. is_in x [] || is_marked l b beside_a x) (numbers b)) h
    ∙ (ap (λ l. filter (λ x. is_in x [] || is_marked c l beside_a x) (numbers l)) k ∙ m)

same_move_comes : Comes (restyled (edited_all (at_first (job trio by_beside)) one_move)) one_move 1 1 [] (with_edit turned (move 4 1 1)) [] []
unfolding scene_of tree_order ancestors
same_move_comes =
    accepts_document (next move_comes) (move 4 1 1) refl beside_a by_beside_is [] [] (marks_between (elements_of turned) (after turned.document (move 4 1 1)).elements trio_turned turned_is.0 turned_is.1 nothing_marked) refl 0 (ends 2)

same_move_reports : Reports (restyled (edited_all (at_first (job trio by_beside)) one_move)) one_move 1 [] 0 0 (1 ∷ 2 ∷ 4 ∷ 3 ∷ [])
unfolding scene_of tree_order ancestors
same_move_reports =
    reports same_move_comes (batch-reached (at_first (job trio by_beside)) one_move (first_reached trio trio_shape by_beside) (tt, tt)) (tt, tt) refl 0 refl (1 ∷ 2 ∷ 4 ∷ 3 ∷ []) refl
