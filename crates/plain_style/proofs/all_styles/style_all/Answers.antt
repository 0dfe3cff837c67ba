use Rattle.std.proofs.Common.{◌≡◌, ◌<◌, ◌≤◌, ◌∙◌, get_or, length, map, subst, ap, sym, rules as the_rules}
use Rattle.std.specs.Arc.{arc_value}
use Rattle.scene_model.specs.Lookups.{IsElement}
use Rattle.scene_model.proofs.InOrder.{element_in_order}
use Rattle.cascade_model.specs.StyleOf.{style_of}
use Rattle.sheet_set.specs.View.{sources_seen}
use Rattle.plain_style.proofs.RootLemmas.{knows_root, no_styles, root_there}
use Rattle.plain_style.proofs.all_styles.style_all.Goals as goal

pub returns-in_default : goal.returns-in_default
returns-in_default c =
    let order = c.in_tree_order.result.now in
    let doc = c.args.doc.now.elements in
    let none : length order ≤ 0 = search the_rules in
    ap (map arc_value) c.new.ensures.items ∙ sym (no_styles doc order (style_of doc (sources_seen c.args.sheets.now)) c.in_tree_order.ensures.order none)

pub root-requires-clause-element : goal.root-requires-clause-element
root-requires-clause-element c =
    let order = c.in_tree_order.result.now in
    let doc = c.args.doc.now.elements in
    let some : 0 < length order = search the_rules in
    let first : c.in-Some.first.now ≡ get_or order 0 0 = search the_rules in
    subst (IsElement doc) (sym first) (element_in_order doc order 0 c.in_tree_order.ensures.order some)

pub root-requires-clause-ready : goal.root-requires-clause-ready
root-requires-clause-ready c = record { prepared = c.in_ok-prepared.ensures; follows = c.begin.ensures.follows c.args.doc.now }

pub styles_in_order-requires-clause-serves : goal.styles_in_order-requires-clause-serves
styles_in_order-requires-clause-serves c =
    let sources = sources_seen c.args.sheets.now in
    let size = c.in_ok-root.root.size in
    let prepared = c.in_ok-prepared.prepared in
    c.in_ok-root.ensures.serves size (c.begin.ensures.fits sources size prepared (c.in_ok-styler.ensures.fits sources size prepared c.in_ok-prepared.ensures))

pub styles_in_order-requires-clause-root : goal.styles_in_order-requires-clause-root
styles_in_order-requires-clause-root c =
    let order = c.in_tree_order.result.now in
    let doc = c.args.doc.now.elements in
    let first = c.in-Some.first.now in
    let some : 0 < length order = search the_rules in
    let is : first ≡ get_or order 0 0 = search the_rules in
    knows_root doc (sources_seen c.args.sheets.now) _ c.in_ok-root.root first c.in_tree_order.ensures.valid (root_there doc order first c.in_tree_order.ensures.order some is) c.in_ok-root.ensures.style c.in_ok-root.ensures.size
