use Rattle.std.proofs.Common.{sym, ap, ◌∙◌, subst}
use Rattle.std.specs.List.{AllByRecursion}
use Rattle.scene_model.specs.Document.{Document}
use Rattle.scene_model.specs.Lookups.{IsElement, numbers}
use Rattle.scene_model.specs.Scene.{elements_of}
use Rattle.session_model.proofs.FlagLemmas.{each_number}
use Rattle.style_cli.proofs.CountLemmas.{each-at}
use Rattle.style_cli.proofs.counting.elements_len.Goals as goal

pub line_len-requires-clause-element : goal.line_len-requires-clause-element
line_len-requires-clause-element c =
    let els = elements_of c.args.session.now.scene in
    let items = c.in_tree_order-number-items.result.now in
    let order = c.in_tree_order-number-items.ensures.order ∙ ap (λ (d : Document). numbers d.elements) c.doc.ensures in
    let all = subst (AllByRecursion (IsElement els)) (sym order) (each_number els) in
    each-at (IsElement els) items c.loop-number.number-index _ c.loop-number-test.true all
