use Rattle.std.proofs.Common.{◌≡◌, ◌≤◌, ◌+◌, ◌-◌, ap, arith, None, length, nat_le, option_map, sym, ◌∙◌}
use Rattle.std.proofs.lemmas.Bool.{le-leb, lt-leb}
use Rattle.base_model.specs.Limits.{depth_limit, element_limit, number_limit}
use Rattle.scene_model.specs.Ancestors.{depth_of}
use Rattle.change_model.specs.ChildLists.{CanInsert}
use Rattle.edit_model.specs.Apply.{nodes_past}
use Rattle.dom_edits.specs.EditView.{refusal_answered, refused_by}
use Rattle.dom_edits.proofs.DepthLimits.{insertion_depth}
use Rattle.dom_edits.proofs.JudgeLemmas.{deep, not_deep, past_depth, past_elements, past_numbers}
use Rattle.dom_edits.proofs.refusals.past_insertion.Goals as goal

pub returns-then-count-len : goal.returns-then-count-len
returns-then-count-len c =
    let none : nodes_past c.args.nodes.now ≡ None = sym c.past_by_itself.ensures ∙ ap (option_map refused_by) c.in_default.is in
    sym (ap (option_map refusal_answered) (past_elements c.args.doc.now c.args.parent c.args.index c.args.nodes.now c.requires.shaped none (omega (arith, c.if-count-len.true, c.len.ensures.len, c.len.ensures.few, c.requires.count))))

pub returns-then-count-last : goal.returns-then-count-last
returns-then-count-last c =
    let none : nodes_past c.args.nodes.now ≡ None = sym c.past_by_itself.ensures ∙ ap (option_map refused_by) c.in_default.is in
    let few : length c.args.doc.now.elements + length c.args.nodes.now ≤ element_limit = omega (arith, c.if-count-len.false, c.len.ensures.len, c.len.ensures.few, c.requires.count) in
    sym (ap (option_map refusal_answered) (past_numbers c.args.doc.now c.args.parent c.args.index c.args.nodes.now c.requires.shaped none few (omega (arith, c.if-count-last.true, c.last.ensures.last, c.last.ensures.few, c.requires.count))))

pub returns-then-deepest-saturating_sub : goal.returns-then-deepest-saturating_sub
returns-then-deepest-saturating_sub c =
    let d = c.args.doc.now in
    let can : CanInsert d c.args.parent c.args.nodes.now = record { sound = c.requires.sound; there = c.requires.there; shape = c.requires.shaped } in
    let none : nodes_past c.args.nodes.now ≡ None = sym c.past_by_itself.ensures ∙ ap (option_map refused_by) c.in_default.is in
    let few : length d.elements + length c.args.nodes.now ≤ element_limit = omega (arith, c.if-count-len.false, c.len.ensures.len, c.len.ensures.few, c.requires.count) in
    let given : d.last + length c.args.nodes.now ≤ number_limit = omega (arith, c.if-count-last.false, c.last.ensures.last, c.last.ensures.few, c.requires.count) in
    let room : c.saturating_sub.result ≡ depth_limit - depth_of d.elements c.args.parent = c.saturating_sub.ensures ∙ ap (λ n. depth_limit - n) c.depth.ensures.depth in
    sym (ap (option_map refusal_answered) (past_depth d c.args.parent c.args.index c.args.nodes.now c.requires.shaped none few given ∙ (insertion_depth can c.args.index c.deepest.result c.deepest.ensures room ∙ deep (nat_le c.deepest.result c.saturating_sub.result) (lt-leb c.deepest.result c.saturating_sub.result c.if-deepest-saturating_sub.true))))

pub returns : goal.returns
returns c =
    let d = c.args.doc.now in
    let can : CanInsert d c.args.parent c.args.nodes.now = record { sound = c.requires.sound; there = c.requires.there; shape = c.requires.shaped } in
    let none : nodes_past c.args.nodes.now ≡ None = sym c.past_by_itself.ensures ∙ ap (option_map refused_by) c.in_default.is in
    let few : length d.elements + length c.args.nodes.now ≤ element_limit = omega (arith, c.if-count-len.false, c.len.ensures.len, c.len.ensures.few, c.requires.count) in
    let given : d.last + length c.args.nodes.now ≤ number_limit = omega (arith, c.if-count-last.false, c.last.ensures.last, c.last.ensures.few, c.requires.count) in
    let room : c.saturating_sub.result ≡ depth_limit - depth_of d.elements c.args.parent = c.saturating_sub.ensures ∙ ap (λ n. depth_limit - n) c.depth.ensures.depth in
    sym (ap (option_map refusal_answered) (past_depth d c.args.parent c.args.index c.args.nodes.now c.requires.shaped none few given ∙ (insertion_depth can c.args.index c.deepest.result c.deepest.ensures room ∙ not_deep (nat_le c.deepest.result c.saturating_sub.result) (le-leb c.deepest.result c.saturating_sub.result c.if-deepest-saturating_sub.false))))
