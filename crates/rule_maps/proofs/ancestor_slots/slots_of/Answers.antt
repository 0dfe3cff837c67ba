use Rattle.std.proofs.Common.{ℕ, List, [], map, sym, ap, ◌∙◌, subst}
use Rattle.std.proofs.lemmas.List.{take-map}
use Rattle.ancestor_filter.specs.Names.{slot}
use Rattle.ancestor_model.specs.Above.{ancestor_names, looked_up, names_left}
use Rattle.selector_types.specs.ComplexView.{left_of}
use Rattle.selector_types.specs.View.{selector_of}
use Rattle.rule_maps.proofs.SlotLemmas.{SoFar, so_far_none, so_far_next, so_far_all}
use Rattle.rule_maps.proofs.NameLemmas.{slots_leftwards, no_names_leftwards}
use Rattle.rule_maps.proofs.ancestor_slots.slots_of.Goals as goal

pub loop-at-init : goal.loop-at-init
loop-at-init c =
    let all = map slot (ancestor_names (selector_of c.args.selector.now)) in
    subst (λ (left : List ℕ). SoFar c.new-found.result [] left all) (ap (λ s. map slot (ancestor_names s)) (sym c.complex-at.ensures))
    (so_far_none c.new-found.result [] all c.new-found.ensures)

pub loop-at-preserved : goal.loop-at-preserved
loop-at-preserved c =
    let left = left_of c.deref.result.now in
    so_far_next c.loop-at.found c.push_left.new.self [] (map slot (names_left left.combinator left.rest)) _ _ _
    (slots_leftwards c.loop-at.at.now c.in-Some.left c.deref.result.now c.deref-in-Some.result.now c.in-Some.is c.deref.ensures c.deref-in-Some.ensures)
    c.push_left.ensures c.loop-at.invariant

pub returns : goal.returns
returns c =
    let names = ancestor_names (selector_of c.args.selector.now) in
    c.slots.ensures
    ∙ (so_far_all c.loop-at.found [] (map slot names) _ (ap (map slot) (no_names_leftwards c.loop-at.at.now c.in_default.is)) c.loop-at.invariant
    ∙ take-map slot looked_up names)
