use Rattle.std.proofs.Common.{◌≡◌, ap, arith, false, option_map, sym, true, ◌∙◌, ◌≤◌, ◌<◌, ◌+◌}
use Rattle.scene_model.proofs.Found.{parent_of-element}
use Rattle.scene_model.specs.Ancestors.{depth_of}
use Rattle.change_model.specs.ChildLists.{CanMove}
use Rattle.dom_edits.specs.EditView.{refusal_answered}
use Rattle.dom_edits.proofs.DepthLimits.{move_depth}
use Rattle.dom_edits.proofs.refusals.past_move.Goals as goal

pub depth-now-requires : goal.depth-now-requires
depth-now-requires c = parent_of-element c.args.doc.now.elements c.args.x c.args.from c.requires.hung

pub deepest_below-requires : goal.deepest_below-requires
deepest_below-requires c = parent_of-element c.args.doc.now.elements c.args.x c.args.from c.requires.hung

pub returns-then-deepest_below-later : goal.returns-then-deepest_below-later
returns-then-deepest_below-later c =
    let can : CanMove c.args.doc.now c.args.x c.args.from c.args.parent = record { sound = c.requires.sound; parent = c.requires.hung; there = c.requires.there; apart = c.requires.apart } in
    sym (ap (option_map refusal_answered) (move_depth can c.args.index c.deepest_below.result c.deepest_below.ensures.deepest false (λ e. absurd (cc)) (λ e. omega (arith, c.if-deepest_below-later.true, c.depth-now.ensures.depth, c.depth-later.ensures.depth))))

pub returns : goal.returns
returns c =
    let can : CanMove c.args.doc.now c.args.x c.args.from c.args.parent = record { sound = c.requires.sound; parent = c.requires.hung; there = c.requires.there; apart = c.requires.apart } in
    sym (ap (option_map refusal_answered) (move_depth can c.args.index c.deepest_below.result c.deepest_below.ensures.deepest true (λ e. omega (arith, c.if-deepest_below-later.false, c.depth-now.ensures.depth, c.depth-later.ensures.depth)) (λ e. absurd (cc))))
