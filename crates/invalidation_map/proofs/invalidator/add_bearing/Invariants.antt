use Rattle.std.proofs.Common.{take, ◌||◌, ◌&&◌}
use Rattle.selector_model.specs.Bears.{bears}
use Rattle.selector_types.specs.SimpleView.{key_seen}
use Rattle.scene_model.specs.Numbers.{is_in}
use Rattle.invalidation_map.specs.Marks.{IsGrown}
use Rattle.invalidation_map.proofs.invalidator.add_bearing.Given as goal

abbrev pub invariant-loop-x : goal.invariant-loop-x
invariant-loop-x l =
    IsGrown (λ x. (bears l.doc.elements (key_seen l.key) x || is_in x l.bearing) && is_in x (take l.x-index l.from)) l.initial.marks l.marks
