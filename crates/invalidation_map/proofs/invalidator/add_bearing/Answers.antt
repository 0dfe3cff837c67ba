use Rattle.std.proofs.Common.{ℕ, ◌+◌, ◌<◌, ◌||◌, ◌&&◌, ◌∙◌, sym, subst, take, get_or}
use Rattle.selector_model.specs.Bears.{bears}
use Rattle.selector_types.specs.SimpleView.{key_seen}
use Rattle.scene_model.specs.Numbers.{is_in}
use Rattle.invalidation_map.specs.Members.{Members}
use Rattle.invalidation_map.specs.Marks.{IsGrown}
use Rattle.invalidation_map.proofs.StepLemmas.{each_get}
use Rattle.invalidation_map.proofs.GrowthLemmas.{member_added, member_passed}
use Rattle.invalidation_map.proofs.invalidator.add_bearing.Goals as goal
use Rattle.invalidation_map.proofs.invalidator.add_bearing.Goals.{then-bears_around, else-bears_around}

pub add-requires : goal.add-requires
add-requires c =
    subst (λ room. get_or c.args.from.now c.loop-x.x-index 0 < room) (sym c.loop-x.invariant.room)
    (c.requires.room _ (each_get _ _ _ c.requires.elements c.loop-x-test.true))

pub loop-x-preserved : goal.loop-x-preserved
loop-x-preserved c =
    let test = λ (x : ℕ). bears c.args.doc.now.elements (key_seen c.args.key.now) x || is_in x c.args.bearing.now in
    let all = λ (x : ℕ). test x && is_in x (take (c.loop-x.x-index + 1) c.args.from.now) in
    elim c.if-bears_around.branch [
      | then-bears_around w ↦ subst (λ (m : Members). IsGrown all c.args.marks.now m) (sym w.marks-is)
          (member_added test c.args.from.now c.loop-x.x-index c.args.marks.now c.loop-x.marks c.loop-x-test.true c.loop-x.invariant w.add.new.self
          (sym c.bears_around.ensures ∙ w.if-bears_around.true) w.add.ensures)
      | else-bears_around w ↦ subst (λ (m : Members). IsGrown all c.args.marks.now m) (sym w.marks-is)
          (member_passed test c.args.from.now c.loop-x.x-index c.args.marks.now c.loop-x.marks c.loop-x-test.true c.loop-x.invariant (sym c.bears_around.ensures ∙ w.if-bears_around.false))
    ]
