use Rattle.std.proofs.Common.{◌+◌, ap, ◌∙◌}
use Rattle.invalidation_map.proofs.EditLemmas.{room_after, same_tags}
use Rattle.invalidation_map.proofs.edit_marks.last_after.Goals as goal

pub returns : goal.returns
returns c after accepts = record {
  room = room_after c.args.before.now after c.args.edit.now _ c.last-last.ensures.sound c.new_count-more.ensures.shaped
      (ap (λ n. n + c.new_count-more.result) c.last-last.ensures.last ∙ ap (λ n. c.args.before.now.last + n) c.new_count-more.ensures.count) accepts;
  tags = same_tags c.args.before.now after c.args.edit.now c.last-last.ensures.sound c.new_count-more.ensures.shaped accepts;
}
