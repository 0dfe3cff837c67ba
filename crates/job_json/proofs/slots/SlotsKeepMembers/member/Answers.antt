use Rattle.std.proofs.Common.{sym, ◌∙◌}
use Rattle.job_json.proofs.SlotLaws.{slot_added}
use Rattle.job_json.proofs.slots.SlotsKeepMembers.member.Goals as goal

pub returns-clause-ok : goal.returns-clause-ok
returns-clause-ok c =
    let done = c.in_ok-value.ensures.ok in
    let made = c.of.ensures in (
      done.0,
      done.1,
      λ ms kept. slot_added c.args.self.now c.add.new.self c.of.result c.args.key.now done.0 ms kept made.name (made.value ∙ sym done.2) made.texts c.in_ok-add.ensures,
    )
