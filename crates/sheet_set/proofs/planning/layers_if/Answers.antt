use Rattle.std.proofs.Common.{sym, ◌∙◌}
use Rattle.edit_model.specs.SheetApply.{with_enabled}
use Rattle.sheet_set.specs.Kept.{kept_seen}
use Rattle.sheet_set.proofs.LayersAround.{declared-off, declared-on}
use Rattle.sheet_set.proofs.planning.layers_if.Goals as goal

pub returns-then-on : goal.returns-then-on
returns-then-on c =
    c.layers.ensures ∙ sym (declared-on (with_enabled c.args.on (kept_seen c.args.sheet.now)) c.if-on.true)

pub returns-else-on : goal.returns-else-on
returns-else-on c = sym (declared-off (with_enabled c.args.on (kept_seen c.args.sheet.now)) c.if-on.false)
