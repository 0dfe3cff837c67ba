use Rattle.std.proofs.Common.{◌∙◌}
use Rattle.std.specs.Str.{chars}
use Rattle.rule_maps.proofs.HeadLemmas.{none_keyed}
use Rattle.rule_maps.proofs.table.Table.find.Goals as goal

pub returns-in-Err : goal.returns-in-Err
returns-in-Err c =
    let table = c.args.self.now in
    none_keyed table.pairs.items (chars c.args.name.now) table.heads.items table.rising c.args.key c.deref.result.now c.in-Err.field-0
    (c.deref.ensures.value ∙ table.keyed) c.requires c.in-Err.ensures.position
