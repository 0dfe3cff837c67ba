use Rattle.invalidation_map.proofs.BucketLemmas.{map_more}
use Rattle.invalidation_map.proofs.KeyLemmas.{key_at}
use Rattle.invalidation_map.proofs.gather.keys_of.Goals as goal

pub loop-row-preserved : goal.loop-row-preserved
loop-row-preserved c =
    map_more key_at c.args.rows.now c.loop-row.row-index c.row-item.result c.key.result c.loop-row.keys.items c.push.new.self.items c.loop-row-test.true c.row-item.is
    c.key.ensures c.in_ok-push.ensures.items c.loop-row.invariant
