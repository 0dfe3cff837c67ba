use Rattle.std.proofs.Common.{ℕ, ltb, rules, arith}
use Rattle.std.proofs.lemmas.Bool.{ltb-false, ltb-true}
use Rattle.std.proofs.lemmas.List.Sorted.{IsPartitionPoint-from_clause}
use Rattle.invalidation_map.specs.KeyBuckets.{bucket_of}
use Rattle.invalidation_map.proofs.BucketLemmas.{is_parted}
use Rattle.invalidation_map.proofs.key_index.start_of.Goals as goal

pub returns : goal.returns
returns c =
    let point = IsPartitionPoint-from_clause (λ (key : ℕ). ltb (bucket_of key) c.args.bucket) _ _ c.partition_point.ensures.partitioned
    (is_parted c.args.keys.now c.args.bucket c.requires) (λ a r q h. search rules) in
    record {
      within = c.partition_point.ensures.bound;
      before = λ i d l. ltb-true _ _ (point.0 i d (omega arith) l);
      rest = λ i d h l. ltb-false _ _ (point.1 i d h l);
    }
