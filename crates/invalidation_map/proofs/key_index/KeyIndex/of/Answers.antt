use Rattle.std.proofs.Common.{ℕ, List, arith, length, length-append, [], ◌∷◌, sym, ap, subst}
use Rattle.std.specs.List.Sorted.{IsNonDecreasingBy}
use Rattle.invalidation_map.specs.KeyBuckets.{BeginsAt, bucket_of}
use Rattle.invalidation_map.proofs.BucketLemmas.{begun_more, buckets_sorted}
use Rattle.invalidation_map.proofs.key_index.KeyIndex.of.Goals as goal

pub loop-bucket-preserved : goal.loop-bucket-preserved
loop-bucket-preserved c = record {
  count = omega (arith, ap length c.in_ok-push.ensures.items, length-append c.loop-bucket.starts.items (c.start_of.result ∷ []), c.loop-bucket.invariant.count);
  each = begun_more c.args.keys.items c.loop-bucket.starts.items c.push.new.self.items c.loop-bucket.bucket c.start_of.result c.loop-bucket.invariant.count
      c.in_ok-push.ensures.items (subst (λ (list : List ℕ). BeginsAt list c.loop-bucket.bucket c.start_of.result) c.deref.ensures.value c.start_of.ensures) c.loop-bucket.invariant.each;
}

pub start_of-requires : goal.start_of-requires
start_of-requires c = subst (IsNonDecreasingBy bucket_of) (sym c.deref.ensures.value) (buckets_sorted c.args.keys.items c.requires)

pub invariant_of-result : goal.invariant_of-result
invariant_of-result c = record {
  sorted = c.requires;
  begun = record {
    count = omega (arith, c.loop-bucket.invariant.count, c.loop-bucket-test.false, c.loop-bucket.auto.bucket-end);
    each = λ b d l. c.loop-bucket.invariant.each b d (omega (arith, l, c.loop-bucket-test.false));
  };
}
