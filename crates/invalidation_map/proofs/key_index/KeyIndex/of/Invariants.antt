use Rattle.std.proofs.Common.{◌≡◌, ℕ, ◌<◌, get_or, length}
use Rattle.invalidation_map.specs.KeyBuckets.{BeginsAt}
use Rattle.invalidation_map.proofs.key_index.KeyIndex.of.Given as goal

abbrev pub invariant-loop-bucket : goal.invariant-loop-bucket
invariant-loop-bucket l = record {
  count : length l.starts.items ≡ l.bucket;
  each : (b d : ℕ) → b < l.bucket → BeginsAt l.keys.items b (get_or l.starts.items b d);
}
