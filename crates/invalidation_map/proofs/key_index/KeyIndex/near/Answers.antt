use Rattle.std.proofs.Common.{ℕ, ◌<◌, ◌≤◌, List, get_or, length, leb, ltb, rules, sym, ap, subst, arith}
use Rattle.std.proofs.lemmas.Bool.{leb-false, ltb-true}
use Rattle.std.specs.List.Sorted.{IsNonDecreasingBy}
use Rattle.std.proofs.lemmas.List.Sorted.{IsPartitionPoint-from_clause}
use Rattle.invalidation_map.specs.KeyBuckets.{spread}
use Rattle.invalidation_map.proofs.BucketLemmas.{is_spread_below, is_spread_to, near_between}
use Rattle.invalidation_map.proofs.key_index.KeyIndex.near.Goals as goal

pub returns : goal.returns
returns c =
    let index = c.args.self.now in
    let place = c.spread-place.result in
    let first = IsPartitionPoint-from_clause (λ (key : ℕ). ltb (spread key) place) _ _ c.partition_point.ensures.partitioned
    (is_spread_below c.deref.result.now place (subst (IsNonDecreasingBy spread) (sym c.deref.ensures.value) index.sorted)) (λ a r q h. search rules) in
    let past = IsPartitionPoint-from_clause (λ (key : ℕ). leb (spread key) place) _ _ c.partition_point-2.ensures.partitioned
    (is_spread_to c.deref-2.result.now place (subst (IsNonDecreasingBy spread) (sym c.deref-2.ensures.value) index.sorted)) (λ a r q h. search rules) in
    near_between c.args.key index.keys.items c.partition_point.result c.partition_point-2.result
    (omega (arith, c.partition_point-2.ensures.bound, ap {B = ℕ} length c.deref-2.ensures.value))
    (subst (λ (list : List ℕ). (i d : ℕ) → i < length list → i < c.partition_point.result → spread (get_or list i d) < spread c.args.key) c.deref.ensures.value
    (λ i d l low. subst (λ (n : ℕ). spread (get_or c.deref.result.now i d) < n) c.spread-place.ensures (ltb-true _ _ (first.0 i d (omega arith) low))))
    (subst (λ (list : List ℕ). (i d : ℕ) → c.partition_point-2.result ≤ i → i < length list → spread c.args.key < spread (get_or list i d)) c.deref-2.ensures.value
    (λ i d high l. subst (λ (n : ℕ). n < spread (get_or c.deref-2.result.now i d)) c.spread-place.ensures (leb-false _ _ (past.1 i d high l))))
