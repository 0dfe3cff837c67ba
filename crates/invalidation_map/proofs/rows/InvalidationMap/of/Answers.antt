use Rattle.std.proofs.Common.{List, ap, codes, flat_map, refl, rules, subst, sym, ◌∙◌}
use Rattle.std.specs.List.Sorted.{IsNonDecreasingBy, IsPermutation}
use Rattle.std.proofs.lemmas.List.{take_all}
use Rattle.std.proofs.lemmas.List.Sorted.{All-permutation, IsNonDecreasingBy-from_sort_by_key, IsPermutation-map}
use Rattle.stylo_base.proofs.TextLemmas.{chars-ascii}
use Rattle.edit_model.specs.Touched.{attribute}
use Rattle.selector_types.specs.View.{selectors_of}
use Rattle.invalidation_map.specs.Rows.{Row, rows_of}
use Rattle.invalidation_map.specs.SharedRows.{IsWithin, row_seen, rows_seen}
use Rattle.invalidation_map.specs.KeyBuckets.{spread}
use Rattle.invalidation_map.proofs.BucketLemmas.{keys_sorted}
use Rattle.invalidation_map.proofs.KeyLemmas.{key_at}
use Rattle.invalidation_map.proofs.rows.InvalidationMap.of.Goals as goal

pub of-requires : goal.of-requires
of-requires c =
    subst (IsNonDecreasingBy spread) (sym c.in_ok-keys_of.ensures)
    (keys_sorted spread key_at _
    (subst (IsNonDecreasingBy (λ row. spread (key_at row))) (sym c.deref-2.ensures.value)
    (IsNonDecreasingBy-from_sort_by_key (λ row. spread (key_at row)) _ c.in_ok-sort_by_key.ensures.sorted (λ a r q k. search rules))))

pub invariant_of-result-clause-within : goal.invariant_of-result-clause-within
invariant_of-result-clause-within c =
    All-permutation (IsWithin c.loop-selectors.gathered.shared) _ _ c.in_ok-sort_by_key.ensures.permutation c.loop-selectors.gathered.within

pub invariant_of-result-clause-styled : goal.invariant_of-result-clause-styled
invariant_of-result-clause-styled c = ap attribute (c.in_ok-of.ensures ∙ chars-ascii (codes "style") refl)

pub returns : goal.returns
returns c =
    subst (λ (l : List Row). IsPermutation l (rows_seen c.loop-selectors.gathered.shared c.sort_by_key.new.self.items))
    (c.loop-selectors.invariant ∙ ap (λ l. rows_of (flat_map (λ list. selectors_of list.items) l)) (take_all c.loop-selectors.selectors-index c.args.rules.now c.loop-selectors-test.false))
    (IsPermutation-map (row_seen c.loop-selectors.gathered.shared) _ _ c.in_ok-sort_by_key.ensures.permutation)
