use Rattle.std.proofs.Common.{rules, arith}
use Rattle.std.proofs.lemmas.List.Sorted.{IsNonDecreasingBy-from_sort_by_key, IsPermutation-refl}
use Rattle.dom_edits.specs.declared.touch.Touch.{Touch}
use Rattle.dom_edits.specs.TouchView.{touch_key, touch_seen}
use Rattle.dom_edits.proofs.touched.in_order.Goals as goal

pub returns-then-len-le-FEW : goal.returns-then-len-le-FEW
returns-then-len-le-FEW c = record {
  same = IsPermutation-refl c.args.touches.items;
  sorted = λ more. absurd (omega (arith, more, c.if-len-le-FEW.true, c.len.ensures));
}

pub returns-clause-sorted : goal.returns-clause-sorted
returns-clause-sorted c = λ more. IsNonDecreasingBy-from_sort_by_key (λ (touch : Touch). touch_key (touch_seen touch)) _ c.sort_unstable_by_key.ensures.sorted (λ a r q k. search rules)
