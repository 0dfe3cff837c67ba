use Rattle.std.proofs.Common.{rules, ltb, refl, sym, ◌∙◌, arith}
use Rattle.std.proofs.lemmas.List.Sorted.{IsPartitionPoint-from_clause}
use Rattle.dom_edits.specs.declared.touch.Touch.{Touch}
use Rattle.dom_edits.specs.TouchView.{touch_key, touch_seen}
use Rattle.dom_edits.proofs.TouchLemmas.{after_all, among-seen, before_all, met_among, near_among, none_left, parted}
use Rattle.dom_edits.proofs.touched.is_among_sorted.Goals as goal

pub returns-then-key : goal.returns-then-key
returns-then-key c =
    let list = c.args.touches.now in
    let k = touch_seen c.args.touch.now in
    let point = IsPartitionPoint-from_clause (λ (touch : Touch). ltb (touch_key (touch_seen touch)) c.key-key.result) _ _ c.partition_point-first.ensures.partitioned (parted list list c.key-key.result c.requires refl) (λ a r q h. search rules) in
    sym c.loop-other.invariant
    ∙ (near_among list _ c.partition_point-first.result c.loop-other.other-index k c.split_at.ensures.back
    (before_all list list c.partition_point-first.result c.key-key.result k refl c.partition_point-first.ensures.bound c.key-key.ensures (λ j d h. point.0 j d (omega arith) h))
    (after_all list _ c.partition_point-first.result c.loop-other.other-index c.key-key.result c.other-item.result k c.requires c.split_at.ensures.back c.other-item.is c.key-key.ensures (omega (arith, c.if-key.true, c.key.ensures)))
    ∙ sym (among-seen k list))

pub returns-then-is : goal.returns-then-is
returns-then-is c =
    let list = c.args.touches.now in
    let k = touch_seen c.args.touch.now in
    sym (among-seen k list ∙ met_among list _ c.partition_point-first.result c.loop-other.other-index c.other-item.result k c.split_at.ensures.back c.loop-other-test.true c.other-item.is (sym c.is.ensures ∙ c.if-is.true))

pub returns : goal.returns
returns c =
    let list = c.args.touches.now in
    let k = touch_seen c.args.touch.now in
    let point = IsPartitionPoint-from_clause (λ (touch : Touch). ltb (touch_key (touch_seen touch)) c.key-key.result) _ _ c.partition_point-first.ensures.partitioned (parted list list c.key-key.result c.requires refl) (λ a r q h. search rules) in
    sym c.loop-other.invariant
    ∙ (near_among list _ c.partition_point-first.result c.loop-other.other-index k c.split_at.ensures.back
    (before_all list list c.partition_point-first.result c.key-key.result k refl c.partition_point-first.ensures.bound c.key-key.ensures (λ j d h. point.0 j d (omega arith) h))
    (none_left _ c.loop-other.other-index k c.loop-other-test.false)
    ∙ sym (among-seen k list))
