use Rattle.std.proofs.Common.{arith}
use Rattle.dom_tree.proofs.PlaceLemmas.{sibling, sibling_within, after_told, all_counted, counted_down, tag_counted, written_on}
use Rattle.dom_tree.proofs.sibling_places.count_down.Goals as goal

pub overflow_sub-index : goal.overflow_sub-index
overflow_sub-index c = (sibling_within (sibling c.requires.once c.requires.siblings c.loop-sibling-test.true)).0

pub tag-requires : goal.tag-requires
tag-requires c =
    let within = sibling_within (sibling c.requires.once c.requires.siblings c.loop-sibling-test.true) in
    omega (arith, within.0, within.1)

pub overflow_sub-index_mut : goal.overflow_sub-index_mut
overflow_sub-index_mut c =
    let at = sibling c.requires.once c.requires.siblings c.loop-sibling-test.true in
    (counted_down at c.index-tag.ensures c.tag.ensures.within c.tag.ensures.text c.index_mut.ensures.value c.loop-sibling.invariant.tally).0

pub index_mut-requires : goal.index_mut-requires
index_mut-requires c =
    let l = tag_counted (sibling c.requires.once c.requires.siblings c.loop-sibling-test.true) c.index-tag.ensures c.tag.ensures.within c.tag.ensures.text in
    omega (arith, l, c.loop-sibling.invariant.tally.count, c.loop-sibling.tally.ok.0)

pub index-requires : goal.index-requires
index-requires c =
    let l = tag_counted (sibling c.requires.once c.requires.siblings c.loop-sibling-test.true) c.index-tag.ensures c.tag.ensures.within c.tag.ensures.text in
    omega (arith, l, c.loop-sibling.invariant.tally.count, c.loop-sibling.tally.ok.0)

pub index_mut-requires-in-loop-sibling : goal.index_mut-requires-in-loop-sibling
index_mut-requires-in-loop-sibling c =
    let within = sibling_within (sibling c.requires.once c.requires.siblings c.loop-sibling-test.true) in
    omega (arith, within.0, within.1, c.loop-sibling.invariant.written.count, c.requires.room, c.loop-sibling.after.ok.0)

pub loop-sibling-preserved : goal.loop-sibling-preserved
loop-sibling-preserved c =
    let at = sibling c.requires.once c.requires.siblings c.loop-sibling-test.true in
    let (fewer, tally) = counted_down at c.index-tag.ensures c.tag.ensures.within c.tag.ensures.text c.index_mut.ensures.value c.loop-sibling.invariant.tally in
    let told = after_told at c.index-tag.ensures c.tag.ensures.within c.tag.ensures.text c.index.ensures tally in
    record { tally = tally; written = written_on at c.loop-sibling.invariant.written c.requires.room told }

pub returns-clause-tally : goal.returns-clause-tally
returns-clause-tally c = all_counted c.args.siblings.now c.loop-sibling.invariant.tally c.loop-sibling-test.false
