use Rattle.std.proofs.Common.{arith, refl, ◌∙◌}
use Rattle.scene_model.specs.Nodes.{listed}
use Rattle.dom_tree.proofs.PlaceLemmas.{sibling, sibling_within, index_told, tag_counted, before_told, counts_on, counted_up, none_tallied, none_written, written_on}
use Rattle.dom_tree.proofs.sibling_places.count_up.Goals as goal

pub loop-sibling-init : goal.loop-sibling-init
loop-sibling-init c = record { placed = refl; tally = none_tallied (listed c.args.columns.now.nodes) c.requires.tally; index = none_written _ _; before = none_written _ _ }

pub overflow_sub-index : goal.overflow_sub-index
overflow_sub-index c = (sibling_within (sibling c.requires.once c.requires.siblings c.loop-sibling-test.true)).0

pub tag-requires : goal.tag-requires
tag-requires c =
    let within = sibling_within (sibling c.requires.once c.requires.siblings c.loop-sibling-test.true) in
    omega (arith, within.0, within.1)

pub index_mut-requires : goal.index_mut-requires
index_mut-requires c =
    let within = sibling_within (sibling c.requires.once c.requires.siblings c.loop-sibling-test.true) in
    omega (arith, within.0, within.1, c.loop-sibling.invariant.index.count, c.requires.room, c.loop-sibling.places.ok.0)

pub index-requires : goal.index-requires
index-requires c =
    let l = tag_counted (sibling c.requires.once c.requires.siblings c.loop-sibling-test.true) c.index-tag.ensures c.tag.ensures.within c.tag.ensures.text in
    omega (arith, l, c.loop-sibling.invariant.tally.count, c.loop-sibling.tally.ok.0)

pub index_mut-requires-in-loop-sibling : goal.index_mut-requires-in-loop-sibling
index_mut-requires-in-loop-sibling c =
    let within = sibling_within (sibling c.requires.once c.requires.siblings c.loop-sibling-test.true) in
    omega (arith, within.0, within.1, c.loop-sibling.invariant.before.count, c.requires.room_before, c.loop-sibling.before.ok.0)

pub index_mut-requires-in-loop-sibling-2 : goal.index_mut-requires-in-loop-sibling-2
index_mut-requires-in-loop-sibling-2 c =
    let l = tag_counted (sibling c.requires.once c.requires.siblings c.loop-sibling-test.true) c.index-tag.ensures c.tag.ensures.within c.tag.ensures.text in
    omega (arith, l, c.loop-sibling.invariant.tally.count, c.loop-sibling.tally.ok.0)

pub overflow_add-index_mut : goal.overflow_add-index_mut
overflow_add-index_mut c =
    let at = sibling c.requires.once c.requires.siblings c.loop-sibling-test.true in
    let few = counts_on at c.index-tag.ensures c.tag.ensures.within c.tag.ensures.text c.index_mut-in-loop-sibling-2.ensures.value c.loop-sibling.invariant.tally in
    omega (arith, few, c.requires.few)

pub loop-sibling-preserved : goal.loop-sibling-preserved
loop-sibling-preserved c =
    let at = sibling c.requires.once c.requires.siblings c.loop-sibling-test.true in
    let told = before_told at c.index-tag.ensures c.tag.ensures.within c.tag.ensures.text c.index.ensures c.loop-sibling.invariant.tally in
    record {
      placed = omega (arith, c.loop-sibling.invariant.placed);
      tally = counted_up at c.index-tag.ensures c.tag.ensures.within c.tag.ensures.text c.index_mut-in-loop-sibling-2.ensures.value c.loop-sibling.invariant.tally;
      index = written_on at c.loop-sibling.invariant.index c.requires.room (c.loop-sibling.invariant.placed ∙ index_told at);
      before = written_on at c.loop-sibling.invariant.before c.requires.room_before told;
    }
