use Rattle.std.proofs.Common.{◌∙◌, ◌+◌, arith, false, true, refl, length, subst, sym, List, ℕ}
use Rattle.scene_model.specs.Nodes.{listed}
use Rattle.dom_tree.specs.SiblingPlaces.{AreSiblings}
use Rattle.dom_tree.proofs.Places.{at_some}
use Rattle.dom_tree.proofs.SettleLemmas.{next_settled, none_settled, index_settled, settled_to, type_settled}
use Rattle.dom_tree.proofs.sibling_places.SiblingPlaces.settle_all.Goals as goal

pub loop-index-init : goal.loop-index-init
loop-index-init c = record { tally = c.requires.tally; room = refl; index = none_settled _; before = none_settled _; after = none_settled _ }

pub settle-requires-clause-siblings : goal.settle-requires-clause-siblings
settle-requires-clause-siblings c =
    let are : ℕ → List ℕ → Type 0 = λ n. AreSiblings (length c.args.columns.now.nodes) (listed c.args.columns.now.nodes) c.args.columns.now.names n in
    let all = c.requires.siblings (c.loop-index.index + 1) (omega (arith, c.loop-index.auto.index)) (omega (arith, c.loop-index-test.true)) in
    subst (λ n. are n c.of.result.now) (sym c.loop-index.invariant.room) (at_some (are (length c.args.self.now.tally.items)) c.of.ensures.list all)

pub loop-index-preserved : goal.loop-index-preserved
loop-index-preserved c =
    let k = c.loop-index.index in
    record {
      tally = c.settle.ensures.tally;
      room = c.settle.ensures.room ∙ c.loop-index.invariant.room;
      index = next_settled _ c.loop-index.invariant.index c.loop-index.auto.index c.of.ensures.list c.settle.ensures.index (λ doc is. index_settled doc is (k + 1));
      before = next_settled _ c.loop-index.invariant.before c.loop-index.auto.index c.of.ensures.list c.settle.ensures.before (λ doc is. type_settled false doc is (k + 1));
      after = next_settled _ c.loop-index.invariant.after c.loop-index.auto.index c.of.ensures.list c.settle.ensures.after (λ doc is. type_settled true doc is (k + 1));
    }

pub returns-clause-index : goal.returns-clause-index
returns-clause-index c = settled_to c.loop-index.invariant.index (omega (arith, c.loop-index-test.false, c.loop-index.auto.index-end c.requires.order))

pub returns-clause-before : goal.returns-clause-before
returns-clause-before c = settled_to c.loop-index.invariant.before (omega (arith, c.loop-index-test.false, c.loop-index.auto.index-end c.requires.order))

pub returns-clause-after : goal.returns-clause-after
returns-clause-after c = settled_to c.loop-index.invariant.after (omega (arith, c.loop-index-test.false, c.loop-index.auto.index-end c.requires.order))
