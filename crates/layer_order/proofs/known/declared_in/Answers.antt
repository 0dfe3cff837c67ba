use Rattle.std.proofs.Common.{sym, ◌∙◌, ap}
use Rattle.layer_order.specs.View.{origin_of}
use Rattle.layer_order.proofs.KnownLemmas.{more_declared, none_declared, nothing_declared}
use Rattle.layer_order.proofs.known.declared_in.Goals as goal
use Rattle.layer_order.proofs.known.declared_in.Goals.{then-rank+in_ok-add, else-rank}

pub loop-from-init : goal.loop-from-init
loop-from-init c = c.new-known.ensures.empty ∙ sym nothing_declared

pub loop-from-preserved : goal.loop-from-preserved
loop-from-preserved c =
    let o = origin_of c.args.origin in
    let list = c.args.list.now in
    let i = c.loop-from.from-index in
    elim c.if-rank.branch [
      | then-rank+in_ok-add w ↦ more_declared o list i c.loop-from-item.result c.loop-from-test.true c.loop-from-item.is (sym c.rank.ensures ∙ (w.if-rank.true ∙ c.rank-in-loop-from.ensures)) c.loop-from.known.keys c.if-rank.known.keys c.loop-from.invariant (ap (λ k. k.keys) w.known-is ∙ w.in_ok-add.ensures)
      | else-rank w ↦ ap (λ k. k.keys) w.known-is ∙ none_declared o list i c.loop-from-item.result c.loop-from-test.true c.loop-from-item.is (λ e. w.if-rank.false (c.rank.ensures ∙ (e ∙ sym c.rank-in-loop-from.ensures))) c.loop-from.known.keys c.loop-from.invariant
    ]
