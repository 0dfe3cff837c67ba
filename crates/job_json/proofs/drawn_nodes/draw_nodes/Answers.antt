use Rattle.std.proofs.Common.{ap, ◌∙◌, ◌+◌, ◌∷◌, [], length, length-append, refl, arith}
use Rattle.job_json.specs.Gen.{drawn_node, drawn_nodes}
use Rattle.job_json.proofs.DrawLaws.{drawn_push, drawn_whole}
use Rattle.job_json.proofs.drawn_nodes.draw_nodes.Goals as goal

pub loop-index-preserved : goal.loop-index-preserved
loop-index-preserved c =
    let node = (drawn_node c.loop-index.index c.loop-index.rng).0 in
    record {
      low = omega arith;
      most = omega arith;
      next = ap length c.in_ok-draw_node.ensures.node ∙ (length-append c.loop-index.list (node ∷ []) ∙ ap (λ n. n + 1) c.loop-index.invariant.next);
      drawn = drawn_push drawn_node c.args.nodes c.loop-index.index c.loop-index.list c.loop-index.rng (drawn_nodes c.args.nodes c.args.rng.now) node c.draw_node.new.list c.draw_node.new.rng (omega arith) c.loop-index.invariant.drawn c.in_ok-draw_node.ensures.node refl c.in_ok-draw_node.ensures.state;
    }

pub returns-clause-list : goal.returns-clause-list
returns-clause-list c =
    (drawn_whole drawn_node c.args.nodes c.loop-index.index c.loop-index.list c.loop-index.rng (drawn_nodes c.args.nodes c.args.rng.now) (omega arith) c.loop-index.invariant.drawn).0

pub returns-clause-state : goal.returns-clause-state
returns-clause-state c =
    (drawn_whole drawn_node c.args.nodes c.loop-index.index c.loop-index.list c.loop-index.rng (drawn_nodes c.args.nodes c.args.rng.now) (omega arith) c.loop-index.invariant.drawn).1
