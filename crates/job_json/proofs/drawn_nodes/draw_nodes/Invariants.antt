use Rattle.std.proofs.Common.{◌≡◌, ◌≤◌, ◌-◌, length}
use Rattle.job_json.specs.Gen.{drawn_node, drawn_nodes}
use Rattle.job_json.proofs.DrawLaws.{IsDrawn}
use Rattle.job_json.proofs.drawn_nodes.draw_nodes.Given as goal

abbrev pub invariant-loop-index : goal.invariant-loop-index
invariant-loop-index l = record {
  low : 1 ≤ l.index;
  most : l.index ≤ l.nodes;
  next : length l.list ≡ l.index;
  drawn : IsDrawn drawn_node (l.nodes - l.index) l.index l.list l.rng (drawn_nodes l.nodes l.fn.rng);
}
