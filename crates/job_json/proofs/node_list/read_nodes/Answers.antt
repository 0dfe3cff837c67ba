use Rattle.std.proofs.Common.{◌∙◌, sym, subst}
use Rattle.serde_json.specs.Find.{as_array}
use Rattle.json_reader.specs.Kept.{KeepsItems}
use Rattle.job_json.specs.Kept.{AreNodesOf, held_of}
use Rattle.job_json.proofs.Arrays.{is_array}
use Rattle.job_json.proofs.NodeListLaws.{nodes_all_read}
use Rattle.job_json.proofs.node_list.read_nodes.Goals as goal

pub returns-clause-ok : goal.returns-clause-ok
returns-clause-ok c =
    let s = c.array.new.kept in
    let done = c.in_ok-array.ensures.ok in
    let kept = is_array AreNodesOf s (as_array done.0) (subst (KeepsItems AreNodesOf s (as_array done.0)) c.if-not-branch.false done.2) in
    (done.0, done.1, nodes_all_read done.0 kept.0 s.bad (held_of s.kept) kept.1 kept.2 ∙ sym c.in_ok-finish.ensures)
