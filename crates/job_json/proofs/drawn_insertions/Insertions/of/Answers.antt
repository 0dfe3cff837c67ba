use Rattle.std.proofs.Common.{arith}
use Rattle.job_json.proofs.InsertionLemmas.{insertions-set}
use Rattle.job_json.proofs.drawn_insertions.Insertions.of.Goals as goal

pub invariant_of-self : goal.invariant_of-self
invariant_of-self c =
    insertions-set c.self.inside.made.items c.args.tag c.args.class c.in_ok-nodes.nodes c.requires.class (omega (arith, c.requires.tag, c.requires.class, c.self.invariant.room)) c.in_ok-nodes.ensures c.self.invariant
