use Rattle.std.proofs.Common.{sym, subst}
use Rattle.std.specs.Prelude.{IfSome, codes}
use Rattle.serde_json.specs.Find.{get}
use Rattle.job_json.specs.NewNodes.{TellsLimits}
use Rattle.job_json.proofs.TellLaws.{tells_node}
use Rattle.job_json.proofs.node.NodeParts.read.Goals as goal

pub returns-clause-limits : goal.returns-clause-limits
returns-clause-limits c =
    let done = c.in_ok-self.ensures.ok in
    subst (λ o. IfSome o (λ read. TellsLimits (get (codes "attrs") read.0))) (sym done.1) (tells_node _ done.0 _ done.2)
