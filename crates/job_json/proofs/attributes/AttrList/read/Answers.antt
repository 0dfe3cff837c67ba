use Rattle.std.proofs.Common.{sym, subst, Some}
use Rattle.std.specs.Prelude.{IfSome}
use Rattle.job_json.specs.NewNodes.{TellsLimits}
use Rattle.job_json.proofs.TellLaws.{tells_slots}
use Rattle.job_json.proofs.attributes.AttrList.read.Goals as goal

pub returns-in_ok-judge-clause-limits : goal.returns-in_ok-judge-clause-limits
returns-in_ok-judge-clause-limits c =
    let done = c.in_ok-object.ensures.ok in
    subst (λ o. IfSome o (λ read. TellsLimits (Some read.0))) (sym done.1) (tells_slots c.object.new.kept done.0 _ done.2)

pub returns-else-branch-clause-limits : goal.returns-else-branch-clause-limits
returns-else-branch-clause-limits c =
    let done = c.in_ok-object.ensures.ok in
    subst (λ o. IfSome o (λ read. TellsLimits (Some read.0))) (sym done.1) (tells_slots c.object.new.kept done.0 _ done.2)
