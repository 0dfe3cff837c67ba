use Rattle.std.proofs.Common.{sym, ◌∙◌, subst}
use Rattle.serde_json.specs.Find.{as_object}
use Rattle.json_reader.specs.Kept.{KeepsMembers}
use Rattle.job_json.specs.Kept.{IsJobOf}
use Rattle.job_json.proofs.Arrays.{is_object}
use Rattle.job_json.proofs.JobLaws.{job_said}
use Rattle.job_json.proofs.document.take_job.Goals as goal

pub returns-clause-ok : goal.returns-clause-ok
returns-clause-ok c =
    let done = c.in_ok-object.ensures.ok in
    let s = c.object.new.kept in
    let kept = is_object IsJobOf s (as_object done.0) (subst (KeepsMembers IsJobOf s (as_object done.0)) c.if-not-branch.false done.2) in
    (done.0, done.1, job_said done.0 s kept.0 kept.1 kept.2 ∙ sym c.in_ok-judge.ensures)
