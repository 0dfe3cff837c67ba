use Rattle.std.proofs.Common.{sym, ap, ◌∙◌, subst, Option}
use Rattle.serde_json.specs.Data.{Members}
use Rattle.serde_json.specs.Find.{as_object}
use Rattle.json_reader.specs.Kept.{KeepsMembers}
use Rattle.job_json.specs.Checked.{◌>>=◌, wanted}
use Rattle.job_json.specs.Edits.{edit_of}
use Rattle.job_json.specs.KeptEdits.{IsEditOf}
use Rattle.job_json.proofs.Arrays.{is_object}
use Rattle.job_json.proofs.EditLaws.{edit_is}
use Rattle.job_json.proofs.edit.take_edit.Goals as goal

pub returns-clause-ok : goal.returns-clause-ok
returns-clause-ok c =
    let done = c.in_ok-object.ensures.ok in
    let s = c.object.new.kept in
    let kept = is_object IsEditOf s (as_object done.0) (subst (KeepsMembers IsEditOf s (as_object done.0)) c.if-not-branch.false done.2) in
    (done.0, done.1, ap (λ (o : Option Members). wanted o >>= edit_of) kept.1 ∙ (edit_is s kept.0 kept.2 ∙ sym c.in_ok-judge.ensures))
