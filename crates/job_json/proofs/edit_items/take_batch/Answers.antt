use Rattle.std.proofs.Common.{◌∙◌, ap, subst}
use Rattle.serde_json.specs.Find.{as_array}
use Rattle.json_reader.specs.Kept.{KeepsItems}
use Rattle.job_json.specs.Kept.{bad_or}
use Rattle.job_json.specs.KeptEdits.{AreEditsOf}
use Rattle.job_json.proofs.Arrays.{is_array}
use Rattle.job_json.proofs.EditLaws.{edits_end}
use Rattle.job_json.proofs.edit_items.take_batch.Goals as goal

pub returns-in-None-clause-ok : goal.returns-in-None-clause-ok
returns-in-None-clause-ok c =
    let s = c.array.new.kept in
    let done = c.in_ok-array.ensures.ok in
    let kept = is_array AreEditsOf s (as_array done.0) (subst (KeepsItems AreEditsOf s (as_array done.0)) c.if-not-branch.false done.2) in
    (done.0, done.1, edits_end done.0 kept.0 s kept.1 kept.2 ∙ ap (λ b. bad_or b s.list.items) c.in-None.is)
