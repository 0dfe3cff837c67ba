use Rattle.std.proofs.Common.{sym, ap, ◌∙◌, inl}
use Rattle.serde_json.specs.Read.{read as read_json}
use Rattle.job_json.specs.EditRead.{edit_read_from}
use Rattle.job_json.proofs.Readings.{no_reading, reading_is}
use Rattle.job_json.proofs.one_edit.read_edit.Goals as goal

pub returns-in_default : goal.returns-in_default
returns-in_default c = inl (sym (ap edit_read_from (no_reading c.args.bytes.now c.in_default.ensures.cases.0)))

pub returns-in-Ok-edit_in_text : goal.returns-in-Ok-edit_in_text
returns-in-Ok-edit_in_text c =
    let done = c.in-Ok-edit_in_text.ensures.ok in
    let text = c.in-Ok.ensures.cases in
    inl (sym (ap edit_read_from (reading_is c.args.bytes.now done.0 text.1 (ap read_json (sym text.0) ∙ done.1)) ∙ done.2))
