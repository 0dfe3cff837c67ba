use Rattle.std.proofs.Common.{◌≡◌, Err, Ok, Some, sym, ap, ◌∙◌, arith}
use Rattle.serde_json.specs.Read.{read as read_json}
use Rattle.json_reader.specs.Taken.{taken}
use Rattle.json_reader.proofs.WholeText.{read_whole, read_more, read_refused}
use Rattle.job_json.specs.Checked.{map_ok}
use Rattle.job_json.specs.EditRead.{edit_answer}
use Rattle.job_json.specs.KeptEdits.{lent_seen}
use Rattle.job_json.proofs.Readings.{next_some, next_none}
use Rattle.job_json.proofs.one_edit.edit_in_text.Goals as goal

pub returns-in_err-edit-clause-err : goal.returns-in_err-edit-clause-err
returns-in_err-edit-clause-err c refused = read_refused c.args.text.now (ap (taken 127) (sym c.in_ok-reader.ensures.ok) ∙ c.take_edit.ensures.err (grind arith))

pub returns-then-is_some-clause-err : goal.returns-then-is_some-clause-err
returns-then-is_some-clause-err c refused =
    let done = c.in_ok-edit.ensures.ok in
    let more = next_some c.next.result c.take_edit.new.reader c.next.new.self (sym c.is_some.ensures ∙ c.if-is_some.true) c.next.ensures.value in
    read_more c.args.text.now done.0 more.0 c.next.new.self (ap (taken 127) (sym c.in_ok-reader.ensures.ok) ∙ (done.1 ∙ ap (λ r. Some (done.0, r)) more.1))

pub returns-in-Ok-clause-ok : goal.returns-in-Ok-clause-ok
returns-in-Ok-clause-ok c =
    let done = c.in_ok-edit.ensures.ok in
    let none = next_none c.next.result c.take_edit.new.reader c.next.new.self (sym c.is_some.ensures ∙ c.if-is_some.false) c.next.ensures.value in
    let whole : read_json c.args.text.now ≡ Some done.0 = read_whole c.args.text.now done.0 (ap (taken 127) (sym c.in_ok-reader.ensures.ok) ∙ (done.1 ∙ ap (λ r. Some (done.0, r)) none)) in
    (done.0, whole, ap edit_answer (done.2 ∙ ap (map_ok lent_seen) c.in-Ok.is) ∙ ap (λ edit. edit_answer (Ok edit)) (sym c.in_ok-owned-in-Ok.ensures))

pub returns-clause-ok : goal.returns-clause-ok
returns-clause-ok c =
    let done = c.in_ok-edit.ensures.ok in
    let none = next_none c.next.result c.take_edit.new.reader c.next.new.self (sym c.is_some.ensures ∙ c.if-is_some.false) c.next.ensures.value in
    let whole : read_json c.args.text.now ≡ Some done.0 = read_whole c.args.text.now done.0 (ap (taken 127) (sym c.in_ok-reader.ensures.ok) ∙ (done.1 ∙ ap (λ r. Some (done.0, r)) none)) in
    (done.0, whole, ap edit_answer (done.2 ∙ ap (map_ok lent_seen) c.in-Err.is) ∙ ap (λ fault. Err fault) (sym c.no_job_at.ensures))
