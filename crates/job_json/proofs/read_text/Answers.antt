use Rattle.std.proofs.Common.{Some, sym, ap, ◌∙◌, arith}
use Rattle.json_reader.specs.Taken.{taken}
use Rattle.json_reader.proofs.WholeText.{read_whole, read_more, read_refused}
use Rattle.job_json.proofs.Readings.{next_some, next_none}
use Rattle.job_json.proofs.read_text.Goals as goal

pub returns-in_err-answer-clause-err : goal.returns-in_err-answer-clause-err
returns-in_err-answer-clause-err c refused = read_refused c.args.text.now (ap (taken 127) (sym c.in_ok-reader.ensures.ok) ∙ c.take_job.ensures.err (grind arith))

pub returns-then-is_some-clause-err : goal.returns-then-is_some-clause-err
returns-then-is_some-clause-err c refused =
    let done = c.in_ok-answer.ensures.ok in
    let more = next_some c.next.result c.take_job.new.reader c.next.new.self (sym c.is_some.ensures ∙ c.if-is_some.true) c.next.ensures.value in
    read_more c.args.text.now done.0 more.0 c.next.new.self (ap (taken 127) (sym c.in_ok-reader.ensures.ok) ∙ (done.1 ∙ ap (λ r. Some (done.0, r)) more.1))

pub returns-clause-ok : goal.returns-clause-ok
returns-clause-ok c =
    let done = c.in_ok-answer.ensures.ok in
    let none = next_none c.next.result c.take_job.new.reader c.next.new.self (sym c.is_some.ensures ∙ c.if-is_some.false) c.next.ensures.value in
    (done.0, read_whole c.args.text.now done.0 (ap (taken 127) (sym c.in_ok-reader.ensures.ok) ∙ (done.1 ∙ ap (λ r. Some (done.0, r)) none)), done.2)
