use Rattle.std.proofs.Common.{◌≡◌, sym, ap, ◌∙◌, inl}
use Rattle.serde_json.specs.Read.{read as read_json}
use Rattle.job_json.specs.JobOf.{answer_to, verdict_of}
use Rattle.job_json.proofs.JobLaws.{fits_if, few_if}
use Rattle.job_json.proofs.Readings.{no_text, verdict_is, good_if, answer_json, answer_shape, answer_limit}
use Rattle.job_json.proofs.read.Goals as goal

pub returns-in_default-clause-json : goal.returns-in_default-clause-json
returns-in_default-clause-json c said = no_text c.args.bytes.now c.in_default.ensures.cases.0

pub returns-in_default-clause-due : goal.returns-in_default-clause-due
returns-in_default-clause-due c = inl (sym (ap answer_to (no_text c.args.bytes.now c.in_default.ensures.cases.0)))

-- what the value of the text says
is_answer : (c : goal.In-Ok-read_text) → answer_to (verdict_of c.args.bytes.now) ≡ c.in-Ok-read_text.answer
is_answer c =
    let done = c.in-Ok-read_text.ensures.ok in
    let text = c.in-Ok.ensures.cases in
    ap answer_to (verdict_is c.args.bytes.now done.0 text.1 (ap read_json (sym text.0) ∙ done.1)) ∙ done.2

pub returns-in-Ok-read_text-clause-ok : goal.returns-in-Ok-read_text-clause-ok
returns-in-Ok-read_text-clause-ok c = good_if (verdict_of c.args.bytes.now) c.in-Ok-read_text.answer (is_answer c)

pub returns-in-Ok-read_text-clause-json : goal.returns-in-Ok-read_text-clause-json
returns-in-Ok-read_text-clause-json c said = answer_json (verdict_of c.args.bytes.now) (sym (is_answer c ∙ said))

pub returns-in-Ok-read_text-clause-shape : goal.returns-in-Ok-read_text-clause-shape
returns-in-Ok-read_text-clause-shape c path said = answer_shape (verdict_of c.args.bytes.now) path (sym (is_answer c ∙ said))

pub returns-in-Ok-read_text-clause-limit : goal.returns-in-Ok-read_text-clause-limit
returns-in-Ok-read_text-clause-limit c kind number said = answer_limit (verdict_of c.args.bytes.now) kind number (sym (is_answer c ∙ said))

pub returns-in-Ok-read_text-clause-due : goal.returns-in-Ok-read_text-clause-due
returns-in-Ok-read_text-clause-due c = inl (sym (is_answer c))

pub returns-in-Ok-read_text-clause-fits : goal.returns-in-Ok-read_text-clause-fits
returns-in-Ok-read_text-clause-fits c = let done = c.in-Ok-read_text.ensures.ok in fits_if done.0 c.in-Ok-read_text.answer done.2

pub returns-in-Ok-read_text-clause-few : goal.returns-in-Ok-read_text-clause-few
returns-in-Ok-read_text-clause-few c = let done = c.in-Ok-read_text.ensures.ok in few_if done.0 c.in-Ok-read_text.answer done.2
