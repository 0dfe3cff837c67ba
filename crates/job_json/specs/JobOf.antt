-- What the bytes of an input say.
use Rattle.std.specs.Prelude.{⊤, ℕ, List, ◌≡◌, ◌⊎◌, if◌then◌else◌, Option, Some, None, Result, Ok, Err, option_and_then, codes}
use Rattle.std.specs.Str.{is_utf8}
use Rattle.serde_json.specs.Data.{Data, Members}
use Rattle.serde_json.specs.Read.{read as read_json}
use Rattle.scene_model.specs.Element.{Characters}
use Rattle.stylo_base.specs.declared.refusal.Kind.{Kind}
use Rattle.job_json.specs.declared.Job.{Job}
use Rattle.job_json.specs.declared.JobFault.{JobFault}
use Rattle.job_json.specs.declared.JobFault.TheVariants.{NotJson, Shape, Limit, NoMemory}
use Rattle.job_json.specs.Checked.{Checked, ◌>>=◌, right}
use Rattle.job_json.specs.Words.{whole, is_one}
use Rattle.job_json.specs.Shape.{object_in, member_in, nodes_in, sheets_in}
use Rattle.job_json.specs.Edits.{batches_in}
use Rattle.job_json.specs.Limits.{Passed, first_passed}

pub data Verdict : Type 0 where
  -- the bytes are not UTF-8, or no JSON value
  not_json : Verdict
  -- the value has another shape, first at this JSON pointer
  bad_shape : Characters → Verdict
  -- it has the shape of a job, and passes first the limit of this kind, with its number
  over : Kind → ℕ → Verdict
  good : Job → Verdict

-- the JSON value that the bytes spell
abbrev pub reading : List ℕ → Option Data
reading bytes = if is_utf8 bytes then read_json bytes else None

abbrev pub version_in : Option Data → Checked ⊤
version_in value = right (is_one (option_and_then whole value))

-- the job with these members, in reading order
abbrev pub job_of : Members → Checked Job
job_of members = do
  version ← member_in (codes "version") version_in members
  nodes ← member_in (codes "nodes") nodes_in members
  sheets ← member_in (codes "sheets") sheets_in members
  batches ← member_in (codes "batches") batches_in members
  Ok (record { nodes = nodes; sheets = sheets; batches = batches })

abbrev pub job_in : Data → Checked Job
job_in value = do
  members ← object_in value
  job_of members

abbrev pub verdict_within : Option Passed → Job → Verdict
verdict_within None job = good job
verdict_within (Some passed) job = over passed.0 passed.1

-- the shape first, whole, and then the limits
abbrev pub verdict_by : Data → Checked Job → Verdict
verdict_by value (Err path) = bad_shape path
verdict_by value (Ok job) = verdict_within (first_passed value job) job

abbrev pub verdict_on : Data → Verdict
verdict_on value = verdict_by value (job_in value)

abbrev pub verdict_from : Option Data → Verdict
verdict_from None = not_json
verdict_from (Some value) = verdict_on value

unfoldable pub verdict_of : List ℕ → Verdict
verdict_of bytes = verdict_from (reading bytes)

abbrev pub job_if_good : Verdict → Option Job
job_if_good not_json = None
job_if_good (bad_shape path) = None
job_if_good (over kind number) = None
job_if_good (good job) = Some job

abbrev pub answer_to : Verdict → Result Job JobFault
answer_to not_json = Err NotJson
answer_to (bad_shape path) = Err (Shape path)
answer_to (over kind number) = Err (Limit kind number)
answer_to (good job) = Ok job

-- the answer to a verdict, or out of memory in its place
abbrev pub IsDue : Verdict → Result Job JobFault → Type 0
IsDue verdict result = (result ≡ answer_to verdict) ⊎ (result ≡ Err NoMemory)
