-- What the program answers, and what it writes.
use Rattle.std.specs.Prelude.{◌≡◌, ◌≢◌, ℕ, ◌+◌, ◌≤◌, nat_le, ◌⊎◌, List, [], length}
use Rattle.std.specs.Prelude.{Bool, true, false, Option, Some, None, option_map, IfSome, IsSomeAnd, if◌then◌else◌}
use Rattle.std.specs.Io.KnownBytes.{Appends}
use Rattle.base_model.specs.Limits.{input_limit}
use Rattle.job_json.specs.declared.Job.{Job}
use Rattle.job_json.specs.JobOf.{Verdict, not_json, bad_shape, over, good, verdict_of, job_if_good}
use Rattle.stylo_base.specs.declared.refusal.Kind.{Kind}
use Rattle.stylo_base.specs.declared.refusal.Kind.TheVariants.{Input}
use Rattle.style_cli.specs.declared.status.Status.{Status}
use Rattle.style_cli.specs.declared.status.Status.TheVariants.{Done, ReadFault, Usage, NotJson, NotAJob, Limit}
use Rattle.style_cli.specs.declared.status.Status.TheVariants.{WriteFault, NoMemory}
use Rattle.style_lines.specs.declared.words.Line.{Line}
use Rattle.style_lines.specs.declared.words.Line.TheVariants.{Run, Gen}
use Rattle.style_lines.specs.Loops.{GrewByFront, LosesFront}
use Rattle.style_cli.specs.Sums.{summary_text}
use Rattle.style_cli.specs.Text.{text_of}

-- the job that an input within the limit spells
abbrev pub job_of_input : List ℕ → Option Job
job_of_input bytes = if nat_le (length bytes) input_limit then job_if_good (verdict_of bytes) else None

-- whether a line has the input read: a run does, and a generated job does not
abbrev pub reads_input : Option Line → Bool
reads_input None = false
reads_input (Some (Run workers share)) = true
reads_input (Some (Gen seed nodes batches workers)) = false

-- The text that is due for a line and an input, if there is one: for a run that of the input's job, and for a generated
-- job the line of its sums, whatever the input.
abbrev pub due_text : Option Line → List ℕ → Option (List ℕ)
due_text None bytes = None
due_text (Some (Run workers share)) bytes = option_map text_of (job_of_input bytes)
due_text (Some (Gen seed nodes batches workers)) bytes = Some (summary_text seed nodes batches)

-- the input that a line goes by, where it is told: a generated job goes by none
abbrev pub input_of : Option Line → Option (List ℕ) → Option (List ℕ)
input_of None left = left
input_of (Some (Run workers share)) left = left
input_of (Some (Gen seed nodes batches workers)) left = Some []

abbrev pub due_by : Verdict → Status
due_by not_json = NotJson
due_by (bad_shape path) = NotAJob path
due_by (over kind number) = Limit kind number
due_by (good job) = Done

-- the status that an input calls for, where nothing fails
abbrev pub due_status : List ℕ → Status
due_status bytes =
    if nat_le (length bytes) input_limit then due_by (verdict_of bytes) else Limit Input input_limit

-- an input, where its bytes are told, was read whole and within the limit, and came to this
abbrev pub IsReadAs : Option (List ℕ) → Verdict → Type 0
IsReadAs left verdict = IfSome left (λ bytes. (length bytes ≤ input_limit) × (verdict_of bytes ≡ verdict))

-- it has more bytes than the limit
abbrev pub IsTooLong : Option (List ℕ) → Type 0
IsTooLong left = IfSome left (λ bytes. input_limit + 1 ≤ length bytes)

-- it was read to its end
abbrev pub IsReadToEnd : Option (List ℕ) → Option (List ℕ) → Type 0
IsReadToEnd old new = IfSome old (λ bytes. new ≡ Some [])

-- It has more bytes than the limit and lost the first ones up to one past it, or it was read to its end, has the shape
-- of a job, and passes first the limit of this kind, with its number.
abbrev pub IsPast : Kind → ℕ → Option (List ℕ) → Option (List ℕ) → Type 0
IsPast kind number old new =
    ((kind ≡ Input) × ((number ≡ input_limit) × (IsTooLong old × LosesFront (input_limit + 1) old new)))
    ⊎ (IsReadAs old (over kind number) × IsReadToEnd old new)

-- it is a job
abbrev pub IsJob : Option (List ℕ) → Type 0
IsJob left = IfSome left (λ bytes. (job : Job) × (job_of_input bytes ≡ Some job))

-- an output grew by the whole text that is due
abbrev pub IsPrinted : Option Line → Option (List ℕ) → Option (List ℕ) → Option (List ℕ) → Type 0
IsPrinted line left old new = IfSome (input_of line left) (λ bytes. IsSomeAnd (due_text line bytes) (Appends old new))

-- it grew by a front of that text
abbrev pub IsFrontPrinted : Option Line → Option (List ℕ) → Option (List ℕ) → Option (List ℕ) → Type 0
IsFrontPrinted line left old new =
    IfSome (input_of line left) (λ bytes. IsSomeAnd (due_text line bytes) (GrewByFront old new))

-- Besides what an input calls for there are three answers: out of memory, a fault of the source, and one of the sink,
-- where there is a job.
abbrev pub IsAnswerTo : List ℕ → Status → Type 0
IsAnswerTo bytes status =
    (status ≡ due_status bytes)
    ⊎ ((status ≡ NoMemory) ⊎ ((status ≡ ReadFault) ⊎ ((status ≡ WriteFault) × (due_status bytes ≡ Done))))

-- the statuses that come only before the first line is written
abbrev pub IsEarly : Status → Type 0
IsEarly ReadFault = Unit {0}
IsEarly Usage = Unit {0}
IsEarly NotJson = Unit {0}
IsEarly (NotAJob path) = Unit {0}
IsEarly (Limit kind number) = Unit {0}
IsEarly Done = ⊥
IsEarly WriteFault = ⊥
IsEarly NoMemory = ⊥

-- the statuses that a generated job ends with
abbrev pub IsLate : Status → Type 0
IsLate Done = Unit {0}
IsLate WriteFault = Unit {0}
IsLate NoMemory = Unit {0}
IsLate ReadFault = ⊥
IsLate Usage = ⊥
IsLate NotJson = ⊥
IsLate (NotAJob path) = ⊥
IsLate (Limit kind number) = ⊥

-- The statuses that come of a line: without one Usage, or no memory to read it, and of a generated job none that
-- tells of an input.
abbrev pub IsOf : Option Line → Status → Type 0
IsOf None status = (status ≡ Usage) ⊎ (status ≡ NoMemory)
IsOf (Some (Run workers share)) status = status ≢ Usage
IsOf (Some (Gen seed nodes batches workers)) status = IsLate status

-- the statuses with which no job was read
abbrev pub IsUnread : Status → Type 0
IsUnread ReadFault = Unit {0}
IsUnread NotJson = Unit {0}
IsUnread (NotAJob path) = Unit {0}
IsUnread (Limit kind number) = Unit {0}
IsUnread NoMemory = Unit {0}
IsUnread Done = ⊥
IsUnread Usage = ⊥
IsUnread WriteFault = ⊥

-- what each of them says of an input; nothing of it is the cause of a fault or of being out of memory
abbrev pub IsRefused : Status → List ℕ → Type 0
IsRefused NotJson bytes = (length bytes ≤ input_limit) × (verdict_of bytes ≡ not_json)
IsRefused (NotAJob path) bytes = (length bytes ≤ input_limit) × (verdict_of bytes ≡ bad_shape path)
IsRefused (Limit kind number) bytes =
    ((kind ≡ Input) × ((number ≡ input_limit) × (input_limit + 1 ≤ length bytes)))
    ⊎ ((length bytes ≤ input_limit) × (verdict_of bytes ≡ over kind number))
IsRefused status bytes = Unit {0}

-- with these two the input was read to its end
abbrev pub IsTold : Status → Option (List ℕ) → Option (List ℕ) → Type 0
IsTold NotJson old new = IsReadToEnd old new
IsTold (NotAJob path) old new = IsReadToEnd old new
IsTold status old new = Unit {0}

-- the exit status of the process
abbrev pub exit_number : Status → ℕ
exit_number Done = 0
exit_number ReadFault = 1
exit_number Usage = 2
exit_number NotJson = 3
exit_number (NotAJob path) = 4
exit_number (Limit kind number) = 5
exit_number WriteFault = 6
exit_number NoMemory = 7

-- the status once all that the output gathered was written, or was not
abbrev pub after_the_end : Bool → Status → Status
after_the_end is_written Done = if is_written then Done else WriteFault
after_the_end is_written status = status
