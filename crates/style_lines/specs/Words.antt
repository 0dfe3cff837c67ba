-- Which words are a command line, and what it asks for. The first word is the program's name.
use Rattle.std.specs.Prelude.{◌≤◌, ℕ, List, [], ◌∷◌, Option, Some, None, option_map, if◌then◌else◌, codes, min, max}
use Rattle.std.specs.Str.{bytes_eq}
use Rattle.std.specs.Str.Parse.{digits_value, without_leading_plus}
use Rattle.base_model.specs.Limits.{batch_limit, element_limit}
use Rattle.clap.specs.Faults.{fault_of}
use Rattle.clap.specs.Kinds.{Kinds}
use Rattle.clap.specs.Simple.{subcommand_of}
use Rattle.clap.specs.ValueTests.{is_unsigned_in}
use Rattle.clap.specs.Walk.{Row, Text, first_of}
use Rattle.style_lines.specs.Commands.{app, seed_limit, share_limit, worker_limit}
use Rattle.style_lines.specs.declared.words.Line.{Line}
use Rattle.style_lines.specs.declared.words.Line.TheVariants.{Run, Gen}

-- the number that a value spells; 0 where it spells none, which clap refuses
abbrev pub number_of : Option Text → ℕ
number_of None = 0
number_of (Some text) =
    if is_unsigned_in 0 seed_limit text then digits_value 10 (without_leading_plus text) else 0

-- The number of the option of this name, among those that a subcommand was given or has by default. It is moved into
-- its range: clap refuses a number outside it, but has no word that says so of what was taken.
abbrev pub number_in : ℕ → ℕ → Text → List Row → ℕ
number_in least most name rows = max least (min (number_of (first_of name rows)) most)

abbrev pub workers_in : List Row → ℕ
workers_in rows = number_in 1 worker_limit (codes "workers") rows

abbrev pub run_line : List Row → Line
run_line rows = Run (workers_in rows) (number_in 0 share_limit (codes "share") rows)

abbrev pub gen_line : List Row → Line
gen_line rows = Gen
    (number_in 0 seed_limit (codes "seed") rows)
    (number_in 1 element_limit (codes "nodes") rows)
    (number_in 0 batch_limit (codes "batches") rows)
    (workers_in rows)

-- what a subcommand, by its name, asks for
abbrev pub line_in : Text → List Row → Line
line_in name rows = if bytes_eq name (codes "run") then run_line rows else gen_line rows

-- the same for the subcommand that was met, if no fault was found
abbrev pub line_by : Kinds → Option (Text × List Row) → Option Line
line_by [] met = option_map (λ taken. line_in taken.0 taken.1) met
line_by (fault ∷ faults) met = None

-- what the words ask for: some line exactly where clap finds no fault with them
unfoldable pub line_of : List Text → Option Line
line_of words = line_by (fault_of app words) (subcommand_of app words)

-- each number of a line lies in its range
abbrev pub IsInRange : Line → Type 0
IsInRange (Run workers share) = (1 ≤ workers) × (workers ≤ worker_limit) × (share ≤ share_limit)
IsInRange (Gen seed nodes batches workers) =
    (1 ≤ nodes) × (nodes ≤ element_limit) × (batches ≤ batch_limit) × (1 ≤ workers) × (workers ≤ worker_limit)
