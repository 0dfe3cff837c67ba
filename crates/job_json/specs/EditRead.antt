-- What the bytes of one edit say.
use Rattle.std.specs.Prelude.{ℕ, List, Option, Some, None, Result, Ok, Err}
use Rattle.serde_json.specs.Data.{Data}
use Rattle.dom_edits.specs.declared.edits.Edit.{Edit}
use Rattle.job_json.specs.declared.JobFault.{JobFault}
use Rattle.job_json.specs.declared.JobFault.TheVariants.{NotJson, Shape}
use Rattle.job_json.specs.Checked.{Checked}
use Rattle.job_json.specs.Edits.{edit_in}
use Rattle.job_json.specs.JobOf.{reading}

-- the edit, or the first bad place in it
abbrev pub edit_answer : Checked Edit → Result Edit JobFault
edit_answer (Ok edit) = Ok edit
edit_answer (Err path) = Err (Shape path)

abbrev pub edit_read_from : Option Data → Result Edit JobFault
edit_read_from None = Err NotJson
edit_read_from (Some value) = edit_answer (edit_in value)

-- the edit that the bytes say, as a batch has it, or why they say none
abbrev pub edit_read : List ℕ → Result Edit JobFault
edit_read bytes = edit_read_from (reading bytes)
