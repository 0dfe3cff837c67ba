-- Sums over what is told of the batches of a job, and the line that is written of the job of a number.
use Rattle.std.specs.Prelude.{ℕ, ◌+◌, List, [], ◌∷◌, length, encode_utf8_all}
use Rattle.scene_model.specs.Scene.{Scene, elements_of}
use Rattle.session_model.specs.Batches.{Report}
use Rattle.report_text.specs.Elements.{elements_bytes}
use Rattle.report_text.specs.Lines.{summary_line}
use Rattle.report_text.specs.declared.lines.Sums.{Sums}
use Rattle.job_json.specs.Gen.{generated}
use Rattle.job_json.specs.declared.Job.{Job}
use Rattle.style_cli.specs.Printing.{heading_bytes}
use Rattle.style_cli.specs.declared.batch.Heading.{Heading}
use Rattle.style_cli.specs.Text.{batch_text, report_lines, reports_of}

abbrev pub no_sums : Sums
no_sums = record { accepted = 0; refused = 0; matched = 0; cascaded = 0; lines = 0; bytes = 0 }

abbrev pub both_sums : Sums → Sums → Sums
both_sums one other = record {
  accepted = one.accepted + other.accepted;
  refused = one.refused + other.refused;
  matched = one.matched + other.matched;
  cascaded = one.cascaded + other.cascaded;
  lines = one.lines + other.lines;
  bytes = one.bytes + other.bytes;
}

-- what a batch is counted as: its lines, and their bytes
abbrev pub batch_sums : ℕ → Report → Sums
batch_sums batch report = record {
  accepted = report.accepted;
  refused = length report.refusals;
  matched = report.matched;
  cascaded = report.cascaded;
  lines = length (report_lines batch report);
  bytes = length (batch_text batch report);
}

-- the same by what is told of a batch before its elements, and by the scene after it
abbrev pub heading_sums : ℕ → Heading → Scene → Sums
heading_sums batch heading scene = record {
  accepted = heading.accepted;
  refused = length heading.refused.items;
  matched = heading.counts.matched;
  cascaded = heading.counts.cascaded;
  lines = 1 + length heading.refused.items + length (elements_of scene);
  bytes = length (heading_bytes batch heading) + length (elements_bytes scene);
}

-- those of batches from this number on
abbrev pub sums_from : ℕ → List Report → Sums
sums_from batch [] = no_sums
sums_from batch (report ∷ rest) = both_sums (batch_sums batch report) (sums_from (batch + 1) rest)

abbrev pub sums_of : Job → Sums
sums_of job = sums_from 0 (reports_of job)

-- the line of the job that a number makes, in UTF-8
abbrev pub summary_text : ℕ → ℕ → ℕ → List ℕ
summary_text seed nodes batches = encode_utf8_all (summary_line nodes batches (sums_of (generated seed nodes batches)))
