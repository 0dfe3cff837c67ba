use Rattle.std.proofs.Common.{◌≡◌, ◌++◌, drop, length}
use Rattle.std.specs.Str.{chars}
use Rattle.job_json.specs.Checked.{escaped}
use Rattle.job_json.proofs.pointer.push_escaped.Given as goal

abbrev pub invariant-loop-c : goal.invariant-loop-c
invariant-loop-c l = l.text ++ escaped (drop (length l.yielded) (chars l.key)) ≡ l.initial.text ++ escaped (chars l.key)
