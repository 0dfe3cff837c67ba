use Rattle.std.proofs.Common.{◌≡◌, ◌+◌, [], ◌∷◌, map}
use Rattle.session_model.specs.Batches.{reports_from}
use Rattle.session_model.specs.StandingInvariant.{IsReached}
use Rattle.job_json.specs.Draws.{drawn_list}
use Rattle.job_json.specs.Gen.{drawn_batch, drawn_batches}
use Rattle.style_cli.specs.Printing.{ServesLengths, edits_seen}
use Rattle.style_cli.specs.Sums.{both_sums, sums_from}
use Rattle.style_cli.proofs.summing.sum_batches.Given as goal

-- what comes of the next batch and of those that are drawn behind it is to be added still
abbrev pub invariant-summing : goal.invariant-summing
invariant-summing g l = record {
  reached : IsReached l.session;
  serves : ServesLengths l.session l.lengths.kept.items;
  numbered : l.number + l.left ≡ l.batches;
  nodes : l.draws.0 ≡ l.initial.draws.0;
  summed : both_sums l.sums (sums_from l.number (reports_from l.session (edits_seen l.edits.items ∷ map edits_seen (drawn_list (λ _. drawn_batch l.initial.draws.0) l.left l.number l.draws.1).0))) ≡ sums_from 0 (reports_from l.initial.session ([] ∷ map edits_seen (drawn_batches l.initial.draws.0 l.batches l.initial.draws.1).0));
}

abbrev pub decreases-summing : goal.decreases-summing
decreases-summing g l = l.left
