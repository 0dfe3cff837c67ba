use Rattle.std.proofs.Common.{◌≡◌, ◌∙◌, None, Ok, ap, sym, subst, rules}
use Rattle.serde_json.specs.Find.{as_array}
use Rattle.json_reader.specs.Kept.{KeepsItems}
use Rattle.base_model.specs.Limits.{batch_limit}
use Rattle.stylo_base.specs.declared.refusal.Kind.TheVariants.{Batches}
use Rattle.std.specs.Prelude.{map}
use Rattle.job_json.specs.Limits.{within, past}
use Rattle.job_json.specs.Kept.{bad_or}
use Rattle.job_json.specs.KeptEdits.{AreBatchesOf, edits_of}
use Rattle.job_json.proofs.Arrays.{is_array}
use Rattle.job_json.proofs.BatchLaws.{finished, batches_end}
use Rattle.job_json.proofs.batch_items.take_batches.Goals as goal

pub returns-clause-ok : goal.returns-clause-ok
returns-clause-ok c =
    let s = c.array.new.kept in
    let done = c.in_ok-array.ensures.ok in
    let kept = is_array AreBatchesOf s (as_array done.0) (subst (KeepsItems AreBatchesOf s (as_array done.0)) c.if-not-branch.false done.2) in
    let right : s.bad ≡ None = search rules in
    let few : past Batches batch_limit s.count ≡ None = search rules in (
      done.0,
      done.1,
      batches_end done.0 kept.0 s kept.1 kept.2
          ∙ (ap (λ b. bad_or b (finished s)) right ∙ (ap (λ p. Ok (within p (map edits_of s.list.items))) few ∙ ap (λ l. Ok (Ok l)) (sym c.of_vec.ensures))),
    )
