use Rattle.std.proofs.Common.{◌≡◌, ◌∙◌, [], ◌∷◌, ◌++◌, Ok, Err, refl, sym, ap, subst}
use Rattle.job_json.specs.Checked.{map_ok}
use Rattle.job_json.specs.Edits.{batch_in}
use Rattle.job_json.specs.Kept.{AreRead}
use Rattle.job_json.specs.KeptEdits.{HasBatches, edits_of}
use Rattle.job_json.proofs.CheckedLaws.{passed_over, read_bad, read_one}
use Rattle.job_json.proofs.BatchLaws.{one_batch}
use Rattle.job_json.proofs.batch_items.BatchItemsKeepItems.item.Goals as goal

pub returns-then-is_some-clause-ok : goal.returns-then-is_some-clause-ok
returns-then-is_some-clause-ok c =
    let old = c.args.self.now in
    let done = c.in_ok-pass.ensures.ok in
    (done.0, done.1, λ ds kept. passed_over (λ k. batch_in) ds done.0 old.bad (HasBatches old) _ (sym c.is_some.ensures ∙ c.if-is_some.true) kept)

pub returns-in_ok-keep-in-Ok-clause-ok : goal.returns-in_ok-keep-in-Ok-clause-ok
returns-in_ok-keep-in-Ok-clause-ok c =
    let old = c.args.self.now in
    let new = c.keep.new.self in
    let done = c.in_ok-batch.ensures.ok in
    let keeps = c.in_ok-keep-in-Ok.ensures in
    let edits = edits_of c.in-Ok.batch in
    let said : batch_in done.0 ≡ Ok edits = done.2 ∙ ap (map_ok edits_of) c.in-Ok.is in (
      done.0,
      done.1,
      λ ds kept.
          subst (λ bad. AreRead (λ k. batch_in) bad (HasBatches new) (ds ++ done.0 ∷ [])) (sym keeps.bad)
          (read_one (λ k. batch_in) ds done.0 old.bad (HasBatches old) (HasBatches new) old.count edits (sym c.is_some.ensures ∙ c.if-is_some.false) kept (λ batches has. has.count) said
          (λ batches before now has. one_batch old new c.in-Ok.batch edits batches has keeps refl)),
    )

pub returns-in_ok-in_item-in-Err-clause-ok : goal.returns-in_ok-in_item-in-Err-clause-ok
returns-in_ok-in_item-in-Err-clause-ok c =
    let old = c.args.self.now in
    let done = c.in_ok-batch.ensures.ok in
    let said : batch_in done.0 ≡ Err c.in-Err.path = done.2 ∙ ap (map_ok edits_of) c.in-Err.is in (
      done.0,
      done.1,
      λ ds kept.
          read_bad (λ k. batch_in) ds done.0 old.bad (HasBatches old) old.count c.in-Err.path (sym c.is_some.ensures ∙ c.if-is_some.false) kept (λ batches has. has.count) said
          ∙ ap (λ p. Err p) (sym c.in_ok-in_item-in-Err.ensures),
    )
