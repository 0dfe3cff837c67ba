use Rattle.std.proofs.Common.{◌≡◌, ◌∙◌, [], ◌∷◌, ◌++◌, Ok, Err, sym, ap, subst}
use Rattle.job_json.specs.Checked.{map_ok}
use Rattle.job_json.specs.Edits.{edit_in}
use Rattle.job_json.specs.Kept.{AreRead}
use Rattle.job_json.specs.KeptEdits.{HasEdits, lent_seen}
use Rattle.job_json.proofs.CheckedLaws.{passed_over, read_bad, read_one}
use Rattle.job_json.proofs.EditLaws.{one_edit}
use Rattle.job_json.proofs.edit_items.EditItemsKeepItems.item.Goals as goal

pub returns-then-is_some-clause-ok : goal.returns-then-is_some-clause-ok
returns-then-is_some-clause-ok c =
    let old = c.args.self.now in
    let done = c.in_ok-pass.ensures.ok in
    (done.0, done.1, λ ds kept. passed_over (λ k. edit_in) ds done.0 old.bad (HasEdits old) _ (sym c.is_some.ensures ∙ c.if-is_some.true) kept)

pub returns-in_ok-keep-in-Ok-clause-ok : goal.returns-in_ok-keep-in-Ok-clause-ok
returns-in_ok-keep-in-Ok-clause-ok c =
    let old = c.args.self.now in
    let new = c.keep.new.self in
    let done = c.in_ok-edit.ensures.ok in
    let keeps = c.in_ok-keep-in-Ok.ensures in
    let edit = lent_seen c.in-Ok.edit in
    let said : edit_in done.0 ≡ Ok edit = done.2 ∙ ap (map_ok lent_seen) c.in-Ok.is in (
      done.0,
      done.1,
      λ ds kept.
          subst (λ bad. AreRead (λ k. edit_in) bad (HasEdits new) (ds ++ done.0 ∷ [])) (sym keeps.bad)
          (read_one (λ k. edit_in) ds done.0 old.bad (HasEdits old) (HasEdits new) old.count edit (sym c.is_some.ensures ∙ c.if-is_some.false) kept (λ edits has. has.count) said
          (λ edits before now has. one_edit old new edit edits has keeps)),
    )

pub returns-in_ok-in_item-in-Err-clause-ok : goal.returns-in_ok-in_item-in-Err-clause-ok
returns-in_ok-in_item-in-Err-clause-ok c =
    let old = c.args.self.now in
    let done = c.in_ok-edit.ensures.ok in
    let said : edit_in done.0 ≡ Err c.in-Err.path = done.2 ∙ ap (map_ok lent_seen) c.in-Err.is in (
      done.0,
      done.1,
      λ ds kept.
          read_bad (λ k. edit_in) ds done.0 old.bad (HasEdits old) old.count c.in-Err.path (sym c.is_some.ensures ∙ c.if-is_some.false) kept (λ edits has. has.count) said
          ∙ ap (λ p. Err p) (sym c.in_ok-in_item-in-Err.ensures),
    )
