use Rattle.std.proofs.Common.{◌≡◌, ◌∙◌, [], ◌∷◌, ◌++◌, Ok, Err, sym, ap, subst}
use Rattle.job_json.specs.Checked.{map_ok}
use Rattle.job_json.specs.Shape.{sheet_in}
use Rattle.job_json.specs.Kept.{AreRead, HasSheets, sheet_seen}
use Rattle.job_json.proofs.CheckedLaws.{passed_over, read_bad, read_one}
use Rattle.job_json.proofs.SheetLaws.{one_sheet}
use Rattle.job_json.proofs.sheet_items.SheetItemsKeepItems.item.Goals as goal

pub returns-then-is_some-clause-ok : goal.returns-then-is_some-clause-ok
returns-then-is_some-clause-ok c =
    let old = c.args.self.now in
    let done = c.in_ok-pass.ensures.ok in
    (done.0, done.1, λ ds kept. passed_over (λ k. sheet_in) ds done.0 old.bad (HasSheets old) _ (sym c.is_some.ensures ∙ c.if-is_some.true) kept)

pub returns-in_ok-keep-in-Ok-clause-ok : goal.returns-in_ok-keep-in-Ok-clause-ok
returns-in_ok-keep-in-Ok-clause-ok c =
    let old = c.args.self.now in
    let new = c.keep.new.self in
    let done = c.in_ok-sheet.ensures.ok in
    let keeps = c.in_ok-keep-in-Ok.ensures in
    let sheet = sheet_seen c.in-Ok.sheet in
    let said : sheet_in done.0 ≡ Ok sheet = done.2 ∙ ap (map_ok sheet_seen) c.in-Ok.is in (
      done.0,
      done.1,
      λ ds kept.
          subst (λ bad. AreRead (λ k. sheet_in) bad (HasSheets new) (ds ++ done.0 ∷ [])) (sym keeps.bad)
          (read_one (λ k. sheet_in) ds done.0 old.bad (HasSheets old) (HasSheets new) old.count sheet (sym c.is_some.ensures ∙ c.if-is_some.false) kept (λ sheets has. has.count) said
          (λ sheets before now has. one_sheet old new sheet sheets has keeps)),
    )

pub returns-in_ok-in_item-in-Err-clause-ok : goal.returns-in_ok-in_item-in-Err-clause-ok
returns-in_ok-in_item-in-Err-clause-ok c =
    let old = c.args.self.now in
    let done = c.in_ok-sheet.ensures.ok in
    let said : sheet_in done.0 ≡ Err c.in-Err.path = done.2 ∙ ap (map_ok sheet_seen) c.in-Err.is in (
      done.0,
      done.1,
      λ ds kept.
          read_bad (λ k. sheet_in) ds done.0 old.bad (HasSheets old) old.count c.in-Err.path (sym c.is_some.ensures ∙ c.if-is_some.false) kept (λ sheets has. has.count) said
          ∙ ap (λ p. Err p) (sym c.in_ok-in_item-in-Err.ensures),
    )
