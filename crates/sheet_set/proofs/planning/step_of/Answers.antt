use Rattle.std.proofs.Common.{◌≡◌, ℕ, ◌+◌, ◌≤◌, List, None, length, map, refl, sym, subst, ap, ◌∙◌, arith, eq-eqb}
use Rattle.std.proofs.lemmas.List.{length-map}
use Rattle.std.proofs.lemmas.Result.{IfOk-weaker}
use Rattle.edit_model.specs.Refusal.{bad_place}
use Rattle.edit_model.specs.SheetApply.{SheetList, added_at, is_of, last_after, number_in, sheet_refusal, sheets_after, with_enabled}
use Rattle.edit_model.proofs.Accepted.{none_parts}
use Rattle.dom_edits.specs.EditView.{sheet_edit_seen}
use Rattle.dom_edits.specs.declared.edits.SheetEdit.{SheetEdit}
use Rattle.dom_edits.specs.declared.edits.SheetEdit.TheVariants.{Add}
use Rattle.sheet_set.specs.declared.kept_sheet.KeptSheet.{KeptSheet}
use Rattle.sheet_set.specs.declared.sheet_step.SheetStep.{SheetStep}
use Rattle.sheet_set.specs.declared.sheet_step.SheetStep.TheVariants.{Come}
use Rattle.sheet_set.specs.Kept.{kept_seen}
use Rattle.sheet_set.specs.StepOf.{IsStepTo}
use Rattle.sheet_set.proofs.Alone.{next-others}
use Rattle.sheet_set.proofs.Bounds.{within}
use Rattle.sheet_set.proofs.SheetAt.{alone-at}
use Rattle.sheet_set.proofs.planning.step_of.Goals as goal

abbrev IsStepBy : List KeptSheet → ℕ → SheetStep → SheetEdit → Type 0
IsStepBy sheets last step edit =
    IsStepTo sheets last (number_in last (sheet_edit_seen edit)) (record {
      listed = sheets_after last (sheet_edit_seen edit) (map kept_seen sheets);
      last = last_after last (sheet_edit_seen edit);
    }) step

pub returns-in_ok-new_sheet-in-Add : goal.returns-in_ok-new_sheet-in-Add
returns-in_ok-new_sheet-in-Add c =
    let sheets = c.args.sheets.now in
    let list = map kept_seen sheets in
    let last = c.args.last in
    let l : SheetList = record { listed = list; last = last } in
    let index = c.in-Add.index in
    let new = c.in_ok-new_sheet-in-Add.field-0 in
    let edit : SheetEdit = Add index c.in-Add.origin c.in-Add.enabled c.in-Add.text in
    let fine : sheet_refusal l (sheet_edit_seen edit) ≡ None = subst (λ e. sheet_refusal l (sheet_edit_seen e) ≡ None) c.in-Add.is c.requires.fine in
    let placed : index ≤ length list = within index (length list) bad_place (none_parts _ _ fine).0 in
    let is_new = c.in_ok-new_sheet-in-Add.ensures in
    subst (IsStepBy sheets last (Come index new c.in-Add.enabled)) (sym c.in-Add.is) (record {
      is = ap (λ s. record { listed = added_at index (with_enabled c.in-Add.enabled s) list; last = last + 1 }) is_new;
      at = (omega (arith, placed, length-map sheets kept_seen), ap (λ s. s.enabled) is_new);
      of = (ap (is_of (last + 1)) is_new ∙ eq-eqb (last + 1) (last + 1) refl, next-others l c.requires.numbered);
    })

pub returns-in-Some : goal.returns-in-Some
returns-in-Some c =
    let sheets = c.args.sheets.now in
    let last = c.args.last in
    let found = c.in-Some.ensures.some in
    IfOk-weaker c.removed.result _ _ (λ step to. subst (IsStepBy sheets last step) (sym c.in-Remove.is)
    (to c.in-Remove.sheet last (alone-at c.in-Remove.sheet last sheets c.in-Some.place found.0 found.1 c.requires.numbered))) c.removed.ensures

pub returns-in-Some-place_of : goal.returns-in-Some-place_of
returns-in-Some-place_of c =
    let sheets = c.args.sheets.now in
    let last = c.args.last in
    let found = c.in-Some-place_of.ensures.some in
    IfOk-weaker c.replaced.result _ _ (λ step to. subst (IsStepBy sheets last step) (sym c.in-Replace.is)
    (to c.in-Replace.sheet last (alone-at c.in-Replace.sheet last sheets c.in-Some-place_of.place found.0 found.1 c.requires.numbered))) c.replaced.ensures

pub returns-in-Some-place_of-2 : goal.returns-in-Some-place_of-2
returns-in-Some-place_of-2 c =
    let sheets = c.args.sheets.now in
    let last = c.args.last in
    let found = c.in-Some-place_of-2.ensures.some in
    IfOk-weaker c.switched.result _ _ (λ step to. subst (IsStepBy sheets last step) (sym c.in-Enable.is)
    (to c.in-Enable.sheet last (alone-at c.in-Enable.sheet last sheets c.in-Some-place_of-2.place found.0 found.1 c.requires.numbered))) c.switched.ensures
