use Rattle.std.proofs.Common.{◌≡◌, refl, sym, ap, option_map, unwrap_or, ◌∙◌}
use Rattle.stylo_base.specs.declared.refusal.EditRefused.TheVariants.{NoMemory}
use Rattle.base_model.proofs.Results.{on_err}
use Rattle.edit_model.specs.SheetApply.{sheet_refusal}
use Rattle.dom_edits.specs.EditView.{refusal_answered, sheet_edit_seen}
use Rattle.sheet_set.specs.Planned.{planned}
use Rattle.sheet_set.specs.View.{listed_seen}
use Rattle.style_session.proofs.SessionEdits.{still-roomier}
use Rattle.style_session.proofs.SheetEdits.{err-and, no-refusal}
use Rattle.style_session.proofs.sheet_edits.edit_sheets.Goals as goal

pub returns-in_err-add_marks-clause-refused : goal.returns-in_err-add_marks-clause-refused
returns-in_err-add_marks-clause-refused c =
    let before = listed_seen c.args.content.now.sheets in
    let edit = sheet_edit_seen c.args.edit.now in
    let none = no-refusal before (planned c.in_ok-plan.plan.step before) edit c.in_ok-plan.ensures.planned in
    let told : NoMemory ≡ unwrap_or (option_map refusal_answered (sheet_refusal before edit)) NoMemory = sym (ap (λ o. unwrap_or (option_map refusal_answered o) NoMemory) none) in
    err-and c.from_residual-in_err-add_marks.result _ (λ why. why ≡ unwrap_or (option_map refusal_answered (sheet_refusal before edit)) NoMemory)
    (λ why is. is ∙ told) c.from_residual-in_err-add_marks.ensures.1

pub returns-in_err-add_marks-clause-kept : goal.returns-in_err-add_marks-clause-kept
returns-in_err-add_marks-clause-kept c =
    let document = c.args.content.now.doc in
    on_err c.from_residual-in_err-add_marks.result _
    (record {
      document = refl;
      sheets = c.plan.ensures.same;
      pending = still-roomier document c.args.pending.now c.add_marks.new.pending c.in_err-add_marks.ensures.kept;
    })
