use Rattle.std.proofs.Common.{◌≡◌, OnOk, OnErr, sym, ap, subst}
use Rattle.std.specs.Prelude.{IfErr}
use Rattle.stylo_base.specs.declared.refusal.EditRefused.{EditRefused}
use Rattle.edit_model.specs.Edit.{Edit, IsShapedEdit, of_document, of_sheets}
use Rattle.edit_model.specs.Refusal.{accepted}
use Rattle.dom_edits.specs.EditView.{doc_edit_seen, edit_seen, sheet_edit_seen}
use Rattle.session_model.specs.Standing.{Standing, edited, scene_applied}
use Rattle.style_session.specs.Answers.{refusal_of}
use Rattle.style_session.specs.SessionView.{scene_seen, standing_seen}
use Rattle.style_session.proofs.Reached.{reached-edit}
use Rattle.style_session.proofs.SessionEdits.{edit-accepted, edit-kept, edit-seen, edit-session, refused-seen}
use Rattle.style_session.proofs.SheetEdits.{sheets-accepted, sheets-seen, sheets-session, sheets-why}
use Rattle.style_session.proofs.session.Session.edit.Goals as goal

-- an edit of the document

pub invariant_of-self : goal.invariant_of-self
invariant_of-self c =
    let self = c.self.inside in
    let new = c.edit_document.new in
    let done = c.edit_document.ensures in
    edit-session self.content new.content self.pending new.pending self.kept self.derived (doc_edit_seen c.in-Document.edit) done.shaped c.self.invariant
    c.edit_document.result done.ok done.kept new.derived done.ready

pub returns-in-Document-clause-accepted : goal.returns-in-Document-clause-accepted
returns-in-Document-clause-accepted c =
    let self = c.self.inside in
    let new = c.edit_document.new in
    let told : edit_seen c.args.edit.now ≡ of_document (doc_edit_seen c.in-Document.edit) = ap edit_seen c.in-Document.is in
    subst (λ (st : Standing). OnOk c.edit_document.result (scene_applied st.scene (edit_seen c.args.edit.now) ≡ accepted (scene_seen new.content.doc new.content.sheets))) c.self.view_is
    (subst (λ (e : Edit). OnOk c.edit_document.result (scene_applied (scene_seen self.content.doc self.content.sheets) e ≡ accepted (scene_seen new.content.doc new.content.sheets)))
    (sym told) (edit-accepted c.edit_document.result self.content new.content self.pending new.pending (doc_edit_seen c.in-Document.edit) c.edit_document.ensures.ok))

pub returns-in-Document-clause-ok : goal.returns-in-Document-clause-ok
returns-in-Document-clause-ok c =
    let self = c.self.inside in
    let new = c.edit_document.new in
    let done = c.edit_document.ensures in
    let later = standing_seen new.content.doc new.content.sheets new.pending self.kept in
    let told : edit_seen c.args.edit.now ≡ of_document (doc_edit_seen c.in-Document.edit) = ap edit_seen c.in-Document.is in
    subst (λ (st : Standing). OnOk c.edit_document.result (later ≡ edited st (edit_seen c.args.edit.now))) c.self.view_is
    (subst (λ (e : Edit). OnOk c.edit_document.result (later ≡ edited (standing_seen self.content.doc self.content.sheets self.pending self.kept) e)) (sym told)
    (edit-seen self.content new.content self.pending new.pending self.kept self.derived (doc_edit_seen c.in-Document.edit) done.shaped c.self.invariant c.edit_document.result done.ok))

pub returns-in-Document-clause-shaped : goal.returns-in-Document-clause-shaped
returns-in-Document-clause-shaped c =
    subst IsShapedEdit (sym (ap edit_seen c.in-Document.is)) c.edit_document.ensures.shaped

pub returns-in-Document-clause-refused : goal.returns-in-Document-clause-refused
returns-in-Document-clause-refused c =
    let self = c.self.inside in
    let told : edit_seen c.args.edit.now ≡ of_document (doc_edit_seen c.in-Document.edit) = ap edit_seen c.in-Document.is in
    subst (λ (st : Standing). IfErr c.edit_document.result (λ (why : EditRefused). why ≡ refusal_of st.scene (edit_seen c.args.edit.now))) c.self.view_is
    (subst (λ (e : Edit). IfErr c.edit_document.result (λ (why : EditRefused). why ≡ refusal_of (scene_seen self.content.doc self.content.sheets) e)) (sym told)
    (refused-seen c.edit_document.result self.content c.in-Document.edit c.edit_document.ensures.refused))

pub returns-in-Document-clause-kept : goal.returns-in-Document-clause-kept
returns-in-Document-clause-kept c =
    let self = c.self.inside in
    let new = c.edit_document.new in
    subst (λ (st : Standing). OnErr c.edit_document.result (standing_seen new.content.doc new.content.sheets new.pending self.kept ≡ st)) c.self.view_is
    (edit-kept c.edit_document.result self.content new.content self.pending new.pending self.kept self.derived c.self.invariant c.edit_document.ensures.kept)

pub returns-in-Document-clause-reached : goal.returns-in-Document-clause-reached
returns-in-Document-clause-reached c =
    reached-edit c.edit_document.result _ _ (edit_seen c.args.edit.now) (returns-in-Document-clause-shaped c) (returns-in-Document-clause-ok c) (returns-in-Document-clause-kept c)

-- an edit of the sheets

pub invariant_of-self-in-Sheets : goal.invariant_of-self-in-Sheets
invariant_of-self-in-Sheets c =
    let self = c.self.inside in
    let new = c.edit_sheets.new in
    let done = c.edit_sheets.ensures in
    sheets-session self.content new.content self.pending new.pending self.kept self.derived (sheet_edit_seen c.in-Sheets.edit) c.self.invariant c.edit_sheets.result
    done.ok done.kept new.derived done.ready

pub returns-in-Sheets-clause-accepted : goal.returns-in-Sheets-clause-accepted
returns-in-Sheets-clause-accepted c =
    let self = c.self.inside in
    let new = c.edit_sheets.new in
    let told : edit_seen c.args.edit.now ≡ of_sheets (sheet_edit_seen c.in-Sheets.edit) = ap edit_seen c.in-Sheets.is in
    subst (λ (st : Standing). OnOk c.edit_sheets.result (scene_applied st.scene (edit_seen c.args.edit.now) ≡ accepted (scene_seen new.content.doc new.content.sheets))) c.self.view_is
    (subst (λ (e : Edit). OnOk c.edit_sheets.result (scene_applied (scene_seen self.content.doc self.content.sheets) e ≡ accepted (scene_seen new.content.doc new.content.sheets)))
    (sym told) (sheets-accepted self.content new.content self.pending new.pending self.kept self.derived (sheet_edit_seen c.in-Sheets.edit) c.self.invariant c.edit_sheets.result
    c.edit_sheets.ensures.ok))

pub returns-in-Sheets-clause-ok : goal.returns-in-Sheets-clause-ok
returns-in-Sheets-clause-ok c =
    let self = c.self.inside in
    let new = c.edit_sheets.new in
    let later = standing_seen new.content.doc new.content.sheets new.pending self.kept in
    let told : edit_seen c.args.edit.now ≡ of_sheets (sheet_edit_seen c.in-Sheets.edit) = ap edit_seen c.in-Sheets.is in
    subst (λ (st : Standing). OnOk c.edit_sheets.result (later ≡ edited st (edit_seen c.args.edit.now))) c.self.view_is
    (subst (λ (e : Edit). OnOk c.edit_sheets.result (later ≡ edited (standing_seen self.content.doc self.content.sheets self.pending self.kept) e)) (sym told)
    (sheets-seen self.content new.content self.pending new.pending self.kept self.derived (sheet_edit_seen c.in-Sheets.edit) c.self.invariant c.edit_sheets.result c.edit_sheets.ensures.ok))

pub returns-in-Sheets-clause-refused : goal.returns-in-Sheets-clause-refused
returns-in-Sheets-clause-refused c =
    let self = c.self.inside in
    let told : edit_seen c.args.edit.now ≡ of_sheets (sheet_edit_seen c.in-Sheets.edit) = ap edit_seen c.in-Sheets.is in
    subst (λ (st : Standing). IfErr c.edit_sheets.result (λ (why : EditRefused). why ≡ refusal_of st.scene (edit_seen c.args.edit.now))) c.self.view_is
    (subst (λ (e : Edit). IfErr c.edit_sheets.result (λ (why : EditRefused). why ≡ refusal_of (scene_seen self.content.doc self.content.sheets) e)) (sym told)
    (sheets-why c.edit_sheets.result self.content (sheet_edit_seen c.in-Sheets.edit) c.edit_sheets.ensures.refused))

pub returns-in-Sheets-clause-kept : goal.returns-in-Sheets-clause-kept
returns-in-Sheets-clause-kept c =
    let self = c.self.inside in
    let new = c.edit_sheets.new in
    subst (λ (st : Standing). OnErr c.edit_sheets.result (standing_seen new.content.doc new.content.sheets new.pending self.kept ≡ st)) c.self.view_is
    (edit-kept c.edit_sheets.result self.content new.content self.pending new.pending self.kept self.derived c.self.invariant c.edit_sheets.ensures.kept)

pub returns-in-Sheets-clause-shaped : goal.returns-in-Sheets-clause-shaped
returns-in-Sheets-clause-shaped c = subst IsShapedEdit (sym (ap edit_seen c.in-Sheets.is)) tt

pub returns-in-Sheets-clause-reached : goal.returns-in-Sheets-clause-reached
returns-in-Sheets-clause-reached c =
    reached-edit c.edit_sheets.result _ _ (edit_seen c.args.edit.now) (returns-in-Sheets-clause-shaped c) (returns-in-Sheets-clause-ok c) (returns-in-Sheets-clause-kept c)
