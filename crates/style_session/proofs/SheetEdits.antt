-- For `edit_sheets` and `Session::edit`: edits of the style sheets of a session.
use Rattle.std.proofs.Common.{◌≡◌, ℕ, ◌<◌, List, filter, Bool, false, Option, None, Some, Result, Ok, Err, OnOk, OnErr, ◌||◌}
use Rattle.std.proofs.Common.{refl, sym, ap, subst, ◌∙◌, option_map, unwrap_or, arith}
use Rattle.std.specs.Prelude.{IfErr}
use Rattle.std.specs.Result.{IsErrAnd}
use Rattle.std.proofs.lemmas.Bool.{false≢true}
use Rattle.scene_model.specs.Document.{Document}
use Rattle.scene_model.specs.Element.{Element}
use Rattle.scene_model.specs.Lookups.{is_element, numbers}
use Rattle.scene_model.specs.Numbers.{is_in}
use Rattle.scene_model.specs.Scene.{Scene}
use Rattle.scene_model.proofs.Lists.{filter_same}
use Rattle.change_model.specs.Sound.{IsSound}
use Rattle.stylo_base.specs.declared.refusal.EditRefused.{EditRefused}
use Rattle.stylo_base.specs.declared.refusal.EditRefused.TheVariants.{NoMemory}
use Rattle.edit_model.specs.Edit.{SheetEdit, of_sheets}
use Rattle.edit_model.specs.Refusal.{Refusal, accepted, outcome_of}
use Rattle.edit_model.specs.SheetApply.{SheetList, last_after, sheet_refusal, sheets_after, sheets_applied}
use Rattle.dom_edits.specs.EditView.{refusal_answered}
use Rattle.invalidation_map.proofs.SetLemmas.{or_no}
use Rattle.sheet_set.specs.View.{listed_seen, sources_seen}
use Rattle.session_model.specs.Standing.{Standing, change_of, changed, edited, edited_by, scene_applied, with_sheets}
use Rattle.session_model.specs.StandingInvariant.{AllKeep}
use Rattle.session_model.proofs.EditLemmas.{covered-edit}
use Rattle.session_model.proofs.KeepsLemmas.{keep-changed}
use Rattle.session_model.proofs.ListedLemmas.{among-numbers}
use Rattle.session_model.proofs.SlotLemmas.{placed-changed}
use Rattle.style_session.specs.Answers.{error_of, refusal_of}
use Rattle.style_session.specs.Edits.{EditsSheets, IsUnedited, sheet_marks_of}
use Rattle.style_session.specs.KeptView.{KeptView, style_at}
use Rattle.style_session.specs.PendingView.{PendingMembers, is_fresh_in}
use Rattle.style_session.specs.SessionView.{elements_in, scene_seen, standing_seen}
use Rattle.style_session.specs.Sessions.{AreReady, IsSession}
use Rattle.style_session.specs.declared.content.Content.{Content}
use Rattle.style_session.specs.declared.derived.Derived.{Derived}
use Rattle.style_session.proofs.SessionEdits.{none_out, session-unedited}
use Rattle.style_session.proofs.SessionLemmas.{each_element, same_parts}
use Rattle.style_session.proofs.SessionStarts.{no-element}

-- an edit that is done

module _ (old new : Content) (before after : PendingMembers) (kept : KeptView) (was : Derived) (edit : SheetEdit) (is : IsSession old before kept was)
    (done : EditsSheets old edit new before after) where
  abbrev doc : List Element
  doc = old.doc.elements

  abbrev scene : Scene
  scene = scene_seen old.doc old.sheets

  abbrev later : Scene
  later = scene_seen old.doc new.sheets

  abbrev st : Standing
  st = standing_seen old.doc old.sheets before kept

  abbrev adds : ℕ → Bool
  adds x = sheet_marks_of doc (listed_seen old.sheets) (listed_seen new.sheets) edit x

  fresh_same : is_fresh_in after ≡ is_fresh_in before
  fresh_same = ap is_fresh_in done.marks.others

  gone_same : after.gone ≡ before.gone
  gone_same = ap (λ (p : PendingMembers). p.gone) done.marks.others

  of_later : scene_applied scene (of_sheets edit) ≡ accepted later
  of_later = ap (with_sheets scene) (sym done.applies)

  pub scene-accepted : scene_applied scene (of_sheets edit) ≡ accepted (scene_seen new.doc new.sheets)
  scene-accepted = of_later ∙ ap (λ d. accepted (scene_seen d new.sheets)) (sym done.document)

  -- of the elements each is marked or fresh and keeps its style as the definition says

  marks_grow : elements_in old.doc after.marked ≡ filter (λ x. is_in x (elements_in old.doc before.marked) || adds x) (numbers doc)
  marks_grow =
      filter_same (λ x. is_in x after.marked) (λ x. is_in x (elements_in old.doc before.marked) || adds x) (numbers doc)
      (each_element doc (λ x. is_in x after.marked ≡ (is_in x (elements_in old.doc before.marked) || adds x))
      (λ x there. done.marks.each x ∙ ap (λ b. b || adds x) (sym (among-numbers doc (λ y. is_in y before.marked) x there))))

  fresh_stays : filter (is_fresh_in after) (numbers doc) ≡ filter (λ x. is_in x (filter (is_fresh_in before) (numbers doc)) || false) (numbers doc)
  fresh_stays =
      filter_same (is_fresh_in after) (λ x. is_in x (filter (is_fresh_in before) (numbers doc)) || false) (numbers doc)
      (each_element doc (λ x. is_fresh_in after x ≡ (is_in x (filter (is_fresh_in before) (numbers doc)) || false))
      (λ x there. ap (λ (f : ℕ → Bool). f x) fresh_same
      ∙ (sym (among-numbers doc (is_fresh_in before) x there) ∙ or_no (is_in x (filter (is_fresh_in before) (numbers doc))))))

  none_above : (x : ℕ) → old.doc.last < x → style_at kept x ≡ None
  none_above x above = is.absent x (no-element old.doc is.sound x above) (is.gone_given x above)

  changed_with : standing_seen old.doc new.sheets after kept ≡ changed st (change_of scene (of_sheets edit) later)
  changed_with =
      same_parts later _ _ _ _ _ _ _ _ marks_grow fresh_stays
      (sym (placed-changed (style_at kept) old.doc old.doc (omega arith) none_above (λ x there out. absurd (false≢true (sym out ∙ there)))))
      refl

  pub sheets-edited-seen : standing_seen new.doc new.sheets after kept ≡ edited st (of_sheets edit)
  sheets-edited-seen =
      ap (λ (d : Document). standing_seen d new.sheets after kept) done.document
      ∙ (changed_with ∙ ap (edited_by st (of_sheets edit)) (sym of_later))

  above_old : (x : ℕ) → new.doc.last < x → old.doc.last < x
  above_old x above = subst (λ (d : Document). d.last < x) done.document above

  pub session-sheets : (known : Derived) → AreReady (sources_seen new.sheets) known → IsSession new after kept known
  session-sheets known ready = record {
    sound = subst IsSound (sym done.document) is.sound;
    ready = ready;
    marks_given = λ x above.
        done.marks.each x
        ∙ (ap (λ b. b || adds x) (is.marks_given x (above_old x above))
        ∙ none_out (is_element doc x) _ (no-element old.doc is.sound x (above_old x above)));
    gone_given = λ x above. ap (is_in x) gone_same ∙ is.gone_given x (above_old x above);
    absent = λ x out here.
        is.absent x (ap (λ (d : Document). is_element d.elements x) (sym done.document) ∙ out) (ap (is_in x) (sym gone_same) ∙ here);
    keeps = subst (λ (d : Document). AllKeep (standing_seen d new.sheets after kept)) (sym done.document)
        (subst AllKeep (sym changed_with)
        (keep-changed st (change_of scene (of_sheets edit) later) is.sound.valid (covered-edit scene is.sound (of_sheets edit) tt later of_later) is.keeps));
    once = is.once;
  }

-- done or not

module _ (old new : Content) (before after : PendingMembers) (kept : KeptView) (was : Derived) (edit : SheetEdit) (is : IsSession old before kept was) where
  pub sheets-accepted : {T E : Type 0} (result : Result T E) → OnOk result (EditsSheets old edit new before after)
      → OnOk result (scene_applied (scene_seen old.doc old.sheets) (of_sheets edit) ≡ accepted (scene_seen new.doc new.sheets))
  sheets-accepted (Ok x) done = scene-accepted old new before after kept was edit is done
  sheets-accepted (Err e) done = tt

  pub sheets-seen : {T E : Type 0} (result : Result T E) → OnOk result (EditsSheets old edit new before after)
      → OnOk result (standing_seen new.doc new.sheets after kept ≡ edited (standing_seen old.doc old.sheets before kept) (of_sheets edit))
  sheets-seen (Ok x) done = sheets-edited-seen old new before after kept was edit is done
  sheets-seen (Err e) done = tt

  pub sheets-session : {T E : Type 0} (result : Result T E) → OnOk result (EditsSheets old edit new before after)
      → OnErr result (IsUnedited old new before after) → (known : Derived) → AreReady (sources_seen new.sheets) known → IsSession new after kept known
  sheets-session (Ok x) done _ known ready = session-sheets old new before after kept was edit is done known ready
  sheets-session (Err e) _ still known ready = session-unedited old new before after kept was is still known ready

-- the answer to an edit that is not done

pub err-and : {T : Type 0} (result : Result T EditRefused) (P Q : EditRefused → Type 0) → ((why : EditRefused) → P why → Q why) → IsErrAnd result P → IfErr result Q
err-and (Ok x) P Q h it = tt
err-and (Err why) P Q h it = h why it

-- what is accepted has no refusal
pub no-refusal : (l after : SheetList) (edit : SheetEdit) → accepted after ≡ sheets_applied l edit → sheet_refusal l edit ≡ None
no-refusal l after edit = by (sheet_refusal l edit)
  where
    by : (o : Option Refusal) → accepted after ≡ outcome_of o (record { listed = sheets_after l.last edit l.listed; last = last_after l.last edit }) → o ≡ None
    by None h = refl
    by (Some why) h = absurd (cc)

error_by : (scene : Scene) (o : Option Refusal) (after : SheetList) → error_of (with_sheets scene (outcome_of o after)) ≡ unwrap_or (option_map refusal_answered o) NoMemory
error_by before None after = refl
error_by before (Some why) after = refl

pub sheets-why : {T : Type 0} (result : Result T EditRefused) (content : Content) (edit : SheetEdit)
    → IfErr result (λ why. why ≡ unwrap_or (option_map refusal_answered (sheet_refusal (listed_seen content.sheets) edit)) NoMemory)
    → IfErr result (λ why. why ≡ refusal_of (scene_seen content.doc content.sheets) (of_sheets edit))
sheets-why (Ok x) content edit h = tt
sheets-why (Err why) content edit h =
    h ∙ sym (error_by (scene_seen content.doc content.sheets) (sheet_refusal (listed_seen content.sheets) edit) _)
