-- For `edit_document` and `Session::edit`: edits of the document of a session.
use Rattle.std.proofs.Common.{◌≡◌, ℕ, ◌<◌, List, filter, map, Bool, true, false, Option, Some, None, ◌||◌, ◌&&◌, Result, Ok, Err, OnOk, OnErr}
use Rattle.std.proofs.Common.{refl, sym, ap, subst, ◌∙◌, option_map, unwrap_or, arith}
use Rattle.std.specs.Prelude.{IfErr}
use Rattle.std.proofs.Math.Logic.{∥∥₁_elim}
use Rattle.std.specs.Coded.{Coded-set, coded_bool}
use Rattle.std.proofs.lemmas.Bool.{false≢true, false_from_ne_true}
use Rattle.scene_model.specs.Document.{Document}
use Rattle.scene_model.specs.Lookups.{is_element, numbers}
use Rattle.scene_model.specs.Numbers.{is_in}
use Rattle.scene_model.specs.Scene.{Scene}
use Rattle.change_model.specs.Sound.{IsSound}
use Rattle.stylo_base.specs.declared.refusal.EditRefused.{EditRefused}
use Rattle.stylo_base.specs.declared.refusal.EditRefused.TheVariants.{NoMemory}
use Rattle.sheet_model.specs.Sources.{Sources}
use Rattle.edit_model.specs.Apply.{applied, refusal}
use Rattle.edit_model.specs.Edit.{DocEdit as ModelEdit, of_document, IsShaped}
use Rattle.edit_model.specs.Marked.{is_marked}
use Rattle.edit_model.specs.Refusal.{Refusal, accepted, outcome_of}
use Rattle.edit_model.specs.Steady.{SameTags}
use Rattle.edit_model.specs.Touched.{Touch}
use Rattle.edit_model.specs.TouchedBy.{AreTouched}
use Rattle.edit_model.proofs.Accepted.{tags-after}
use Rattle.dom_edits.specs.EditView.{doc_edit_seen, refusal_answered}
use Rattle.dom_edits.specs.declared.edits.DocEdit.{DocEdit}
use Rattle.invalidation_map.specs.Marks.{AreMarked}
use Rattle.invalidation_map.specs.Members.{Members}
use Rattle.invalidation_map.specs.Rows.{Row}
use Rattle.sheet_set.specs.View.{kept_seen, sources_seen}
use Rattle.sheet_set.specs.declared.sheets.Sheets.{Sheets}
use Rattle.session_model.specs.Marking.{marking_selectors, selectors_of}
use Rattle.session_model.specs.Standing.{Standing, edited, scene_applied, with_document}
use Rattle.session_model.specs.StandingInvariant.{AllKeep}
use Rattle.session_model.specs.Walk.{placed_styles}
use Rattle.style_session.specs.Answers.{error_of, refusal_of}
use Rattle.style_session.specs.Edits.{AddsMarks, AreGoneToo, AreMarkedToo, EditsDocument, IsPendingStill, IsUnedited}
use Rattle.style_session.specs.KeptView.{KeptView, style_at}
use Rattle.style_session.specs.PendingView.{PendingMembers, is_fresh_in, without_room}
use Rattle.style_session.specs.SessionView.{elements_in, scene_seen, standing_seen}
use Rattle.style_session.specs.Sessions.{AreGiven, AreReady, IsSession}
use Rattle.style_session.specs.declared.content.Content.{Content}
use Rattle.style_session.specs.declared.derived.Derived.{Derived}
use Rattle.style_session.proofs.EditedLemmas.{Changes, changes-applied, edited-with, keeps-edited, sound-edited}
use Rattle.style_session.proofs.ListEdits.{accepted_is}
use Rattle.style_session.proofs.SessionSheets.{same-scene, sources-texts}
use Rattle.style_session.proofs.SessionStarts.{no-element}
use Rattle.style_session.proofs.TreeEdits.{gone-same}

-- what is added by rows is what the edit marks
pub adds-marks : (old new : Document) (edit : ModelEdit) (pairs : List (Touch × ℕ)) (rows : List Row) (marks : List ℕ) (before now : Members)
    → IsSound old → IsShaped edit → applied old edit ≡ accepted new → AreTouched old.elements new.elements pairs
    → before.items ≡ marks → AreMarked new.elements pairs rows before now
    → AddsMarks old.elements new.elements rows marks now.items
adds-marks old new edit pairs rows marks before now sound w h touched same marked = λ selectors are x.
    let (none, is) = accepted_is old new edit h in
    (marked old.elements selectors (subst (λ (d : Document). SameTags old.elements d.elements) is (tags-after old sound edit w none)) touched.exact are).each x
    ∙ ap (λ l. is_in x l || is_marked old.elements new.elements selectors x) same

-- the answer to an edit that is not done

error_by : (scene : Scene) (o : Option Refusal) (after : Document)
    → error_of (with_document scene (outcome_of o after)) ≡ unwrap_or (option_map refusal_answered o) NoMemory
error_by scene None after = refl
error_by scene (Some why) after = refl

pub refused-seen : {T : Type 0} (result : Result T EditRefused) (content : Content) (edit : DocEdit)
    → IfErr result (λ why. why ≡ unwrap_or (option_map refusal_answered (refusal content.doc (doc_edit_seen edit))) NoMemory)
    → IfErr result (λ why. why ≡ refusal_of (scene_seen content.doc content.sheets) (of_document (doc_edit_seen edit)))
refused-seen (Ok x) content edit h = tt
refused-seen (Err why) content edit h =
    h ∙ sym (error_by (scene_seen content.doc content.sheets) (refusal content.doc (doc_edit_seen edit)) _)

-- where nothing refuses an edit, it is that memory ran out
pub no-memory : (d : Document) (edit : ModelEdit) → refusal d edit ≡ None → NoMemory ≡ unwrap_or (option_map refusal_answered (refusal d edit)) NoMemory
no-memory d edit none = sym (ap (λ o. unwrap_or (option_map refusal_answered o) NoMemory) none)

-- The marks are those that the model tells of.
marked-now : (old new : Document) (sheets : Sheets) (marks now : List ℕ)
    → AreMarkedToo old.elements new.elements (sources_seen sheets) marks now → (x : ℕ)
    → is_in x now ≡ (is_in x marks || is_marked old.elements new.elements (marking_selectors (map kept_seen sheets.sheets.items)) x)
marked-now old new sheets marks now h x =
    ∥∥₁_elim (sources-texts sheets) (Coded-set coded_bool _ _) (λ same.
    subst (λ (s : Sources). is_in x now ≡ (is_in x marks || is_marked old.elements new.elements (selectors_of s) x)) same (h x))

pub none_out : (a b : Bool) → a ≡ false → (a && b) ≡ false
none_out true b h = absurd (false≢true (sym h))
none_out false b h = refl

-- an edit that is done

module _ (old new : Content) (before after : PendingMembers) (kept : KeptView) (was : Derived) (edit : ModelEdit) (w : IsShaped edit)
    (is : IsSession old before kept was) (done : EditsDocument old edit new before after) where
  changes : Changes old.doc new.doc edit
  changes = changes-applied old.doc new.doc is.sound edit w done.accepts

  sound : IsSound new.doc
  sound = sound-edited (scene_seen old.doc old.sheets) new.doc edit w is.sound done.accepts

  none_above : (x : ℕ) → old.doc.last < x → style_at kept x ≡ None
  none_above x above = is.absent x (no-element old.doc is.sound x above) (is.gone_given x above)

  abbrev marks : ℕ → Bool
  marks x = is_marked old.doc.elements new.doc.elements (marking_selectors (map kept_seen old.sheets.sheets.items)) x

  marked : (x : ℕ) → is_in x after.marked ≡ (is_in x before.marked || marks x)
  marked = marked-now old.doc new.doc old.sheets before.marked after.marked done.marked

  of_old : standing_seen new.doc old.sheets after kept ≡ edited (standing_seen old.doc old.sheets before kept) (of_document edit)
  of_old =
      edited-with (scene_seen old.doc old.sheets) new.doc edit w is.sound done.accepts before.marked after.marked kept.recent (is_fresh_in before)
      (is_fresh_in after) (style_at kept) is.marks_given none_above marked done.fresh

  pub edited-seen : standing_seen new.doc new.sheets after kept ≡ edited (standing_seen old.doc old.sheets before kept) (of_document edit)
  edited-seen = ap (λ s. standing_seen new.doc s after kept) done.sheets ∙ of_old

  keeps : AllKeep (standing_seen new.doc old.sheets after kept)
  keeps =
      keeps-edited (scene_seen old.doc old.sheets) new.doc edit w is.sound done.accepts before.marked after.marked kept.recent (is_fresh_in before)
      (is_fresh_in after) (style_at kept) is.marks_given none_above marked done.fresh is.keeps

  given_still : (list : List ℕ) → AreGiven old.doc.last list → AreGiven new.doc.last list
  given_still list given x above = given x (omega (arith, above, changes.last))

  -- what is marked now was, or is an element
  marks_given : AreGiven new.doc.last after.marked
  marks_given x above =
      marked x
      ∙ (ap (λ b. b || marks x) (given_still before.marked is.marks_given x above)
      ∙ none_out (is_element new.doc.elements x) _ (no-element new.doc sound x above))

  -- what is gone now was, or was an element
  gone_given : AreGiven new.doc.last after.gone
  gone_given x above =
      let over : old.doc.last < x = omega (arith, above, changes.last) in
      false_from_ne_true (is_in x after.gone) (λ there.
      false≢true (sym (no-element old.doc is.sound x over) ∙ done.gone.of_old x there (is.gone_given x over)))

  absent : (x : ℕ) → is_element new.doc.elements x ≡ false → is_in x after.gone ≡ false → style_at kept x ≡ None
  absent x out here = by (is_element old.doc.elements x) refl
    where
      by : (b : Bool) → is_element old.doc.elements x ≡ b → style_at kept x ≡ None
      by true e = absurd (false≢true (sym here ∙ done.gone.removed x e out))
      by false e = is.absent x e (false_from_ne_true (is_in x before.gone) (λ there. false≢true (sym here ∙ done.gone.stays x there)))

  pub session-edited : (known : Derived) → AreReady (sources_seen new.sheets) known → IsSession new after kept known
  session-edited known ready = record {
    sound = sound;
    ready = ready;
    marks_given = marks_given;
    gone_given = gone_given;
    absent = absent;
    keeps = subst (λ s. AllKeep (standing_seen new.doc s after kept)) (sym done.sheets) keeps;
    once = is.once;
  }

-- and one that is not

pub unedited-same : (content : Content) (pending : PendingMembers) → IsUnedited content content pending pending
unedited-same content pending = record {
  document = refl;
  sheets = record { sheets = refl; last = refl; rules = refl; selectors = refl; ranks = refl; positions = refl; layers = refl };
  pending = record { marked = refl; fresh = refl; gone = gone-same content.doc content.doc pending.gone (λ x there. there) };
}

-- room is asked nowhere
pub still-roomier : (document : Document) (before after : PendingMembers) → without_room after ≡ without_room before → IsPendingStill document before after
still-roomier document before after same = record {
  marked = ap (λ (p : PendingMembers). p.marked) same;
  fresh = ap is_fresh_in same;
  gone = subst (λ (p : PendingMembers). AreGoneToo document document before.gone p.gone) (sym same)
      (gone-same document document before.gone (λ x there. there));
}

module _ (old new : Content) (before after : PendingMembers) (kept : KeptView) (was : Derived) (is : IsSession old before kept was)
    (still : IsUnedited old new before after) where
  abbrev stand : Scene → List ℕ → (ℕ → Bool) → Standing
  stand scene marks fresh = record {
    scene = scene;
    marked = elements_in old.doc marks;
    fresh = filter fresh (numbers old.doc.elements);
    kept = placed_styles (style_at kept) old.doc;
    recent = kept.recent;
  }

  -- it is seen as before
  pub unedited-seen : standing_seen new.doc new.sheets after kept ≡ standing_seen old.doc old.sheets before kept
  unedited-seen =
      ap (λ (d : Document). standing_seen d new.sheets after kept) still.document
      ∙ (ap (λ scene. stand scene after.marked (is_fresh_in after)) (same-scene old.doc old.sheets new.sheets still.sheets)
      ∙ (ap (λ l. stand (scene_seen old.doc old.sheets) l (is_fresh_in after)) still.pending.marked
      ∙ ap (stand (scene_seen old.doc old.sheets) before.marked) still.pending.fresh))

  above_old : (x : ℕ) → new.doc.last < x → old.doc.last < x
  above_old x above = subst (λ (d : Document). d.last < x) still.document above

  pub session-unedited : (known : Derived) → AreReady (sources_seen new.sheets) known → IsSession new after kept known
  session-unedited known ready = record {
    sound = subst IsSound (sym still.document) is.sound;
    ready = ready;
    marks_given = λ x above. ap (is_in x) still.pending.marked ∙ is.marks_given x (above_old x above);
    gone_given = λ x above.
        let over = above_old x above in
        false_from_ne_true (is_in x after.gone) (λ there.
        false≢true (sym (no-element old.doc is.sound x over) ∙ still.pending.gone.of_old x there (is.gone_given x over)));
    absent = λ x out here.
        is.absent x (ap (λ (d : Document). is_element d.elements x) (sym still.document) ∙ out)
        (false_from_ne_true (is_in x before.gone) (λ there. false≢true (sym here ∙ still.pending.gone.stays x there)));
    keeps = subst AllKeep (sym unedited-seen) is.keeps;
    once = is.once;
  }

-- done or not

pub edit-accepted : {T E : Type 0} (result : Result T E) (old new : Content) (before after : PendingMembers) (edit : ModelEdit)
    → OnOk result (EditsDocument old edit new before after)
    → OnOk result (scene_applied (scene_seen old.doc old.sheets) (of_document edit) ≡ accepted (scene_seen new.doc new.sheets))
edit-accepted (Ok x) old new before after edit done =
    ap (with_document (scene_seen old.doc old.sheets)) done.accepts ∙ ap (λ s. accepted (scene_seen new.doc s)) (sym done.sheets)
edit-accepted (Err e) old new before after edit done = tt

module _ (old new : Content) (before after : PendingMembers) (kept : KeptView) (was : Derived) (edit : ModelEdit) (w : IsShaped edit)
    (is : IsSession old before kept was) where
  pub edit-seen : {T E : Type 0} (result : Result T E) → OnOk result (EditsDocument old edit new before after)
      → OnOk result (standing_seen new.doc new.sheets after kept ≡ edited (standing_seen old.doc old.sheets before kept) (of_document edit))
  edit-seen (Ok x) done = edited-seen old new before after kept was edit w is done
  edit-seen (Err e) done = tt

  pub edit-session : {T E : Type 0} (result : Result T E) → OnOk result (EditsDocument old edit new before after)
      → OnErr result (IsUnedited old new before after) → (known : Derived) → AreReady (sources_seen new.sheets) known → IsSession new after kept known
  edit-session (Ok x) done _ known ready = session-edited old new before after kept was edit w is done known ready
  edit-session (Err e) _ still known ready = session-unedited old new before after kept was is still known ready

pub edit-kept : {T E : Type 0} (result : Result T E) (old new : Content) (before after : PendingMembers) (kept : KeptView) (was : Derived)
    → IsSession old before kept was → OnErr result (IsUnedited old new before after)
    → OnErr result (standing_seen new.doc new.sheets after kept ≡ standing_seen old.doc old.sheets before kept)
edit-kept (Ok x) old new before after kept was is still = tt
edit-kept (Err e) old new before after kept was is still = unedited-seen old new before after kept was is still
