-- For `edit_document`: what an accepted edit of a document makes of the standing of a session.
use Rattle.std.proofs.Common.{◌≡◌, ℕ, ◌<◌, ◌≤◌, List, filter, Bool, true, false, ◌||◌, Option, Some, None, refl, sym, ap, subst, ◌∙◌, arith}
use Rattle.std.proofs.lemmas.Bool.{false≢true, or_right}
use Rattle.base_model.proofs.Lists.{each_any}
use Rattle.scene_model.specs.Lookups.{numbers, is_element, IsElement}
use Rattle.scene_model.specs.Document.{Document}
use Rattle.scene_model.specs.Numbers.{is_in}
use Rattle.scene_model.specs.Scene.{Scene}
use Rattle.scene_model.proofs.Lists.{filter_same}
use Rattle.change_model.specs.Sound.{IsSound}
use Rattle.change_model.specs.Fresh.{AreFresh}
use Rattle.change_model.proofs.Moved.{is_element-moved}
use Rattle.value_model.specs.Style.{Style}
use Rattle.edit_model.specs.Edit.{DocEdit, of_document, insert, remove, move, set, unset, set_state, IsShaped}
use Rattle.edit_model.specs.Refusal.{Refusal, accepted, outcome_of}
use Rattle.edit_model.specs.Apply.{after, applied, is_fresh, refusal}
use Rattle.edit_model.specs.Marked.{is_marked}
use Rattle.edit_model.proofs.Accepted.{fresh-after, of_move}
use Rattle.session_model.specs.Marking.{marking_selectors}
use Rattle.session_model.specs.Standing.{change_of, changed, scene_applied, with_document, edited_by, edited}
use Rattle.session_model.specs.StandingInvariant.{AllKeep}
use Rattle.session_model.specs.Walk.{placed_styles}
use Rattle.session_model.proofs.EditLemmas.{covered-edit, sound-edit}
use Rattle.session_model.proofs.FlagLemmas.{flags-changed}
use Rattle.session_model.proofs.KeepsLemmas.{keep-changed}
use Rattle.session_model.proofs.ListedLemmas.{among-numbers}
use Rattle.session_model.proofs.SlotLemmas.{placed-changed}
use Rattle.style_session.specs.SessionView.{elements_in}
use Rattle.style_session.specs.Sessions.{AreGiven}
use Rattle.style_session.proofs.SessionLemmas.{each_element, same_parts, standing_with}

-- What is not fresh was there, no number is taken back, and an element that was none before has a number above all that
-- were given.
pub record Changes (old new : Document) (edit : DocEdit) : Type 0 where
  pub fresh : AreFresh old.elements new.elements (is_fresh old edit)
  pub last : old.last ≤ new.last
  pub anew : (x : ℕ) → IsElement new.elements x → is_element old.elements x ≡ false → old.last < x

pub last_stays : (d : Document) (edit : DocEdit) → d.last ≤ (after d edit).last
last_stays d (insert p index nodes) = omega arith
last_stays d (remove n) = omega arith
last_stays d (move n p index) = omega arith
last_stays d (set x name text) = omega arith
last_stays d (unset x name) = omega arith
last_stays d (set_state x state on) = omega arith

-- what was no element is fresh
new_fresh : (old new : Document) (fresh : ℕ → Bool) → AreFresh old.elements new.elements fresh → (x : ℕ) → IsElement new.elements x → is_element old.elements x ≡ false → fresh x ≡ true
new_fresh old new fresh are x now none = by (fresh x) refl
  where
    by : (b : Bool) → fresh x ≡ b → fresh x ≡ true
    by true e = e
    by false e = absurd (false≢true (sym none ∙ are.there x now e))

module _ (d : Document) (s : IsSound d) where
  above : (edit : DocEdit) → IsShaped edit → refusal d edit ≡ None → (x : ℕ) → IsElement (after d edit).elements x → is_element d.elements x ≡ false → d.last < x
  above (insert p index nodes) w h x now none =
      let e = new_fresh d (after d (insert p index nodes)) (is_fresh d (insert p index nodes)) (fresh-after d s (insert p index nodes) w h) x now none in
      grind (arith, e)
  above (remove n) w h x now none =
      absurd (false≢true (new_fresh d (after d (remove n)) (is_fresh d (remove n)) (fresh-after d s (remove n) w h) x now none))
  above (move n p index) w h x now none =
      let (o, can) = of_move d s n p index h in
      absurd (false≢true (sym none ∙ (sym (is_element-moved can index x) ∙ now)))
  above (set y name text) w h x now none =
      absurd (false≢true (new_fresh d (after d (set y name text)) (is_fresh d (set y name text)) (fresh-after d s (set y name text) w h) x now none))
  above (unset y name) w h x now none =
      absurd (false≢true (new_fresh d (after d (unset y name)) (is_fresh d (unset y name)) (fresh-after d s (unset y name) w h) x now none))
  above (set_state y state on) w h x now none =
      absurd (false≢true (new_fresh d (after d (set_state y state on)) (is_fresh d (set_state y state on)) (fresh-after d s (set_state y state on) w h) x now none))

  changes_after : (edit : DocEdit) → IsShaped edit → refusal d edit ≡ None → Changes d (after d edit) edit
  changes_after edit w h =
      record { fresh = fresh-after d s edit w h; last = last_stays d edit; anew = above edit w h }

pub changes-applied : (old new : Document) → IsSound old → (edit : DocEdit) → IsShaped edit → applied old edit ≡ accepted new → Changes old new edit
changes-applied old new s edit w = by (refusal old edit) refl
  where
    by : (o : Option Refusal) → refusal old edit ≡ o → outcome_of o (after old edit) ≡ accepted new → Changes old new edit
    by None e h =
        let same : after old edit ≡ new = cc in
        subst (λ (d : Document). Changes old d edit) same (changes_after old s edit w e)
    by (Some why) e h = absurd (cc)

-- the elements that are marked and fresh afterwards

module _ (old new : Document) (edit : DocEdit) (is : Changes old new edit) where
  -- what is listed stays, and what is added comes to it
  list_grows : (adds : ℕ → Bool) (list now : List ℕ) → AreGiven old.last list → ((x : ℕ) → is_in x now ≡ (is_in x list || adds x))
      → elements_in new now ≡ filter (λ x. is_in x (elements_in old list) || adds x) (numbers new.elements)
  list_grows adds list now given grown =
      filter_same (λ x. is_in x now) (λ x. is_in x list || adds x) (numbers new.elements) (each_any (λ x. is_in x now ≡ (is_in x list || adds x)) grown (numbers new.elements))
      ∙ flags-changed (λ x. is_in x list) adds old.elements new.elements old.last given is.anew

  abbrev AreFreshNow : (ℕ → Bool) → (ℕ → Bool) → Type 0
  AreFreshNow fresh now = (x : ℕ) → IsElement new.elements x → now x ≡ (fresh x || is_fresh old edit x)

  fresh_grows : (fresh now : ℕ → Bool) → AreFreshNow fresh now
      → filter now (numbers new.elements) ≡ filter (λ x. is_in x (filter fresh (numbers old.elements)) || is_fresh old edit x) (numbers new.elements)
  fresh_grows fresh now grown =
      filter_same now (λ x. is_in x (filter fresh (numbers old.elements)) || is_fresh old edit x) (numbers new.elements)
      (each_element new.elements (λ x. now x ≡ (is_in x (filter fresh (numbers old.elements)) || is_fresh old edit x)) (λ x there. grown x there ∙ by x there (is_fresh old edit x) refl))
    where
      by : (x : ℕ) → IsElement new.elements x → (b : Bool) → is_fresh old edit x ≡ b → (fresh x || is_fresh old edit x) ≡ (is_in x (filter fresh (numbers old.elements)) || is_fresh old edit x)
      by x there true e =
          or_right (fresh x) (is_fresh old edit x) e ∙ sym (or_right (is_in x (filter fresh (numbers old.elements))) (is_fresh old edit x) e)
      by x there false e =
          ap (λ b. b || is_fresh old edit x) (sym (among-numbers old.elements fresh x (is.fresh.there x there e)))

  kept_stays : (slot : ℕ → Option Style) → ((x : ℕ) → old.last < x → slot x ≡ None) → placed_styles slot new ≡ filter (λ (e : ℕ × Style). is_element new.elements e.0) (placed_styles slot old)
  kept_stays slot none = sym (placed-changed slot old new is.last none is.anew)

-- the standing afterwards

module _ (scene : Scene) (new : Document) (edit : DocEdit) (w : IsShaped edit) (sound : IsSound scene.document) (h : applied scene.document edit ≡ accepted new) where
  abbrev old : Document
  old = scene.document

  abbrev pub later : Scene
  later = record scene { document = new }

  is : Changes old new edit
  is = changes-applied old new sound edit w h

  scene_accepted : scene_applied scene (of_document edit) ≡ accepted later
  scene_accepted = ap (with_document scene) h

  pub sound-edited : IsSound new
  sound-edited = sound-edit scene sound (of_document edit) w later scene_accepted

  module _ (marks now recent : List ℕ) (fresh fresh_now : ℕ → Bool) (slot : ℕ → Option Style) (marks_given : AreGiven old.last marks) (none : (x : ℕ) → old.last < x → slot x ≡ None) (marked : (x
      : ℕ) → is_in x now ≡ (is_in x marks || is_marked old.elements new.elements (marking_selectors scene.sheets) x)) (freshened : (x : ℕ) → IsElement new.elements x → fresh_now x ≡ (fresh x ||
      is_fresh old edit x)) where
    changed_with : standing_with later now fresh_now slot recent ≡ changed (standing_with scene marks fresh slot recent) (change_of scene (of_document edit) later)
    changed_with =
        same_parts later _ _ _ _ _ _ _ _
        (list_grows old new edit is (is_marked old.elements new.elements (marking_selectors scene.sheets)) marks now marks_given marked)
        (fresh_grows old new edit is fresh fresh_now freshened) (kept_stays old new edit is slot none) refl

    pub edited-with : standing_with later now fresh_now slot recent ≡ edited (standing_with scene marks fresh slot recent) (of_document edit)
    edited-with =
        changed_with ∙ ap (edited_by (standing_with scene marks fresh slot recent) (of_document edit)) (sym scene_accepted)

    pub keeps-edited : AllKeep (standing_with scene marks fresh slot recent) → AllKeep (standing_with later now fresh_now slot recent)
    keeps-edited all =
        subst AllKeep (sym changed_with)
        (keep-changed (standing_with scene marks fresh slot recent) (change_of scene (of_document edit) later) sound-edited.valid (covered-edit scene sound (of_document edit) w later
        scene_accepted) all)
