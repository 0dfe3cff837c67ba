-- The invariant holds at the start, over edits and over restyles, so in each standing that they lead to.
use Rattle.std.proofs.Common.{◌≡◌, ℕ, false, Some, refl, ap}
use Rattle.std.specs.List.{AllByRecursion}
use Rattle.base_model.proofs.Lists.{each_any, each-map}
use Rattle.scene_model.proofs.Lists.{each-filter}
use Rattle.std.proofs.lemmas.Bool.{or_parts}
use Rattle.scene_model.specs.Lookups.{is_element, IsElement}
use Rattle.scene_model.specs.Valid.{IsValid}
use Rattle.scene_model.specs.Scene.{Scene, elements_of}
use Rattle.change_model.specs.Sound.{IsSound}
use Rattle.sheet_model.specs.Sources.{sources_of}
use Rattle.edit_model.specs.Edit.{Edit, IsShapedEdit}
use Rattle.edit_model.specs.Refusal.{Refusal, Outcome, refused, accepted}
use Rattle.session_model.specs.Standing.{Standing, Change, rising, style_in, kept_at, is_matched, is_cascaded, is_open, started, restyled, changed, change_of, scene_applied, edited_by, edited}
use Rattle.session_model.specs.StandingInvariant.{StandingInvariant, AllKeep, IsCovered, IsReached, at_start, by_edit, by_restyle, IsSince, since_start, since_edit, since_restyle, IsStyleIn}
use Rattle.session_model.proofs.CalmLemmas.{calm_itself, calm_on}
use Rattle.session_model.proofs.EditLemmas.{sound-edit, covered-edit}
use Rattle.session_model.proofs.KeepsLemmas.{matched-changed, keep-started, keep-changed, keep-restyled, kept-not_cascaded}
use Rattle.session_model.proofs.OpenLemmas.{kept-not_open}

pub invariant-started : (scene : Scene) → StandingInvariant scene (started scene)
invariant-started scene = record {
  calm = λ x there h. calm_itself (elements_of scene) (sources_of scene.sheets) x there;
  keeps = keep-started scene;
}

pub invariant-changed : (was : Scene) (st : Standing) (change : Change) → IsValid (elements_of change.after) → IsCovered st.scene change → StandingInvariant was st → StandingInvariant was (changed st change)
invariant-changed was st change v covered held = record {
  calm = λ x there h.
      let (m, (n, f)) = matched-changed st change x there h in
      let next = covered.calm x there (record { fresh = f; marked = n }) in
      calm_on (elements_of was) (elements_of st.scene) (elements_of change.after) (sources_of was.sheets) (sources_of st.scene.sheets) (sources_of change.after.sheets) x (held.calm x next.there m) next;
  keeps = keep-changed st change v covered held.keeps;
}

pub invariant-restyled : (st : Standing) → IsSound st.scene.document → StandingInvariant st.scene (restyled st)
invariant-restyled st sound = record {
  calm = λ x there h. calm_itself (elements_of st.scene) (sources_of st.scene.sheets) x there;
  keeps = keep-restyled st sound;
}

-- refused or accepted

sound_by : (st : Standing) → IsSound st.scene.document → (edit : Edit) → IsShapedEdit edit → (o : Outcome Scene) → scene_applied st.scene edit ≡ o → IsSound (edited_by st edit o).scene.document
sound_by st s edit w (refused why) h = s
sound_by st s edit w (accepted after) h = sound-edit st.scene s edit w after h

invariant_by : (was : Scene) (st : Standing) → IsSound st.scene.document → StandingInvariant was st → (edit : Edit) → IsShapedEdit edit → (o : Outcome Scene) → scene_applied st.scene edit ≡ o → StandingInvariant was (edited_by st edit o)
invariant_by was st s held edit w (refused why) h = held
invariant_by was st s held edit w (accepted after) h =
    invariant-changed was st (change_of st.scene edit after) (sound-edit st.scene s edit w after h).valid (covered-edit st.scene s edit w after h) held

pub sound-edited : (st : Standing) → IsSound st.scene.document → (edit : Edit) → IsShapedEdit edit → IsSound (edited st edit).scene.document
sound-edited st s edit w = sound_by st s edit w (scene_applied st.scene edit) refl

pub invariant-edited : (was : Scene) (st : Standing) → IsSound st.scene.document → StandingInvariant was st → (edit : Edit) → IsShapedEdit edit → StandingInvariant was (edited st edit)
invariant-edited was st s held edit w = invariant_by was st s held edit w (scene_applied st.scene edit) refl

-- in each standing that edits and restyles lead to

pub sound-reached : (st : Standing) → IsReached st → IsSound st.scene.document
sound-reached st (at_start scene sound) = sound
sound-reached st (by_edit old edit w reached) = sound-edited old (sound-reached old reached) edit w
sound-reached st (by_restyle old reached) = sound-reached old reached

pub reached-since : (was : Scene) (st : Standing) → IsSince was st → IsReached st
reached-since was st (since_start scene sound) = at_start scene sound
reached-since was st (since_edit _ old edit w since) = by_edit old edit w (reached-since was old since)
reached-since was st (since_restyle old reached) = by_restyle old reached

pub invariant-since : (was : Scene) (st : Standing) → IsSince was st → StandingInvariant was st
invariant-since was st (since_start scene sound) = invariant-started scene
invariant-since was st (since_edit _ old edit w since) =
    invariant-edited was old (sound-reached old (reached-since was old since)) (invariant-since was old since) edit w
invariant-since was st (since_restyle old reached) = invariant-restyled old (sound-reached old reached)

-- there is such a scene
pub since-reached : (st : Standing) → IsReached st → (was : Scene) × IsSince was st
since-reached st (at_start scene sound) = (scene, since_start scene sound)
since-reached st (by_edit old edit w reached) =
    let (was, since) = since-reached old reached in (was, since_edit was old edit w since)
since-reached st (by_restyle old reached) = (old.scene, since_restyle old reached)

pub keeps-reached : (st : Standing) → IsReached st → AllKeep st
keeps-reached st reached = let (was, since) = since-reached st reached in (invariant-since was st since).keeps

-- what is not open has the style that it has in the scene, and so has what is not cascaded

pub not_open-reached : (st : Standing) → IsReached st → (x : ℕ) → IsElement (elements_of st.scene) x → is_open st x ≡ false → kept_at st x ≡ Some (style_in st.scene x)
not_open-reached st reached x there h =
    kept-not_open st (sound-reached st reached).valid (keeps-reached st reached) x there h

pub not_cascaded-reached : (st : Standing) → IsReached st → (x : ℕ) → IsElement (elements_of st.scene) x → is_cascaded st x ≡ false → kept_at st x ≡ Some (style_in st.scene x)
not_cascaded-reached st reached x there h =
    kept-not_cascaded st (sound-reached st reached).valid x ((keeps-reached st reached) x there (or_parts (is_matched st x) _ h).0) h

-- each style that is kept is the one that its element had in the scene of the last restyle

kept_by : (was : Scene) (st : Standing) (edit : Edit) (o : Outcome Scene) → AllByRecursion (IsStyleIn was) st.kept → AllByRecursion (IsStyleIn was) (edited_by st edit o).kept
kept_by was st edit (refused why) h = h
kept_by was st edit (accepted after) h =
    each-filter (IsStyleIn was) (IsStyleIn was) (λ e. is_element (elements_of after) e.0) (λ e _ k. k) st.kept h

pub kept-since : (was : Scene) (st : Standing) → IsSince was st → AllByRecursion (IsStyleIn was) st.kept
kept-since was st (since_start scene sound) = tt
kept-since was st (since_edit _ old edit w since) =
    kept_by was old edit (scene_applied old.scene edit) (kept-since was old since)
kept-since was st (since_restyle old reached) =
    each-map (IsStyleIn old.scene) (λ x. (x, style_in old.scene x)) (rising old.scene.document) (each_any (λ x. style_in old.scene x ≡ style_in old.scene x) (λ x. refl) (rising old.scene.document))

-- what is refused changes nothing
pub refused-stays : (st : Standing) (edit : Edit) (why : Refusal) → scene_applied st.scene edit ≡ refused why → edited st edit ≡ st
refused-stays st edit why h = ap (edited_by st edit) h
