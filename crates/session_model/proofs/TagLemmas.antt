-- What holds of all tags when batches of edits begin, and of the tags of the nodes that these put in, holds of the tags
-- in each scene that is told of.
use Rattle.std.proofs.Common.{List, [], ◌∷◌}
use Rattle.std.specs.List.{AllByRecursion}
use Rattle.scene_model.specs.Element.{Characters}
use Rattle.scene_model.specs.Document.{Document}
use Rattle.scene_model.specs.Scene.{Scene, elements_of}
use Rattle.scene_model.proofs.TagLemmas.{TagsHold}
use Rattle.edit_model.specs.Edit.{Edit, of_document, of_sheets}
use Rattle.edit_model.specs.Refusal.{Outcome, refused, accepted}
use Rattle.edit_model.specs.Apply.{applied}
use Rattle.edit_model.specs.SheetApply.{SheetList, sheets_applied}
use Rattle.edit_model.proofs.TagLemmas.{EditTagsHold, OutcomeHolds, applied_holds}
use Rattle.session_model.specs.Standing.{Standing, edited, edited_by, restyled, scene_applied, sheet_list, started, with_document, with_sheets}
use Rattle.session_model.specs.Batches.{Report, edited_all, reports, reports_from}

module _ (P : Characters → Type 0) where
  abbrev pub SceneTagsHold : Scene → Type 0
  SceneTagsHold scene = TagsHold P (elements_of scene)

  abbrev pub BatchTagsHold : List Edit → Type 0
  BatchTagsHold edits = AllByRecursion (EditTagsHold P) edits

  abbrev pub ReportTagsHold : Report → Type 0
  ReportTagsHold report = SceneTagsHold report.scene

  abbrev NextTagsHold : Outcome Scene → Type 0
  NextTagsHold (refused why) = Unit
  NextTagsHold (accepted scene) = SceneTagsHold scene

  next_holds : (scene : Scene) (edit : Edit) → SceneTagsHold scene → EditTagsHold P edit → NextTagsHold (scene_applied scene edit)
  next_holds scene (of_document edit) h k = by (applied scene.document edit) (applied_holds P scene.document edit h k) where
    by : (outcome : Outcome Document) → OutcomeHolds P outcome → NextTagsHold (with_document scene outcome)
    by (refused why) k = tt
    by (accepted d) k = k
  next_holds scene (of_sheets edit) h k = by (sheets_applied (sheet_list scene) edit) where
    by : (outcome : Outcome SheetList) → NextTagsHold (with_sheets scene outcome)
    by (refused why) = tt
    by (accepted list) = h

  edited_holds : (st : Standing) (edit : Edit) → SceneTagsHold st.scene → EditTagsHold P edit → SceneTagsHold (edited st edit).scene
  edited_holds st edit h k = by (scene_applied st.scene edit) (next_holds st.scene edit h k) where
    by : (outcome : Outcome Scene) → NextTagsHold outcome → SceneTagsHold (edited_by st edit outcome).scene
    by (refused why) k = h
    by (accepted scene) k = k

  all_hold : (st : Standing) (edits : List Edit) → SceneTagsHold st.scene → BatchTagsHold edits → SceneTagsHold (edited_all st edits).scene
  all_hold st [] h k = h
  all_hold st (edit ∷ edits) h k = all_hold (edited st edit) edits (edited_holds st edit h k.0) k.1

  from_holds : (st : Standing) (batches : List (List Edit)) → SceneTagsHold st.scene → AllByRecursion BatchTagsHold batches → AllByRecursion ReportTagsHold (reports_from st batches)
  from_holds st [] h k = tt
  from_holds st (batch ∷ batches) h k =
      let next : SceneTagsHold (edited_all st batch).scene = all_hold st batch h k.0 in
      (next, from_holds (restyled (edited_all st batch)) batches next k.1)

  pub reports_hold : (scene : Scene) (batches : List (List Edit)) → SceneTagsHold scene → AllByRecursion BatchTagsHold batches → AllByRecursion ReportTagsHold (reports scene batches)
  unfolding reports
  reports_hold scene batches h k = from_holds (started scene) ([] ∷ batches) h (tt, k)
