-- The scene in which a job begins: edits and restyles may start with it, and its sheets have numbers of their own.
use Rattle.scene_model.specs.Nodes.{IsNodeList}
use Rattle.change_model.proofs.Started.{IsSound-document_of}
use Rattle.edit_model.specs.SheetApply.{AreNumbered}
use Rattle.session_model.specs.Standing.{started, sheet_list}
use Rattle.session_model.specs.StandingInvariant.{IsReached, at_start}
use Rattle.sheet_set.proofs.FirstSheets.{numbered-first}
use Rattle.job_json.specs.declared.Job.{Job}
use Rattle.style_cli.specs.Text.{first_scene}

pub first-reached : (job : Job) → IsNodeList job.nodes → IsReached (started (first_scene job))
first-reached job w = at_start (first_scene job) (IsSound-document_of job.nodes w)

pub first-numbered : (job : Job) → AreNumbered (sheet_list (first_scene job))
first-numbered job = numbered-first job.sheets
