use Rattle.std.proofs.Common.{◌≡◌, ◌+◌, ◌++◌, drop, map}
use Rattle.std.specs.List.{AllByRecursion}
use Rattle.edit_model.specs.Edit.{IsShapedEdit}
use Rattle.session_model.specs.Batches.{edited_all, refused_from}
use Rattle.style_cli.specs.Printing.{answered, edits_seen}
use Rattle.style_cli.proofs.batch.edit_all.Given as goal

-- what comes of the others, after what came of the first ones
abbrev pub invariant-loop-index : goal.invariant-loop-index
invariant-loop-index l = record {
  session : edited_all l.session (edits_seen (drop l.index l.edits)) ≡ edited_all l.initial.session (edits_seen l.edits);
  refused : l.refused.items ++ map answered (refused_from (l.index + 1) l.session (edits_seen (drop l.index l.edits))) ≡ map answered (refused_from 1 l.initial.session (edits_seen l.edits));
  shaped : AllByRecursion IsShapedEdit (edits_seen (drop l.index l.edits)) → AllByRecursion IsShapedEdit (edits_seen l.edits);
}
