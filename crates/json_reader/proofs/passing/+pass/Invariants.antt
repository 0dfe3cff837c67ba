use Rattle.std.proofs.Common.{◌+◌, ◌*◌, List, length}
use Rattle.serde_json.specs.Data.{Data, Members, no_members}
use Rattle.json_reader.specs.Taken.{items_taken, members_taken}
use Rattle.json_reader.proofs.Turns.{AreItemsFound, AreMembersFound}
use Rattle.json_reader.proofs.passing.+pass.Given as goal

abbrev pub decreases-pass : goal.decreases-pass
decreases-pass l = 3 * l.depth + 1

abbrev pub decreases-pass_after : goal.decreases-pass_after
decreases-pass_after l = 3 * l.depth

abbrev pub decreases-pass_items : goal.decreases-pass_items
decreases-pass_items l = 3 * l.depth + 2

abbrev pub decreases-pass_members : goal.decreases-pass_members
decreases-pass_members l = 3 * l.depth + 2

abbrev pub invariant-pass_items-items : goal.invariant-pass_items-items
invariant-pass_items-items l =
    (ds : List Data) × AreItemsFound l.depth (items_taken l.depth (length l.initial.reader) l.initial.reader) (length l.initial.reader) l.reader ds

abbrev pub decreases-pass_items-items : goal.decreases-pass_items-items
decreases-pass_items-items l = length l.reader

abbrev pub invariant-pass_members-members : goal.invariant-pass_members-members
invariant-pass_members-members l =
    (found : Members) × AreMembersFound l.depth (members_taken l.depth no_members (length l.initial.reader) l.initial.reader) (length l.initial.reader) l.reader found

abbrev pub decreases-pass_members-members : goal.decreases-pass_members-members
decreases-pass_members-members l = length l.reader
