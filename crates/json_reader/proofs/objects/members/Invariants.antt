use Rattle.std.proofs.Common.{length}
use Rattle.serde_json.specs.Data.{Members, no_members}
use Rattle.json_reader.specs.Taken.{members_taken}
use Rattle.json_reader.proofs.Turns.{AreMembersFound}
use Rattle.json_reader.proofs.objects.members.Given as goal

abbrev pub invariant-members : goal.invariant-members
invariant-members g l =
    (found : Members) × AreMembersFound l.depth (members_taken l.depth no_members (length l.initial.reader) l.initial.reader) (length l.initial.reader) l.reader found × g.K.KeepMembers.keeps l.kept found

abbrev pub decreases-members : goal.decreases-members
decreases-members g l = length l.reader
