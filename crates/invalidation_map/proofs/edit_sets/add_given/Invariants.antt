use Rattle.std.proofs.Common.{◌&&◌, nat_le}
use Rattle.invalidation_map.specs.EditMembers.{is_given}
use Rattle.invalidation_map.specs.Marks.{IsGrown}
use Rattle.invalidation_map.proofs.edit_sets.add_given.Given as goal

abbrev pub invariant-loop-number : goal.invariant-loop-number
invariant-loop-number l = IsGrown (λ x. is_given l.before l.last x && nat_le x l.number) l.fn.into l.into
