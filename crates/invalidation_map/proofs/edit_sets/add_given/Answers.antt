use Rattle.std.proofs.Common.{◌&&◌, nat_le}
use Rattle.invalidation_map.specs.EditMembers.{is_given}
use Rattle.invalidation_map.proofs.EditSetLemmas.{all_given}
use Rattle.invalidation_map.proofs.GrowthLemmas.{grown_same}
use Rattle.invalidation_map.proofs.edit_sets.add_given.Goals as goal

pub returns : goal.returns
returns c =
    let before = c.args.before in
    let last = c.args.last in
    let number = c.loop-number.number in
    grown_same (λ x. is_given before last x && nat_le x number) (is_given before last) c.args.into.now c.loop-number.into
    (all_given before last number c.loop-number-test.false) c.loop-number.invariant
