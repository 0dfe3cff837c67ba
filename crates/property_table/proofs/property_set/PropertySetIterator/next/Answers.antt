use Rattle.std.proofs.Common.{arith, rules}
use Rattle.property_table.proofs.RowLemmas.{length-rows, property_at}
use Rattle.property_table.proofs.SetLemmas.{LowestBit, are_cleared, first_given, fewer_left, lowest_bit, none_given}
use Rattle.property_table.proofs.property_set.PropertySetIterator.next.Goals as goal
use Rattle.property_table.proofs.property_set.PropertySetIterator.next.Goals.{After-all}

pub returns-then-self-eq0-clause-steps : goal.returns-then-self-eq0-clause-steps
returns-then-self-eq0-clause-steps c = none_given _ _ c.self.view_is c.if-self-eq0.true

lowest : (c : After-all) → LowestBit c.self.inside.bits
lowest c = lowest_bit c.self.inside.bits c.if-self-eq0.false (search rules) c.self.invariant

pub bounds-all-row : goal.bounds-all-row
bounds-all-row c = omega (arith, (lowest c).within, length-rows _ c.all.ensures.rows)

pub invariant_of-self : goal.invariant_of-self
invariant_of-self c = are_cleared _ _ (lowest (goal.at.invariant_of-self c).After-all).within c.self.invariant

pub returns-clause-steps : goal.returns-clause-steps
returns-clause-steps c =
    let low = lowest (goal.at.returns-clause-steps c).After-all in
    first_given _ _ _ c.self.view_is low (property_at _ _ _ c.all.ensures.order (omega (arith, low.within, length-rows _ c.all.ensures.rows)))

pub returns-clause-goes : goal.returns-clause-goes
returns-clause-goes c =
    record { on = λ finite. (tt, tt, fewer_left _ _ _ (returns-clause-steps c)); keeps = tt; rests = λ finite. tt }
