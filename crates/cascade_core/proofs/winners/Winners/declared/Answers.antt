use Rattle.std.proofs.Common.{sym, ap, ◌∙◌}
use Rattle.property_table.specs.PropertySet.{has_row}
use Rattle.cascade_model.specs.Ending.{ending, meaning_of}
use Rattle.cascade_core.proofs.BestLemmas.{unset_at}
use Rattle.cascade_core.proofs.winners.Winners.declared.Goals as goal

pub returns : goal.returns
returns c = λ values p is within.
    sym (ap (ending values p) c.self.view_is)
    ∙ sym (unset_at (meaning_of values p) _ p (c.self.invariant.others p (ap (has_row p) (sym c.declared.ensures) ∙ is) within))
