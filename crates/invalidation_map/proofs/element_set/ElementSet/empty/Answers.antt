use Rattle.invalidation_map.proofs.SetLemmas.{no_flags}
use Rattle.invalidation_map.proofs.element_set.ElementSet.empty.Goals as goal

pub invariant_of-result : goal.invariant_of-result
invariant_of-result c = no_flags _ _ 0 c.new.ensures.items c.new-2.ensures.items
