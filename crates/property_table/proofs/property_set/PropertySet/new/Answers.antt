use Rattle.property_table.proofs.SetLemmas.{no_bits}
use Rattle.property_table.proofs.property_set.PropertySet.new.Goals as goal

pub returns : goal.returns
returns c = no_bits
