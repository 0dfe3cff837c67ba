use Rattle.ancestor_filter.proofs.NameLemmas.{refused}
use Rattle.ancestor_filter.proofs.laws.refused.Goals as goal

pub returns : goal.returns
returns c = refused
