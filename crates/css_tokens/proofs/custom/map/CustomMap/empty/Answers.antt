use Rattle.css_tokens.proofs.MapLemmas.{of_none}
use Rattle.css_tokens.proofs.custom.map.CustomMap.empty.Goals as goal

pub returns : goal.returns
returns c = of_none
