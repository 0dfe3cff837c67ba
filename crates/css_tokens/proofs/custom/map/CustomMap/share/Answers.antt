use Rattle.std.proofs.Common.{◌∙◌, sym, ap}
use Rattle.css_tokens.specs.EntriesView.{values_of}
use Rattle.css_tokens.proofs.MapLemmas.{of_none}
use Rattle.css_tokens.proofs.custom.map.CustomMap.share.Goals as goal

pub returns-in-None : goal.returns-in-None
returns-in-None c = c.empty.ensures ∙ (sym of_none ∙ (sym (ap values_of c.in-None.is) ∙ c.self.view_is))
