use Rattle.std.proofs.Common.{sym, ap, ◌∙◌}
use Rattle.std.specs.FinMap as finmap
use Rattle.css_tokens.proofs.custom.map.CustomMap.is_same.Goals as goal

pub returns : goal.returns
returns c = (
  λ h. finmap.same_entries_map _ _ (sym c.entries.ensures ∙ c.are_same.ensures.0 h ∙ c.entries-2.ensures),
  λ e. c.are_same.ensures.1 (c.entries.ensures ∙ ap finmap.entries e ∙ sym c.entries-2.ensures),
)
