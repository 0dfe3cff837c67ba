use Rattle.std.proofs.Common.{map, sym, ap, ◌∙◌}
use Rattle.std.specs.FinMap as finmap
use Rattle.custom_properties.specs.Entries.{declared_entry}
use Rattle.custom_properties.proofs.EntryLemmas.{entries_of}
use Rattle.custom_properties.proofs.declared_map.DeclaredMap.entries.Goals as goal

pub returns : goal.returns
returns c =
    ap (map declared_entry) c.deref.ensures.value ∙ (sym (entries_of _ c.self.invariant) ∙ ap finmap.entries c.self.view_is)
