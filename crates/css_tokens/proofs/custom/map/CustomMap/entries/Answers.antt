use Rattle.std.proofs.Common.{map, sym, ap, ◌∙◌}
use Rattle.std.specs.FinMap as finmap
use Rattle.css_tokens.specs.CustomView.{entry_of}
use Rattle.css_tokens.specs.EntriesView.{list_of}
use Rattle.css_tokens.specs.declared.custom.map.Entries.{Entries}
use Rattle.css_tokens.proofs.MapLemmas.{entries_are}
use Rattle.css_tokens.proofs.custom.map.CustomMap.entries.Goals as goal

pub returns-in-None : goal.returns-in-None
returns-in-None c =
    sym (ap finmap.entries (sym c.self.view_is) ∙ (entries_are _ c.self.invariant ∙ ap list_of c.in-None.is))

pub returns-in-Some : goal.returns-in-Some
returns-in-Some c =
    ap (map entry_of) (c.deref-in-Some.ensures.value ∙ ap (λ (e : Entries). e.list.items) c.deref.ensures)
    ∙ sym (ap finmap.entries (sym c.self.view_is) ∙ (entries_are _ c.self.invariant ∙ ap list_of c.in-Some.is))
