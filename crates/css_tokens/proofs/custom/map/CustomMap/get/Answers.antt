use Rattle.std.proofs.Common.{length, get_or, Some, sym, ap, ◌∙◌, arith}
use Rattle.std.proofs.lemmas.List.{get_or-map, length-map}
use Rattle.base_model.specs.Text.{Characters}
use Rattle.custom_model.specs.Value.{CustomValue}
use Rattle.std.specs.FinMap as finmap
use Rattle.css_tokens.specs.CustomView.{entry_of}
use Rattle.css_tokens.proofs.PlaceLemmas.{keys_rise, no_place, place_is, place_stands, value_found}
use Rattle.css_tokens.proofs.custom.map.CustomMap.get.Goals as goal

pub place_by_name-requires : goal.place_by_name-requires
place_by_name-requires c = keys_rise entry_of c.entries-entries.result.now _ c.entries-entries.ensures (finmap.entries_sorted c.args.self.now)

pub returns-in-None : goal.returns-in-None
returns-in-None c =
    sym (finmap.get-entries c.args.self.now _
    ∙ no_place (finmap.entries c.args.self.now) _ (sym (c.place_by_name.ensures.place ∙ place_is entry_of c.entries-entries.result.now _ c.entries-entries.ensures _) ∙ c.in-None.is))

pub returns-in-Some : goal.returns-in-Some
returns-in-Some c =
    let at = sym (c.place_by_name.ensures.place ∙ place_is entry_of c.entries-entries.result.now _ c.entries-entries.ensures _) ∙ c.in-Some.is in
    let found = value_found (finmap.entries c.args.self.now) _ c.in-Some.place (entry_of c.index-entries-place.result) (finmap.entries_sorted c.args.self.now) at in
    let within = place_stands (finmap.entries c.args.self.now) _ c.in-Some.place (entry_of c.index-entries-place.result) at in
    sym (finmap.get-entries c.args.self.now _ ∙ found
    ∙ ap (λ l. Some (get_or l c.in-Some.place (entry_of c.index-entries-place.result)).1) (sym c.entries-entries.ensures)
    ∙ ap (λ (pair : Characters × CustomValue). Some pair.1) (get_or-map entry_of c.entries-entries.result.now c.in-Some.place c.index-entries-place.result _
    (omega (arith, within.0, ap length c.entries-entries.ensures, length-map c.entries-entries.result.now entry_of))))
