use Rattle.std.proofs.Common.{ap, ◌∙◌}
use Rattle.std.specs.FinMap as finmap
use Rattle.css_tokens.specs.Place.{place_in}
use Rattle.css_tokens.proofs.PlaceLemmas.{keys_rise, place_is}
use Rattle.custom_properties.specs.Entries.{declared_entry}
use Rattle.custom_properties.proofs.declared_map.DeclaredMap.place.Goals as goal

pub place_by_name-requires : goal.place_by_name-requires
place_by_name-requires c = keys_rise declared_entry c.entries.result.now _ c.entries.ensures (finmap.entries_sorted c.args.self.now)

pub returns : goal.returns
returns c =
    c.place_by_name.ensures.place
    ∙ place_is declared_entry c.entries.result.now _ c.entries.ensures _
    ∙ ap (place_in (finmap.entries c.args.self.now)) c.as_str.ensures.characters
