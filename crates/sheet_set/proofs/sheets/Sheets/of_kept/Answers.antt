use Rattle.std.proofs.Common.{◌≡◌, length, map, ap, ◌∙◌, arith}
use Rattle.sheet_model.specs.Sources.{layers_of_sheets}
use Rattle.sheet_set.specs.Ranks.{rank_seen}
use Rattle.sheet_set.specs.Kept.{kept_seen, taking}
use Rattle.sheet_set.specs.Positions.{positions_from}
use Rattle.sheet_set.proofs.MovedRules.{total-within}
use Rattle.sheet_set.proofs.Positioned.{positions-long}
use Rattle.sheet_set.proofs.Ranked.{texts_of}
use Rattle.sheet_set.proofs.sheets.Sheets.of_kept.Goals as goal

pub places_of-requires-clause-room : goal.places_of-requires-clause-room
places_of-requires-clause-room c =
    let rules = c.args.rules in
    let lists = c.args.selectors in
    let same : length rules.items ≡ length lists.items = omega (arith, c.requires.paired, rules.ok, lists.ok) in
    let most = total-within rules.items lists.items c.args.sheets.items same c.requires.texts in
    omega (arith, most, ap (λ l. length (taking l)) c.as_slice.ensures.value, ap length c.as_slice-2.ensures.value)

pub invariant_of-result : goal.invariant_of-result
invariant_of-result c =
    let rules = c.args.rules in
    let lists = c.args.selectors in
    let sheets = c.args.sheets in
    let made = c.in_ok-layers.field-0 in
    let facts = c.in_ok-layers.ensures in
    let same : length rules.items ≡ length lists.items = omega (arith, c.requires.paired, rules.ok, lists.ok) in
    let are : made.positions.items ≡ positions_from 0 sheets.items =
    facts.positions ∙ ap (positions_from 0) c.as_slice.ensures.value in
    let long = positions-long rules.items lists.items sheets.items same c.requires.texts made.positions.items are in
    record {
      paired = c.requires.paired;
      ranked = facts.ranks ∙ ap (map (rank_seen made.layers)) c.as_slice-2.ensures.value;
      placed = omega (arith, long, made.positions.ok, rules.ok);
      positioned = are;
      of_texts = texts_of sheets.items rules.items lists.items made.positions.items c.requires.texts are;
      layered = facts.layers ∙ ap (λ l. layers_of_sheets (map kept_seen l)) c.as_slice.ensures.value;
      numbered = c.requires.numbered;
      few = c.requires.few;
      given = c.requires.given;
    }
