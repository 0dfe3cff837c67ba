use Rattle.std.proofs.Common.{◌≡◌, ℕ, List, flat_map, length, map, ap, sym, subst, ◌∙◌, arith}
use Rattle.std.proofs.lemmas.List.{length-map}
use Rattle.base_model.specs.Sheet.{Sheet}
use Rattle.edit_model.specs.SheetApply.{AreNumbered, SheetList}
use Rattle.sheet_model.specs.Sources.{layers_of_sheets}
use Rattle.sheet_set.specs.Kept.{kept_seen, taking}
use Rattle.sheet_set.specs.Planned.{planned, stepped, stepped_last}
use Rattle.sheet_set.specs.Positions.{positions_from}
use Rattle.sheet_set.specs.Ranks.{rank_seen}
use Rattle.sheet_set.specs.Rules.{taking_part}
use Rattle.sheet_set.specs.View.{listed_seen}
use Rattle.sheet_set.proofs.Positioned.{positions-long}
use Rattle.sheet_set.proofs.Ranked.{kept_of, ranks-with, texts_of}
use Rattle.sheet_set.proofs.sheets.Sheets.make.Goals as goal

pub make-requires : goal.make-requires
make-requires c =
    let self = c.args.self.now in
    let same : length self.rules.items ≡ length self.selectors.items = omega (arith, self.paired, self.rules.ok, self.selectors.ok) in
    let long : length self.positions.items ≡ length self.rules.items = omega (arith, self.placed, self.rules.ok, self.positions.ok) in
    record {
      kept = kept_of self.sheets.items self.rules.items self.selectors.items self.layers self.ranks.items self.positions.items same long self.ranked self.of_texts;
      room = c.requires.room;
      last = c.requires.given;
    }

pub put_positions-requires : goal.put_positions-requires
put_positions-requires c =
    let sheets = c.make.new.sheets.items in
    let seen = stepped c.args.step (map kept_seen c.args.self.now.sheets.items) in
    let long : length sheets ≡ length seen = sym (length-map sheets kept_seen) ∙ ap length c.make.ensures.list in
    let taken : length (taking sheets) ≡ length (flat_map taking_part seen) = ap (λ l. length (flat_map taking_part l)) c.make.ensures.list in
    record {
      few = omega (arith, long, c.requires.few, ap length c.deref.ensures.value);
      room = omega (arith, taken, c.requires.places, ap (λ l. length (taking l)) c.deref.ensures.value);
    }

pub put_layers-requires : goal.put_layers-requires
put_layers-requires c =
    let made = c.make.new in
    let layers = c.args.self.now.layers in
    let kept = c.make.ensures.kept in
    kept.ranked ∙ (ranks-with layers made.rules.items made.selectors.items kept.paired ∙ ap (map (rank_seen layers)) (sym c.deref-2.ensures.value))

pub invariant_of-self : goal.invariant_of-self
invariant_of-self c =
    let self = c.args.self.now in
    let step = c.args.step in
    let made = c.make.new in
    let kept = c.make.ensures.kept in
    let layers = c.put_layers.new.kept in
    let positions = c.put_positions.new.positions in
    let are : positions.items ≡ positions_from 0 made.sheets.items = c.put_positions.ensures ∙ ap (positions_from 0) c.deref.ensures.value in
    let long = positions-long made.rules.items made.selectors.items made.sheets.items kept.paired kept.texts positions.items are in
    let listed : (l : List Sheet) (n : ℕ) → SheetList = λ l n. record { listed = l; last = n } in
    let after : planned step (listed_seen self) ≡ listed (map kept_seen made.sheets.items) made.last =
    ap (λ l. listed l (stepped_last step self.last)) (sym c.make.ensures.list) ∙ ap (listed (map kept_seen made.sheets.items)) (sym c.make.ensures.last) in
    record {
      paired = omega (arith, kept.paired, made.rules.ok, made.selectors.ok);
      ranked = c.put_layers.ensures.ranks ∙ ap (map (rank_seen layers)) c.deref-2.ensures.value;
      placed = omega (arith, long, positions.ok, made.rules.ok);
      positioned = are;
      of_texts = texts_of made.sheets.items made.rules.items made.selectors.items positions.items kept.texts are;
      layered = c.put_layers.ensures.layers ∙ (c.requires.layers ∙ ap layers_of_sheets (sym c.make.ensures.list));
      numbered = ∣ subst AreNumbered after c.requires.numbered ∣₁;
      few = omega (arith, length-map made.sheets.items kept_seen, ap length c.make.ensures.list, c.requires.few);
      given = omega (arith, c.make.ensures.last, c.requires.given);
    }
