use Rattle.std.proofs.Common.{◌≡◌, ◌≤◌, List, None, false, length, map, unwrap_or, sym, subst, ap, ◌∙◌, arith}
use Rattle.std.proofs.Math.Logic.{∥∥₁_elim}
use Rattle.std.proofs.lemmas.List.{length-map}
use Rattle.base_model.specs.Limits.{number_limit, sheet_limit}
use Rattle.std.specs.Option.{option_map_or}
use Rattle.layer_model.specs.Swapped.{swapped}
use Rattle.sheet_model.specs.Sources.{layers_of_sheets}
use Rattle.selector_types.specs.SimpleView.{key_seen}
use Rattle.edit_model.specs.SheetApply.{AreNumbered, SheetList, number_in, sheet_refusal}
use Rattle.dom_edits.specs.EditView.{sheet_edit_seen}
use Rattle.sheet_set.specs.declared.kept_sheet.KeptSheet.{KeptSheet}
use Rattle.sheet_set.specs.Kept.{kept_seen}
use Rattle.sheet_set.specs.Planned.{planned, stepped}
use Rattle.sheet_set.specs.StepOf.{AreSelectorsOf, IsStepTo, step_keys}
use Rattle.sheet_set.specs.View.{listed_seen}
use Rattle.sheet_set.proofs.Bounds.{numbered-prop}
use Rattle.sheet_set.proofs.PlanLemmas.{after_edit, change-told, few-then, given-then, numbered-then}
use Rattle.sheet_set.proofs.MovedRules.{total-within}
use Rattle.sheet_set.proofs.Ranked.{taken_of}
use Rattle.sheet_set.proofs.StepKeys.{selectors-all}
use Rattle.sheet_set.proofs.sheets.Sheets.planned.Goals as goal

pub step_of-requires-clause-numbered : goal.step_of-requires-clause-numbered
step_of-requires-clause-numbered c =
    let old = c.args.self.now in
    subst (λ (sheets : List KeptSheet). AreNumbered (record { listed = map kept_seen sheets; last = old.last })) (sym c.deref.ensures.value)
    (∥∥₁_elim old.numbered (numbered-prop (listed_seen old)) (λ numbered. numbered))

pub told_of-requires-clause-selectors : goal.told_of-requires-clause-selectors
told_of-requires-clause-selectors c =
    let old = c.args.self.now in
    let same : length old.rules.items ≡ length old.selectors.items = omega (arith, old.paired, old.rules.ok, old.selectors.ok) in
    let texts = taken_of old.sheets.items old.rules.items old.selectors.items old.positions.items same (omega (arith, old.placed, old.rules.ok, old.positions.ok)) old.of_texts in
    let all : AreSelectorsOf old.sheets.items old.selectors.items = selectors-all old.sheets.items old.rules.items old.selectors.items same texts in
    subst (λ lists. AreSelectorsOf c.deref-2.result.now lists) (sym c.deref-3.ensures.value) (subst (λ sheets. AreSelectorsOf sheets old.selectors.items) (sym c.deref-2.ensures.value) all)

pub make_room-requires-clause-taking : goal.make_room-requires-clause-taking
make_room-requires-clause-taking c =
    let old = c.args.self.now in
    let same : length old.rules.items ≡ length old.selectors.items = omega (arith, old.paired, old.rules.ok, old.selectors.ok) in
    let texts = taken_of old.sheets.items old.rules.items old.selectors.items old.positions.items same (omega (arith, old.placed, old.rules.ok, old.positions.ok)) old.of_texts in
    omega (arith, total-within old.rules.items old.selectors.items old.sheets.items same texts, old.rules.ok)

pub returns-clause-fits : goal.returns-clause-fits
returns-clause-fits c =
    let old = c.args.self.now in
    let l : SheetList = listed_seen old in
    let edit = sheet_edit_seen c.args.edit.now in
    let step = c.in_ok-step.step in
    let fine : sheet_refusal l edit ≡ None = c.requires in
    let to : IsStepTo old.sheets.items old.last (number_in old.last edit) (after_edit l edit) step =
    subst (λ sheets. IsStepTo sheets old.last (number_in old.last edit) (after_edit (record { listed = map kept_seen sheets; last = old.last }) edit) step)
    c.deref.ensures.value c.in_ok-step.ensures in
    let later : unwrap_or c.in_ok-layers.layers (layers_of_sheets l.listed) ≡ layers_of_sheets (stepped step l.listed) =
    subst (λ sheets. unwrap_or c.in_ok-layers.layers (layers_of_sheets (map kept_seen sheets)) ≡ layers_of_sheets (stepped step (map kept_seen sheets)))
    c.deref-2.ensures.value c.in_ok-layers.ensures.layers in
    let same = c.make_room.ensures.sheets in
    let then : List KeptSheet → SheetList = λ sheets. planned step (record { listed = map kept_seen sheets; last = old.last }) in
    let numbered : AreNumbered (then old.sheets.items) = numbered-then l edit step fine to.is (∥∥₁_elim old.numbered (numbered-prop l) (λ n. n)) in
    let few : length (then old.sheets.items).listed ≤ sheet_limit = few-then l edit step fine to.is (omega (arith, old.few, length-map old.sheets.items kept_seen)) in
    let given : (then old.sheets.items).last ≤ number_limit = given-then l edit step fine to.is old.given in
    let layers : unwrap_or c.in_ok-layers.layers old.layers ≡ layers_of_sheets (then old.sheets.items).listed = ap (unwrap_or c.in_ok-layers.layers) old.layered ∙ later in
    record {
      room = c.in_ok-make_room.ensures.room;
      places = c.in_ok-make_room.ensures.places;
      numbered = subst (λ sheets. AreNumbered (then sheets)) (sym same) numbered;
      few = subst (λ sheets. length (then sheets).listed ≤ sheet_limit) (sym same) few;
      given = subst (λ sheets. (then sheets).last ≤ number_limit) (sym same) given;
      layers = layers ∙ ap (λ sheets. layers_of_sheets (then sheets).listed) (sym same);
    }

pub returns-clause-change : goal.returns-clause-change
returns-clause-change c =
    let old = c.args.self.now in
    let l : SheetList = listed_seen old in
    let edit = sheet_edit_seen c.args.edit.now in
    let step = c.in_ok-step.step in
    let to : IsStepTo old.sheets.items old.last (number_in old.last edit) (after_edit l edit) step =
    subst (λ sheets. IsStepTo sheets old.last (number_in old.last edit) (after_edit (record { listed = map kept_seen sheets; last = old.last }) edit) step)
    c.deref.ensures.value c.in_ok-step.ensures in
    let later : unwrap_or c.in_ok-layers.layers (layers_of_sheets l.listed) ≡ layers_of_sheets (stepped step l.listed) =
    subst (λ sheets. unwrap_or c.in_ok-layers.layers (layers_of_sheets (map kept_seen sheets)) ≡ layers_of_sheets (stepped step (map kept_seen sheets)))
    c.deref-2.ensures.value c.in_ok-layers.ensures.layers in
    let change = c.in_ok-layers.change in
    let keys = subst (λ sheets. ∥ map key_seen change.keys.items ≡ step_keys step (map kept_seen sheets) ∥₁) c.deref-2.ensures.value c.in_ok-layers.ensures.keys in
    let turned : change.swapped ≡ option_map_or (λ k. swapped old.layers k) c.in_ok-layers.layers false =
    c.in_ok-layers.ensures.swapped in
    change-told (number_in old.last edit) l.listed step to.of old.layers c.in_ok-layers.layers old.layered later change keys turned
