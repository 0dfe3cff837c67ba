use Rattle.std.proofs.Common.{◌≡◌, ◌++◌, [], ◌∷◌, not, flat_map, map, sym, subst, ap, ◌∙◌, append_assoc, append-nil}
use Rattle.std.proofs.Math.Logic.{∥∥₁_map₂}
use Rattle.std.proofs.lemmas.Result.{on_ok_weaker}
use Rattle.selector_types.specs.SimpleView.{key_seen}
use Rattle.edit_model.specs.SheetApply.{with_enabled}
use Rattle.sheet_edit_model.specs.SheetMarks.{keys_in}
use Rattle.sheet_set.specs.Kept.{kept_seen}
use Rattle.sheet_set.specs.Planned.{at_place, put_over, turned_over}
use Rattle.sheet_set.specs.Room.{IsAtPlace}
use Rattle.sheet_set.specs.StepOf.{step_keys}
use Rattle.sheet_set.specs.declared.sheet_step.SheetStep.TheVariants.{Put, Turn}
use Rattle.sheet_set.proofs.SheetAt.{seen-at}
use Rattle.sheet_set.proofs.sheet_keys.add_step_keys.Goals as goal

pub returns-in_ok-add_keys_at-in-Put : goal.returns-in_ok-add_keys_at-in-Put
returns-in_ok-add_keys_at-in-Put c =
    let list = map kept_seen c.args.sheets.now in
    let old = map key_seen c.args.keys.now.items in
    let it = c.index-sheets-place.result in
    let new = kept_seen c.in-Put.sheet in
    let placed : IsAtPlace c.args.sheets.now (Put c.in-Put.place c.in-Put.sheet c.in-Put.room) = subst (IsAtPlace c.args.sheets.now) c.in-Put.is c.requires.at in
    let within = placed.0.within in
    let at : at_place c.in-Put.place list ≡ kept_seen it ∷ [] = seen-at c.args.sheets.now c.in-Put.place it within c.index-sheets-place.is in
    let comes : keys_in (with_enabled c.is_enabled.result new) ≡ flat_map keys_in (map (put_over new) (at_place c.in-Put.place list)) =
    ap (λ b. keys_in (with_enabled b new)) c.is_enabled.ensures
    ∙ (sym (append-nil (keys_in (put_over new (kept_seen it)))) ∙ sym (ap (λ l. flat_map keys_in (map (put_over new) l)) at)) in
    on_ok_weaker c.add_own_keys-in-Put.result (λ later. ∥∥₁_map₂ later c.in_ok-add_keys_at-in-Put.ensures (λ after before.
    after
    ∙ (ap (λ l. l ++ keys_in (with_enabled c.is_enabled.result new)) before
    ∙ (append_assoc old (flat_map keys_in (at_place c.in-Put.place list)) (keys_in (with_enabled c.is_enabled.result new))
    ∙ (ap (λ l. old ++ (flat_map keys_in (at_place c.in-Put.place list) ++ l)) comes
    ∙ sym (ap (λ s. old ++ step_keys s list) c.in-Put.is)))))) c.add_own_keys-in-Put.ensures

pub returns-in_ok-add_keys_at-in-Turn : goal.returns-in_ok-add_keys_at-in-Turn
returns-in_ok-add_keys_at-in-Turn c =
    let list = map kept_seen c.args.sheets.now in
    let old = map key_seen c.args.keys.now.items in
    let it = c.index-sheets-place-in-Turn.result in
    let on = not c.is_enabled-in-Turn.result in
    let placed : IsAtPlace c.args.sheets.now (Turn c.in-Turn.place c.in-Turn.room) = subst (IsAtPlace c.args.sheets.now) c.in-Turn.is c.requires.at in
    let within = placed.within in
    let at : at_place c.in-Turn.place list ≡ kept_seen it ∷ [] = seen-at c.args.sheets.now c.in-Turn.place it within c.index-sheets-place-in-Turn.is in
    let comes : keys_in (with_enabled on (kept_seen it)) ≡ flat_map keys_in (map turned_over (at_place c.in-Turn.place list)) =
    ap (λ b. keys_in (with_enabled (not b) (kept_seen it))) c.is_enabled-in-Turn.ensures
    ∙ (sym (append-nil (keys_in (turned_over (kept_seen it)))) ∙ sym (ap (λ l. flat_map keys_in (map turned_over l)) at)) in
    on_ok_weaker c.add_own_keys-in-Turn.result (λ later. ∥∥₁_map₂ later c.in_ok-add_keys_at-in-Turn.ensures (λ after before.
    after
    ∙ (ap (λ l. l ++ keys_in (with_enabled on (kept_seen it))) before
    ∙ (append_assoc old (flat_map keys_in (at_place c.in-Turn.place list)) (keys_in (with_enabled on (kept_seen it)))
    ∙ (ap (λ l. old ++ (flat_map keys_in (at_place c.in-Turn.place list) ++ l)) comes
    ∙ sym (ap (λ s. old ++ step_keys s list) c.in-Turn.is)))))) c.add_own_keys-in-Turn.ensures
