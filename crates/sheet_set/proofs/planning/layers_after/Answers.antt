use Rattle.std.proofs.Common.{◌≡◌, ◌+◌, ◌-◌, ◌++◌, [], ◌∷◌, length, map, not, take, drop, refl, subst, sym, ap, ◌∙◌}
use Rattle.std.proofs.lemmas.Bool.{eqb-true}
use Rattle.std.proofs.lemmas.List.{nil_from_length}
use Rattle.std.proofs.lemmas.Result.{IfOk-weaker}
use Rattle.layer_model.specs.Order.{layers_of}
use Rattle.layer_order.specs.View.{declarations}
use Rattle.sheet_model.specs.Sources.{layers_of_sheets}
use Rattle.edit_model.specs.SheetApply.{with_enabled}
use Rattle.sheet_set.specs.Kept.{kept_seen}
use Rattle.sheet_set.specs.Planned.{at_place, put_over, stepped, turned_over}
use Rattle.sheet_set.specs.Room.{IsAtPlace}
use Rattle.sheet_set.specs.StepOf.{layers_declared}
use Rattle.sheet_set.specs.declared.sheet_step.SheetStep.TheVariants.{Put, Turn}
use Rattle.sheet_set.proofs.LayersAround.{layers-come, layers-with}
use Rattle.sheet_set.proofs.SheetAt.{seen-at, seen-front, seen-rest}
use Rattle.sheet_set.proofs.planning.layers_after.Goals as goal

pub returns-then-is_empty : goal.returns-then-is_empty
returns-then-is_empty c =
    let list = map kept_seen c.args.sheets.now in
    let its = c.layers_if-its.result.now in
    let none : its ≡ [] = nil_from_length its (eqb-true (length its) 0 (sym c.if-is_empty.ensures)) in
    layers-come c.in-Come.place list (with_enabled c.in-Come.on (kept_seen c.in-Come.sheet)) (sym c.layers_if-its.ensures ∙ ap declarations none)
    ∙ sym (ap (λ s. layers_of_sheets (stepped s list)) c.in-Come.is)

pub returns-in_ok-around-in-Come : goal.returns-in_ok-around-in-Come
returns-in_ok-around-in-Come c =
    let sheets = c.args.sheets.now in
    let list = map kept_seen sheets in
    let place = c.in-Come.place in
    let its = declarations c.layers_if-its.result.now in
    let sheet = with_enabled c.in-Come.on (kept_seen c.in-Come.sheet) in
    c.in_ok-around-in-Come.ensures
    ∙ (ap (λ l. layers_of (layers_declared l ++ (its ++ layers_declared (map kept_seen (take (length sheets - place) (drop place sheets)))))) (seen-front sheets place)
    ∙ (ap (λ l. layers_of (layers_declared (take place list) ++ (its ++ layers_declared l))) (seen-rest sheets place)
    ∙ (sym (layers-with (take place list) (sheet ∷ []) (drop place list) its (sym c.layers_if-its.ensures))
    ∙ sym (ap (λ s. layers_of_sheets (stepped s list)) c.in-Come.is))))

pub returns-in-Go : goal.returns-in-Go
returns-in-Go c =
    let list = map kept_seen c.args.sheets.now in
    let place = c.in-Go.place in
    IfOk-weaker c.in_its_place.result _ _ (λ layers is. is
    ∙ (sym (layers-with (take place list) [] (drop (place + 1) list) [] refl)
    ∙ sym (ap (λ s. layers_of_sheets (stepped s list)) c.in-Go.is))) c.in_its_place.ensures

pub returns-in-Put : goal.returns-in-Put
returns-in-Put c =
    let sheets = c.args.sheets.now in
    let list = map kept_seen sheets in
    let place = c.in-Put.place in
    let it = c.index-sheets-place.result in
    let new = kept_seen c.in-Put.sheet in
    let its = declarations c.layers_if-its-in-Put.result.now in
    let placed : IsAtPlace sheets (Put place c.in-Put.sheet c.in-Put.room) = subst (IsAtPlace sheets) c.in-Put.is c.requires in
    let at : at_place place list ≡ kept_seen it ∷ [] = seen-at sheets place it placed.0.within c.index-sheets-place.is in
    let declares : layers_declared (map (put_over new) (at_place place list)) ≡ its =
    ap (λ l. layers_declared (map (put_over new) l)) at
    ∙ (ap (λ b. layers_declared (with_enabled b new ∷ [])) (sym c.is_enabled.ensures) ∙ sym c.layers_if-its-in-Put.ensures) in
    IfOk-weaker c.in_its_place-in-Put.result _ _ (λ layers is. is
    ∙ (sym (layers-with (take place list) (map (put_over new) (at_place place list)) (drop (place + 1) list) its declares)
    ∙ sym (ap (λ s. layers_of_sheets (stepped s list)) c.in-Put.is))) c.in_its_place-in-Put.ensures

pub returns-in-Turn : goal.returns-in-Turn
returns-in-Turn c =
    let sheets = c.args.sheets.now in
    let list = map kept_seen sheets in
    let place = c.in-Turn.place in
    let it = c.index-sheets-place-in-Turn.result in
    let its = declarations c.layers_if.result.now in
    let placed : IsAtPlace sheets (Turn place c.in-Turn.room) = subst (IsAtPlace sheets) c.in-Turn.is c.requires in
    let at : at_place place list ≡ kept_seen it ∷ [] = seen-at sheets place it placed.within c.index-sheets-place-in-Turn.is in
    let declares : layers_declared (map turned_over (at_place place list)) ≡ its =
    ap (λ l. layers_declared (map turned_over l)) at
    ∙ (ap (λ b. layers_declared (with_enabled (not b) (kept_seen it) ∷ [])) (sym c.is_enabled-in-Turn.ensures) ∙ sym c.layers_if.ensures) in
    IfOk-weaker c.in_its_place-in-Turn.result _ _ (λ layers is. is
    ∙ (sym (layers-with (take place list) (map turned_over (at_place place list)) (drop (place + 1) list) its declares)
    ∙ sym (ap (λ s. layers_of_sheets (stepped s list)) c.in-Turn.is))) c.in_its_place-in-Turn.ensures
