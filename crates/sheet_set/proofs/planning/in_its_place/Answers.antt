use Rattle.std.proofs.Common.{◌≡◌, ◌+◌, ◌-◌, ◌++◌, [], ◌∷◌, length, map, take, drop, sym, ap, ◌∙◌}
use Rattle.std.proofs.lemmas.Bool.{eqb-true}
use Rattle.std.proofs.lemmas.List.{nil_from_length}
use Rattle.layer_model.specs.Order.{layers_of}
use Rattle.layer_order.specs.View.{declarations}
use Rattle.edit_model.specs.SheetApply.{with_enabled}
use Rattle.sheet_set.specs.Kept.{kept_seen}
use Rattle.sheet_set.specs.StepOf.{layers_declared}
use Rattle.sheet_set.proofs.LayersAround.{layers-itself}
use Rattle.sheet_set.proofs.SheetAt.{seen-at, seen-front, seen-rest}
use Rattle.sheet_set.proofs.planning.in_its_place.Goals as goal

pub returns-then-is_empty-2 : goal.returns-then-is_empty-2
returns-then-is_empty-2 c =
    let list = map kept_seen c.args.sheets.now in
    let it = c.index-sheets-place.result in
    let none : c.args.its.now ≡ [] = nil_from_length c.args.its.now (eqb-true (length c.args.its.now) 0 (sym c.if-is_empty.ensures)) in
    let had : c.layers_if.result.now ≡ [] = nil_from_length c.layers_if.result.now (eqb-true (length c.layers_if.result.now) 0 (sym c.if-is_empty-2.ensures)) in
    layers-itself c.args.place list (declarations c.args.its.now)
    (ap layers_declared (seen-at c.args.sheets.now c.args.place it c.requires c.index-sheets-place.is)
    ∙ (ap (λ b. layers_declared (with_enabled b (kept_seen it) ∷ [])) (sym c.is_enabled.ensures)
    ∙ (sym c.layers_if.ensures ∙ (ap declarations had ∙ sym (ap declarations none)))))

pub returns : goal.returns
returns c =
    let sheets = c.args.sheets.now in
    let place = c.args.place in
    let rest = take (length sheets - (place + 1)) (drop (place + 1) sheets) in
    c.in_ok-around.ensures
    ∙ (ap (λ l. layers_of (layers_declared l ++ (declarations c.args.its.now ++ layers_declared (map kept_seen rest)))) (seen-front sheets place)
    ∙ ap (λ l. layers_of (layers_declared (take place (map kept_seen sheets)) ++ (declarations c.args.its.now ++ layers_declared l))) (seen-rest sheets (place + 1)))
