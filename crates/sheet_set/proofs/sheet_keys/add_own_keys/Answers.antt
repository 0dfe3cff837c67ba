use Rattle.std.proofs.Common.{◌≡◌, ◌++◌, true, map, sym, ap, ◌∙◌}
use Rattle.std.proofs.Math.Logic.{∥∥₁_map}
use Rattle.std.proofs.lemmas.Result.{on_ok_weaker}
use Rattle.selector_types.specs.SimpleView.{key_seen}
use Rattle.edit_model.specs.SheetApply.{with_enabled}
use Rattle.sheet_edit_model.specs.SheetMarks.{keys_in}
use Rattle.sheet_set.specs.Kept.{kept_seen}
use Rattle.sheet_set.specs.StepOf.{keys_of}
use Rattle.sheet_set.proofs.StepKeys.{own-keys}
use Rattle.sheet_set.proofs.sheet_keys.add_own_keys.Goals as goal

pub returns-then-on : goal.returns-then-on
returns-then-on c =
    let sheet = c.args.sheet.now in
    let old = map key_seen c.args.keys.now.items in
    let on : c.args.on ≡ true = c.if-on.true in
    on_ok_weaker c.add_keys.result (λ added. ∥∥₁_map (own-keys sheet (c.requires on)) (λ own.
    added
    ∙ (ap (λ l. old ++ keys_of l) c.own_selectors.ensures
    ∙ (ap (λ l. old ++ l) own ∙ ap (λ b. old ++ keys_in (with_enabled b (kept_seen sheet))) (sym on))))) c.add_keys.ensures
