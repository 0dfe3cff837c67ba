-- What a plan of an edit comes to.
use Rattle.std.proofs.Common.{◌≡◌, ℕ, ◌≤◌, List, length, map, false, Option, Some, None, unwrap_or, refl, sym, subst, ap, ◌∙◌}
use Rattle.std.proofs.Math.Bool.{Bool-set}
use Rattle.std.proofs.Math.Logic.{∥∥₁_elim}
use Rattle.std.specs.Option.{option_map_or}
use Rattle.base_model.specs.Limits.{number_limit, sheet_limit}
use Rattle.base_model.specs.Sheet.{Sheet}
use Rattle.layer_model.specs.Order.{Layers}
use Rattle.layer_model.specs.Swapped.{swapped}
use Rattle.sheet_model.specs.Sources.{layers_of_sheets}
use Rattle.edit_model.specs.Edit.{SheetEdit}
use Rattle.edit_model.specs.SheetApply.{AreNumbered, SheetList, last_after, sheet_refusal, sheets_after}
use Rattle.edit_model.proofs.NumberLemmas.{numbered-after}
use Rattle.selector_types.specs.SimpleView.{key_seen}
use Rattle.selector_types.specs.declared.sheet_change.SheetChange.{SheetChange}
use Rattle.sheet_set.specs.declared.sheet_step.SheetStep.{SheetStep}
use Rattle.sheet_set.specs.Planned.{planned, stepped}
use Rattle.sheet_set.specs.StepOf.{IsOfNumber, step_keys}
use Rattle.sheet_set.specs.TellsMarks.{TellsMarks}
use Rattle.sheet_set.proofs.Bounds.{few-after, given-after}
use Rattle.sheet_set.proofs.StepTold.{step-told}
use Rattle.sheet_set.proofs.Told.{unswapped}

-- the list after an edit
abbrev pub after_edit : SheetList → SheetEdit → SheetList
after_edit l edit = record { listed = sheets_after l.last edit l.listed; last = last_after l.last edit }

module _ (l : SheetList) (edit : SheetEdit) (step : SheetStep) (fine : sheet_refusal l edit ≡ None) (is : planned step l ≡ after_edit l edit) where
  pub numbered-then : AreNumbered l → AreNumbered (planned step l)
  numbered-then numbered = subst AreNumbered (sym is) (numbered-after l edit numbered)

  pub few-then : length l.listed ≤ sheet_limit → length (planned step l).listed ≤ sheet_limit
  few-then few = subst (λ (a : SheetList). length a.listed ≤ sheet_limit) (sym is) (few-after l edit fine few)

  pub given-then : l.last ≤ number_limit → (planned step l).last ≤ number_limit
  given-then given = subst (λ (a : SheetList). a.last ≤ number_limit) (sym is) (given-after l edit fine given)

-- layers that stay are not swapped
pub swapped-with : (layers : Layers) (later : Option Layers) → option_map_or (λ l. swapped layers l) later false ≡ swapped layers (unwrap_or later layers)
swapped-with layers None = sym (unswapped layers)
swapped-with layers (Some l) = refl

pub change-told : (n : ℕ) (list : List Sheet) (step : SheetStep) → IsOfNumber n list step
    → (layers : Layers) (later : Option Layers) → layers ≡ layers_of_sheets list → unwrap_or later (layers_of_sheets list) ≡ layers_of_sheets (stepped step list)
    → (change : SheetChange) → ∥ map key_seen change.keys.items ≡ step_keys step list ∥₁ → change.swapped ≡ option_map_or (λ l. swapped layers l) later false
    → TellsMarks list (stepped step list) n change
change-told n list step of layers later was is change keys turned = λ doc x.
    let swap : change.swapped ≡ swapped (layers_of_sheets list) (layers_of_sheets (stepped step list)) =
    turned ∙ (swapped-with layers later ∙ (ap (λ l. swapped l (unwrap_or later l)) was ∙ ap (swapped (layers_of_sheets list)) is)) in
    ∥∥₁_elim keys (Bool-set _ _) (λ are. step-told n list step of change.swapped (map key_seen change.keys.items) swap are doc x)
