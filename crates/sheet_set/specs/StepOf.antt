-- Whose sheet a step of an edit is, and what comes and goes with it.
use Rattle.std.specs.Prelude.{◌≡◌, ℕ, ◌+◌, ◌<◌, ◌==◌, List, [], ◌++◌, take, drop, length, map, flat_map}
use Rattle.std.specs.Prelude.{true, false, ⊤, Vec}
use Rattle.std.specs.List.{AllByRecursion}
use Rattle.std.specs.declared.alloc.Global.{Global}
use Rattle.base_model.specs.Origin.{Origin}
use Rattle.base_model.specs.Sheet.{Sheet}
use Rattle.layer_model.specs.Name.{LayerName}
use Rattle.selector_model.specs.Key.{Key, key_of}
use Rattle.sheet_model.specs.Sources.{PlacedRule, enabled_among, sheet_layers}
use Rattle.edit_model.specs.SheetApply.{SheetList, is_of, with_enabled}
use Rattle.sheet_edit_model.specs.SheetMarks.{keys_in}
use Rattle.selector_types.specs.View.{selector_of}
use Rattle.selector_types.specs.declared.selector.Selector.{Selector}
use Rattle.sheet_set.specs.declared.kept_sheet.KeptSheet.{KeptSheet}
use Rattle.sheet_set.specs.declared.sheet_step.SheetStep.{SheetStep}
use Rattle.sheet_set.specs.declared.sheet_step.SheetStep.TheVariants.{Stay, Come, Go, Put, Turn}
use Rattle.sheet_set.specs.Kept.{kept_seen, taking}
use Rattle.sheet_set.specs.Planned.{at_place, planned, put_over, turned_over}
use Rattle.sheet_set.specs.Room.{IsAtPlace}

-- no sheet of these has the number
abbrev pub AreOthers : ℕ → List Sheet → Type 0
AreOthers n sheets = AllByRecursion (λ sheet. is_of n sheet ≡ false) sheets

-- the sheet at a place has the number, and no other one has it
pub record IsAlone (n place : ℕ) (list : List Sheet) : Type 0 where
  pub within : place < length list
  pub before : AreOthers n (take place list)
  pub it : AllByRecursion (λ sheet. is_of n sheet ≡ true) (at_place place list)
  pub after : AreOthers n (drop (place + 1) list)

-- each of these sheets has another edition
abbrev pub AreOfOther : ℕ → List Sheet → Type 0
AreOfOther edition sheets = AllByRecursion (λ sheet. (sheet.edition == edition) ≡ false) sheets

-- a step is one of the sheet with this number
abbrev pub IsOfNumber : ℕ → List Sheet → SheetStep → Type 0
IsOfNumber n list Stay = ⊤
IsOfNumber n list (Come place sheet on) = (is_of n (kept_seen sheet) ≡ true) × AreOthers n list
IsOfNumber n list (Go place room) = IsAlone n place list
IsOfNumber n list (Put place sheet room) =
    IsAlone n place list × ((is_of n (kept_seen sheet) ≡ true) × AreOfOther sheet.edition (at_place place list))
IsOfNumber n list (Turn place room) = IsAlone n place list

-- a step by which an edit of the sheet with a number comes to a list
pub record IsStepTo (sheets : List KeptSheet) (last n : ℕ) (after : SheetList) (step : SheetStep) : Type 0 where
  pub is : planned step (record { listed = map kept_seen sheets; last = last }) ≡ after
  pub at : IsAtPlace sheets step
  pub of : IsOfNumber n (map kept_seen sheets) step

-- the keys of what goes, and of what comes
abbrev pub step_keys : SheetStep → List Sheet → List Key
step_keys Stay list = []
step_keys (Come place sheet on) list = keys_in (with_enabled on (kept_seen sheet))
step_keys (Go place room) list = flat_map keys_in (at_place place list)
step_keys (Put place sheet room) list =
    flat_map keys_in (at_place place list) ++ flat_map keys_in (map (put_over (kept_seen sheet)) (at_place place list))
step_keys (Turn place room) list =
    flat_map keys_in (at_place place list) ++ flat_map keys_in (map turned_over (at_place place list))

-- the keys of selectors, which stand in a list for each rule
abbrev pub keys_of : List (Vec Selector Global) → List Key
keys_of lists =
    flat_map (λ (list : Vec Selector Global). map (λ selector. key_of (selector_of selector)) list.items) lists

-- the selectors are those of the rules of these sheets that take part
abbrev pub AreSelectorsOf : List KeptSheet → List (Vec Selector Global) → Type 0
AreSelectorsOf sheets lists =
    ∥ map (λ (list : Vec Selector Global). map selector_of list.items) lists
    ≡ map (λ (rule : PlacedRule). rule.selectors) (taking sheets) ∥₁

-- the layers that the enabled ones of these sheets declare
abbrev pub layers_declared : List Sheet → List (Origin × LayerName)
layers_declared sheets = flat_map sheet_layers (enabled_among sheets)
