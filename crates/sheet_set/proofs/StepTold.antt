-- Whom a step of an edit marks.
use Rattle.std.proofs.Common.{◌≡◌, ℕ, List, [], ◌∷◌, Bool, true, false, refl, ◌∙◌, subst}
use Rattle.std.specs.Prelude.{◌==◌}
use Rattle.std.specs.List.{AllByRecursion}
use Rattle.base_model.specs.Sheet.{Sheet}
use Rattle.layer_model.specs.Swapped.{swapped}
use Rattle.selector_model.specs.Key.{Key}
use Rattle.sheet_model.specs.Sources.{layers_of_sheets}
use Rattle.edit_model.specs.SheetApply.{is_of, with_enabled}
use Rattle.sheet_set.specs.declared.sheet_step.SheetStep.{SheetStep}
use Rattle.sheet_set.specs.declared.sheet_step.SheetStep.TheVariants.{Stay, Come, Go, Put, Turn}
use Rattle.sheet_set.specs.Kept.{kept_seen}
use Rattle.sheet_set.specs.Planned.{at_place, put_over, stepped, turned_over}
use Rattle.sheet_set.specs.StepOf.{IsAlone, IsOfNumber, step_keys}
use Rattle.sheet_set.proofs.AtPlace.{come-at, go-at, one-there, put-at, turn-at}
use Rattle.sheet_set.proofs.Told.{Told, none-told, unswapped}

-- what holds of the sheets at a place, of which there is one
pub it-there : (P : Sheet → Type 0) (place : ℕ) (list : List Sheet) (sheet : Sheet) → at_place place list ≡ sheet ∷ [] → AllByRecursion P (at_place place list) → P sheet
it-there P place list sheet is h = let one : AllByRecursion P (sheet ∷ []) = subst (AllByRecursion P) is h in one.0

pub step-told : (n : ℕ) (list : List Sheet) (step : SheetStep) → IsOfNumber n list step
    → (turned : Bool) (keys : List Key) → turned ≡ swapped (layers_of_sheets list) (layers_of_sheets (stepped step list)) → keys ≡ step_keys step list
    → Told list (stepped step list) n turned keys
step-told n list Stay of turned keys swap are =
    none-told list n turned keys (swap ∙ unswapped (layers_of_sheets list)) are
step-told n list (Come place sheet on) of turned keys swap are =
    come-at n place list of.1 turned keys (with_enabled on (kept_seen sheet)) of.0 swap are
step-told n list (Go place room) alone turned keys swap are =
    let (sheet, is) = one-there place list alone.within in
    go-at n place list sheet is alone.before alone.after (it-there (λ s. is_of n s ≡ true) place list sheet is alone.it) turned keys swap are
step-told n list (Put place new room) of turned keys swap are =
    let alone : IsAlone n place list = of.0 in
    let (sheet, is) = one-there place list alone.within in
    put-at n place list sheet is alone.before alone.after (it-there (λ s. is_of n s ≡ true) place list sheet is alone.it) turned keys (put_over (kept_seen new)) of.1.0 swap are
    (it-there (λ s. (s.edition == new.edition) ≡ false) place list sheet is of.1.1)
step-told n list (Turn place room) alone turned keys swap are =
    let (sheet, is) = one-there place list alone.within in
    let it : is_of n sheet ≡ true = it-there (λ s. is_of n s ≡ true) place list sheet is alone.it in
    turn-at n place list sheet is alone.before alone.after it turned keys turned_over it swap are refl
