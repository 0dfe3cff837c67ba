-- Sheets that are numbered from 1 have numbers of their own.
use Rattle.std.proofs.Common.{◌≡◌, ℕ, suc, ◌+◌, ◌<◌, ◌≤◌, nat_eq, List, [], ◌∷◌, map, length, refl, sym, ap, subst, arith}
use Rattle.std.specs.List.{AllByRecursion, IsDistinct, range_with_len}
use Rattle.base_model.specs.Sheet.{Sheet}
use Rattle.scene_model.proofs.Numbers.{distinct-range}
use Rattle.edit_model.specs.SheetApply.{AreNumbered}
use Rattle.layer_order.specs.View.{sheets_from}
use Rattle.layer_order.specs.declared.sheet_input.SheetInput.{SheetInput}

numbers-from : (number : ℕ) (inputs : List SheetInput) → map (λ (sheet : Sheet). sheet.number) (sheets_from number inputs) ≡ range_with_len number (length inputs)
numbers-from number [] = refl
numbers-from number (input ∷ inputs) = ap (λ l. number ∷ l) (numbers-from (number + 1) inputs)

given-from : (last number : ℕ) (inputs : List SheetInput) → 0 < number → number + length inputs ≤ last + 1 → AllByRecursion (λ (sheet : Sheet). (0 < sheet.number) × (sheet.number ≤ last)) (sheets_from number inputs)
given-from last number [] some fits = tt
given-from last number (input ∷ inputs) some fits =
    ((some, omega arith), given-from last (number + 1) inputs (omega arith) (omega arith))

pub numbered-first : (inputs : List SheetInput) → AreNumbered (record { listed = sheets_from 1 inputs; last = length inputs })
numbered-first inputs = record {
  distinct = subst (IsDistinct nat_eq) (sym (numbers-from 1 inputs)) (distinct-range 1 (length inputs));
  given = given-from (length inputs) 1 inputs (omega arith) (omega arith);
}

pub length-sheets : (number : ℕ) (inputs : List SheetInput) → length (sheets_from number inputs) ≡ length inputs
length-sheets number [] = refl
length-sheets number (input ∷ inputs) = ap suc (length-sheets (number + 1) inputs)
