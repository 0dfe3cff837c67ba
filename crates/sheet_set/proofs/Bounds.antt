-- The limits that an accepted edit of sheets keeps.
use Rattle.std.proofs.Common.{◌≡◌, ℕ, ◌+◌, ◌<◌, ◌≤◌, nat_eq, nat_le, List, [], ◌∷◌, length, map, filter, take, drop, Bool, true, false, cond, None, ap, arith, length-append}
use Rattle.std.proofs.lemmas.List.{length-map, take-append-drop}
use Rattle.std.proofs.lemmas.Map.Keys.{IsDistinct-prop}
use Rattle.std.specs.Coded.{le_prop}
use Rattle.std.specs.List.{AllByRecursion-prop}
use Rattle.base_model.specs.Limits.{sheet_limit, number_limit}
use Rattle.base_model.specs.Origin.{Origin}
use Rattle.base_model.specs.Sheet.{Sheet}
use Rattle.base_model.specs.Text.{Characters}
use Rattle.edit_model.specs.Edit.{SheetEdit, add_sheet, remove_sheet, replace_sheet, enable_sheet}
use Rattle.edit_model.specs.Refusal.{Refusal, limit, number_count, sheet_count, unless}
use Rattle.edit_model.specs.SheetApply.{AreNumbered, SheetList, is_of, is_other, last_after, new_sheet, sheet_refusal, sheets_after, with_enabled, with_text}
use Rattle.edit_model.proofs.Accepted.{none_parts, passes_from}

filtered : (p : Sheet → Bool) (sheets : List Sheet) → length (filter p sheets) ≤ length sheets
filtered p [] = omega arith
filtered p (sheet ∷ sheets) = by (p sheet) (filtered p sheets)
  where
    by : (b : Bool) → length (filter p sheets) ≤ length sheets → length (cond b (sheet ∷ filter p sheets) (filter p sheets)) ≤ length (sheet ∷ sheets)
    by true h = omega (arith, h)
    by false h = omega (arith, h)

pub within : (n most : ℕ) (why : Refusal) → unless (nat_le n most) why ≡ None → n ≤ most
within n most why h = let passes = passes_from (nat_le n most) why h in grind (arith, passes)

one_more : (l : SheetList) (index : ℕ) (origin : Origin) (on : Bool) (text : Characters) → sheet_refusal l (add_sheet index origin on text) ≡ None → length l.listed + 1 ≤ sheet_limit
one_more l index origin on text fine =
    within (length l.listed + 1) sheet_limit (limit sheet_count sheet_limit) (none_parts _ _ (none_parts _ _ fine).1).0

pub few-after : (l : SheetList) (edit : SheetEdit) → sheet_refusal l edit ≡ None → length l.listed ≤ sheet_limit → length (sheets_after l.last edit l.listed) ≤ sheet_limit
few-after l (add_sheet index origin on text) fine few =
    let most = one_more l index origin on text fine in
    let whole = ap length (take-append-drop index l.listed) in
    let parts = length-append (take index l.listed) (drop index l.listed) in
    let new = length-append (take index l.listed) (new_sheet l.last origin on text ∷ drop index l.listed) in
    omega (arith, most, whole, parts, new)
few-after l (remove_sheet n) fine few = let fewer = filtered (is_other n) l.listed in omega (arith, fewer, few)
few-after l (replace_sheet n text) fine few =
    let same = length-map l.listed (λ (sheet : Sheet). cond (is_of n sheet) (with_text text sheet) sheet) in
    omega (arith, same, few)
few-after l (enable_sheet n on) fine few =
    let same = length-map l.listed (λ (sheet : Sheet). cond (is_of n sheet) (with_enabled on sheet) sheet) in
    omega (arith, same, few)

pub given-after : (l : SheetList) (edit : SheetEdit) → sheet_refusal l edit ≡ None → l.last ≤ number_limit → last_after l.last edit ≤ number_limit
given-after l (add_sheet index origin on text) fine given =
    within (l.last + 1) number_limit (limit number_count number_limit) (none_parts _ _ (none_parts _ _ (none_parts _ _ fine).1).1).0
given-after l (remove_sheet n) fine given = given
given-after l (replace_sheet n text) fine given = given
given-after l (enable_sheet n on) fine given = given

-- That sheets are numbered is no more than true.
pub numbered-prop : (l : SheetList) → IsProp (AreNumbered l)
numbered-prop l =
    let distinct = IsDistinct-prop nat_eq (map (λ (sheet : Sheet). sheet.number) l.listed) in
    let given = AllByRecursion-prop (λ (sheet : Sheet). (0 < sheet.number) × (sheet.number ≤ l.last)) (λ sheet. hlevel (le_prop)) l.listed in
    hlevel (distinct, given)
