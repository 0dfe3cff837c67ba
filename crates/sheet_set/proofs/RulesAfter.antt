-- How many rules take part after a step.
use Rattle.std.proofs.Common.{◌≡◌, ℕ, ◌+◌, ◌≤◌, List, [], ◌∷◌, ◌++◌, length, map, flat_map, take, drop, true, false, Bool, cond, not, refl, sym, ap, ◌∙◌, arith, length-append}
use Rattle.std.proofs.lemmas.List.{take-append-drop}
use Rattle.std.proofs.lemmas.List.Concat.{flat_map-append}
use Rattle.base_model.specs.Sheet.{Sheet}
use Rattle.sheet_model.specs.StyleRules.{style_rules_in}
use Rattle.sheet_model.specs.Sources.{edition_of}
use Rattle.edit_model.specs.SheetApply.{with_enabled}
use Rattle.sheet_set.specs.declared.kept_sheet.KeptSheet.{KeptSheet}
use Rattle.sheet_set.specs.declared.sheet_step.SheetStep.{SheetStep}
use Rattle.sheet_set.specs.declared.sheet_step.SheetStep.TheVariants.{Stay, Come, Go, Put, Turn}
use Rattle.sheet_set.specs.Kept.{kept_seen, taking}
use Rattle.sheet_set.specs.Planned.{at_place, in_place, put_over, stepped, turned_over}
use Rattle.sheet_set.specs.Room.{IsAtPlace, rules_more}
use Rattle.sheet_set.specs.Rules.{taking_part}
use Rattle.sheet_set.proofs.AtPlace.{in-place-itself}
use Rattle.sheet_set.proofs.Going.{at_most, other_choice}
use Rattle.sheet_set.proofs.Placing.{length-placed}
use Rattle.sheet_set.proofs.SheetAt.{kept-at, seen-at, waiting-of}

abbrev count : List Sheet → ℕ
count sheets = length (flat_map taking_part sheets)

count-append : (xs ys : List Sheet) → count (xs ++ ys) ≡ count xs + count ys
count-append xs ys = ap length (flat_map-append taking_part xs ys) ∙ length-append (flat_map taking_part xs) (flat_map taking_part ys)

count-part : (kept : KeptSheet) (b : Bool) → count (with_enabled b (kept_seen kept) ∷ []) ≡ cond b kept.count 0
count-part kept b = length-append (taking_part (with_enabled b (kept_seen kept))) [] ∙ by b
  where
    by : (b : Bool) → length (taking_part (with_enabled b (kept_seen kept))) + 0 ≡ cond b kept.count 0
    by true =
        let all = length-placed (with_enabled true (kept_seen kept)) 0 0 (style_rules_in (edition_of (kept_seen kept)) kept.text) in
        omega (arith, all, kept.counted)
    by false = refl

-- others in the stead of the sheet at a place
count-in-place : (place : ℕ) (others list : List Sheet) → count (in_place place others list) ≡ count (take place list) + (count others + count (drop (place + 1) list))
count-in-place place others list =
    count-append (take place list) (others ++ drop (place + 1) list)
    ∙ ap (λ n. count (take place list) + n) (count-append others (drop (place + 1) list))

count-itself : (place : ℕ) (list : List Sheet) → count list ≡ count (take place list) + (count (at_place place list) + count (drop (place + 1) list))
count-itself place list =
    ap count (sym (in-place-itself place list)) ∙ count-in-place place (at_place place list) list

pub stepped-within : (sheets : List KeptSheet) (step : SheetStep) → IsAtPlace sheets step → count (stepped step (map kept_seen sheets)) ≤ length (taking sheets) + rules_more sheets step
stepped-within sheets Stay at = omega arith
stepped-within sheets (Come place sheet on) at =
    let list : List Sheet = map kept_seen sheets in
    let new : Sheet = with_enabled on (kept_seen sheet) in
    let front = count-append (take place list) (new ∷ drop place list) in
    let behind = count-append (new ∷ []) (drop place list) in
    let whole = ap count (take-append-drop place list) in
    omega (arith, front, behind, whole, count-append (take place list) (drop place list), count-part sheet on)
stepped-within sheets (Go place room) at =
    let list : List Sheet = map kept_seen sheets in
    omega (arith, count-in-place place [] list, count-itself place list)
stepped-within sheets (Put place sheet room) at =
    let list : List Sheet = map kept_seen sheets in
    let (it, is) = kept-at sheets place at.0.within in
    let one : count (map (put_over (kept_seen sheet)) (at_place place list)) ≡ cond it.enabled sheet.count 0 =
    ap (λ l. count (map (put_over (kept_seen sheet)) l)) (seen-at sheets place it at.0.within is) ∙ count-part sheet it.enabled in
    omega (arith, count-in-place place (map (put_over (kept_seen sheet)) (at_place place list)) list, count-itself place list, one, at_most it.enabled sheet.count)
stepped-within sheets (Turn place room) at =
    let list : List Sheet = map kept_seen sheets in
    let (it, is) = kept-at sheets place at.within in
    let one : count (map turned_over (at_place place list)) ≡ rules_more sheets (Turn place room) =
    ap (λ l. count (map turned_over l)) (seen-at sheets place it at.within is)
    ∙ (count-part it (not it.enabled) ∙ (other_choice it.enabled it.count ∙ sym (waiting-of sheets place it at.within is))) in
    omega (arith, count-in-place place (map turned_over (at_place place list)) list, count-itself place list, one)
