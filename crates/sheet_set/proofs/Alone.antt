-- The sheet that alone has a number.
use Rattle.std.proofs.Common.{◌≡◌, ℕ, ◌+◌, ◌<◌, ◌≤◌, nat_eq, List, [], ◌∷◌, ◌++◌, map, take, drop, true, false, sym, ap, ◌∙◌, subst, arith}
use Rattle.std.specs.List.{IsDistinct}
use Rattle.std.proofs.lemmas.Bool.{eqb-true, false_from_ne_true}
use Rattle.base_model.proofs.Lists.{each_weaker}
use Rattle.base_model.specs.Sheet.{Sheet}
use Rattle.edit_model.specs.SheetApply.{AreNumbered, SheetList, is_of}
use Rattle.sheet_set.proofs.AtPlace.{in-place-itself}
use Rattle.sheet_set.specs.Planned.{at_place, in_place}
use Rattle.sheet_set.specs.StepOf.{AreOthers}
use Rattle.sheet_set.proofs.Places.{others_from}

-- a sheet at a place, where each has a number of its own
pub alone-from : (n place : ℕ) (list : List Sheet) (sheet : Sheet) → at_place place list ≡ sheet ∷ [] → is_of n sheet ≡ true → IsDistinct nat_eq (map (λ (s : Sheet). s.number) list)
    → AreOthers n (take place list) × AreOthers n (drop (place + 1) list)
alone-from n place list sheet is it distinct =
    let whole : list ≡ take place list ++ sheet ∷ drop (place + 1) list = sym (in-place-itself place list) ∙ ap (λ l. in_place place l list) is in
    let others = others_from (take place list) sheet (drop (place + 1) list) (subst (λ l. IsDistinct nat_eq (map (λ (s : Sheet). s.number) l)) whole distinct) in
    let number : sheet.number ≡ n = eqb-true sheet.number n it in
    (subst (λ m. AreOthers m (take place list)) number others.0, subst (λ m. AreOthers m (drop (place + 1) list)) number others.1)

-- the next number is of none
pub next-others : (l : SheetList) → AreNumbered l → AreOthers (l.last + 1) l.listed
next-others l numbered =
    each_weaker (λ (s : Sheet). (0 < s.number) × (s.number ≤ l.last)) (λ (s : Sheet). is_of (l.last + 1) s ≡ false)
    (λ s given. false_from_ne_true (is_of (l.last + 1) s) (λ same. let is = eqb-true s.number (l.last + 1) same in absurd (omega (arith, is, given.1))))
    l.listed numbered.given
