-- An edit of the sheet of a number is one at a place of the list.
use Rattle.std.proofs.Common.{◌≡◌, ℕ, ◌==◌, nat_eq, List, [], ◌∷◌, ◌++◌, map, filter, true, false, not, cond, refl, sym, ap, ◌∙◌, eq-eqb}
use Rattle.std.specs.List.{AllByRecursion, IsDistinct}
use Rattle.std.proofs.lemmas.Bool.{cond-true, cond-false, eqb-true, false≢true, false_from_ne_true}
use Rattle.std.proofs.lemmas.List.{map-append}
use Rattle.std.proofs.lemmas.List.Elements.{filter-append}
use Rattle.base_model.specs.Sheet.{Sheet}
use Rattle.edit_model.specs.SheetApply.{is_of, is_other, changed_in}
use Rattle.sheet_set.specs.StepOf.{AreOthers}

changed-others : (n : ℕ) (change : Sheet → Sheet) (sheets : List Sheet) → AreOthers n sheets → changed_in n change sheets ≡ sheets
changed-others n change [] h = refl
changed-others n change (sheet ∷ sheets) h =
    ap (λ s. s ∷ changed_in n change sheets) (cond-false (is_of n sheet) (change sheet) sheet h.0)
    ∙ ap (λ l. sheet ∷ l) (changed-others n change sheets h.1)

left-others : (n : ℕ) (sheets : List Sheet) → AreOthers n sheets → filter (is_other n) sheets ≡ sheets
left-others n [] h = refl
left-others n (sheet ∷ sheets) h =
    cond-true (is_other n sheet) (sheet ∷ filter (is_other n) sheets) (filter (is_other n) sheets) (ap not h.0)
    ∙ ap (λ l. sheet ∷ l) (left-others n sheets h.1)

pub none-others : (n : ℕ) (sheets : List Sheet) → AreOthers n sheets → filter (is_of n) sheets ≡ []
none-others n [] h = refl
none-others n (sheet ∷ sheets) h =
    cond-false (is_of n sheet) (sheet ∷ filter (is_of n) sheets) (filter (is_of n) sheets) h.0 ∙ none-others n sheets h.1

module _ (n : ℕ) (xs : List Sheet) (sheet : Sheet) (ys : List Sheet) (before : AreOthers n xs) (it : is_of n sheet ≡ true) (after : AreOthers n ys) where
  pub changed-place : (change : Sheet → Sheet) → changed_in n change (xs ++ sheet ∷ ys) ≡ xs ++ change sheet ∷ ys
  changed-place change =
      map-append (λ s. cond (is_of n s) (change s) s) xs (sheet ∷ ys)
      ∙ (ap (λ l. l ++ changed_in n change (sheet ∷ ys)) (changed-others n change xs before)
      ∙ (ap (λ s. xs ++ s ∷ changed_in n change ys) (cond-true (is_of n sheet) (change sheet) sheet it)
      ∙ ap (λ l. xs ++ change sheet ∷ l) (changed-others n change ys after)))

  pub left-place : filter (is_other n) (xs ++ sheet ∷ ys) ≡ xs ++ ys
  left-place =
      filter-append (is_other n) xs (sheet ∷ ys)
      ∙ (ap (λ l. l ++ filter (is_other n) (sheet ∷ ys)) (left-others n xs before)
      ∙ ap (λ l. xs ++ l) (cond-false (is_other n sheet) (sheet ∷ filter (is_other n) ys) (filter (is_other n) ys) (ap not it) ∙ left-others n ys after))

  pub it-place : filter (is_of n) (xs ++ sheet ∷ ys) ≡ sheet ∷ []
  it-place =
      filter-append (is_of n) xs (sheet ∷ ys)
      ∙ (ap (λ l. l ++ filter (is_of n) (sheet ∷ ys)) (none-others n xs before)
      ∙ (cond-true (is_of n sheet) (sheet ∷ filter (is_of n) ys) (filter (is_of n) ys) it
      ∙ ap (λ l. sheet ∷ l) (none-others n ys after)))

-- in a list in which no number stands twice, all but one are others

abbrev numbers_of : List Sheet → List ℕ
numbers_of sheets = map (λ (sheet : Sheet). sheet.number) sheets

at_middle : (P : ℕ → Type 0) (xs : List Sheet) (sheet : Sheet) (ys : List Sheet) → AllByRecursion P (numbers_of (xs ++ sheet ∷ ys)) → P sheet.number
at_middle P [] sheet ys h = h.0
at_middle P (x ∷ xs) sheet ys h = at_middle P xs sheet ys h.1

other_way : (a b : ℕ) → nat_eq a b ≡ false → (b == a) ≡ false
other_way a b h = false_from_ne_true (b == a) (λ e. false≢true (sym h ∙ eq-eqb a b (sym (eqb-true b a e))))

others_behind : (n : ℕ) (sheets : List Sheet) → AllByRecursion (λ m. nat_eq n m ≡ false) (numbers_of sheets) → AreOthers n sheets
others_behind n [] h = tt
others_behind n (sheet ∷ sheets) h = (other_way n sheet.number h.0, others_behind n sheets h.1)

pub others_from : (xs : List Sheet) (sheet : Sheet) (ys : List Sheet) → IsDistinct nat_eq (numbers_of (xs ++ sheet ∷ ys)) → AreOthers sheet.number xs × AreOthers sheet.number ys
unfolding IsDistinct
others_from [] sheet ys d = (tt, others_behind sheet.number ys d.0)
others_from (x ∷ xs) sheet ys d =
    let rest = others_from xs sheet ys d.1 in
    ((at_middle (λ m. nat_eq x.number m ≡ false) xs sheet ys d.0, rest.0), rest.1)
