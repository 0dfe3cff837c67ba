-- An edit of sheets gives no number that a sheet has.
use Rattle.std.proofs.Common.{◌≡◌, ℕ, zero, suc, ◌+◌, ◌<◌, ◌≤◌, ◌==◌, nat_eq, List, [], ◌∷◌, ◌++◌, map, take, drop, Bool, true, false, not, cond, refl, sym, ap, ◌∙◌, subst, arith}
use Rattle.std.specs.List.{AllByRecursion, IsDistinct}
use Rattle.std.proofs.lemmas.Bool.{eqb-true, false_from_ne_true}
use Rattle.base_model.specs.Sheet.{Sheet}
use Rattle.base_model.specs.Text.{Characters, same_text}
use Rattle.base_model.proofs.Lists.{each_weaker, each-map}
use Rattle.scene_model.proofs.Lists.{each-filter, filter-map}
use Rattle.change_model.proofs.Distinct.{IsDistinct-filter}
use Rattle.edit_model.specs.Edit.{SheetEdit, add_sheet, remove_sheet, replace_sheet, enable_sheet}
use Rattle.edit_model.specs.SheetApply.{SheetList, is_of, is_other, new_sheet, with_text, with_enabled, changed_in, sheets_after, last_after, AreNumbered}

abbrev numbers_of : List Sheet → List ℕ
numbers_of list = map (λ (sheet : Sheet). sheet.number) list

abbrev IsGiven : ℕ → Sheet → Type 0
IsGiven last sheet = (0 < sheet.number) × (sheet.number ≤ last)

-- one more

each_put : (P : Sheet → Type 0) (i : ℕ) (s : Sheet) (list : List Sheet) → P s → AllByRecursion P list → AllByRecursion P (take i list ++ s ∷ drop i list)
each_put P zero s list h r = (h, r)
each_put P (suc i) s [] h r = (h, r)
each_put P (suc i) s (a ∷ list) h r = (r.0, each_put P i s list h r.1)

each_number_put : (P : ℕ → Type 0) (i : ℕ) (s : Sheet) (list : List Sheet) → P s.number → AllByRecursion P (numbers_of list) → AllByRecursion P (numbers_of (take i list ++ s ∷ drop i list))
each_number_put P zero s list h r = (h, r)
each_number_put P (suc i) s [] h r = (h, r)
each_number_put P (suc i) s (a ∷ list) h r = (r.0, each_number_put P i s list h r.1)

apart : (m n : ℕ) → m < n → (n == m) ≡ false
apart m n h = false_from_ne_true (n == m) (λ e. absurd (omega (arith, eqb-true n m e, h)))

apart_too : (m n : ℕ) → m < n → (m == n) ≡ false
apart_too m n h = false_from_ne_true (m == n) (λ e. absurd (omega (arith, eqb-true m n e, h)))

distinct_put : (i : ℕ) (s : Sheet) (list : List Sheet) → AllByRecursion (λ (a : Sheet). a.number < s.number) list → IsDistinct nat_eq (numbers_of list) → IsDistinct nat_eq (numbers_of (take i list ++ s ∷ drop i list))
unfolding IsDistinct
distinct_put zero s list h d =
    (each-map (λ n. (s.number == n) ≡ false) (λ (a : Sheet). a.number) list (each_weaker (λ (a : Sheet). a.number < s.number) (λ (a : Sheet). (s.number == a.number) ≡ false) (λ a k. apart a.number s.number k) list h), d)
distinct_put (suc i) s [] h d = (tt, tt)
distinct_put (suc i) s (a ∷ list) h d =
    (each_number_put (λ n. (a.number == n) ≡ false) i s list (apart_too a.number s.number h.0) d.0, distinct_put i s list h.1 d.1)

-- one changed

module _ (n : ℕ) (change : Sheet → Sheet) (keeps : (s : Sheet) → (change s).number ≡ s.number) where
  one_number : (s : Sheet) (b : Bool) → (cond b (change s) s).number ≡ s.number
  one_number s true = keeps s
  one_number s false = refl

  same_numbers : (list : List Sheet) → numbers_of (changed_in n change list) ≡ numbers_of list
  same_numbers [] = refl
  same_numbers (s ∷ list) =
      ap (λ m. m ∷ numbers_of (changed_in n change list)) (one_number s (is_of n s)) ∙ ap (λ l. s.number ∷ l) (same_numbers list)

  given_changed : (last : ℕ) (list : List Sheet) → AllByRecursion (IsGiven last) list → AllByRecursion (IsGiven last) (changed_in n change list)
  given_changed last list h =
      each-map (IsGiven last) (λ s. cond (is_of n s) (change s) s) list (each_weaker (IsGiven last) (λ s. IsGiven last (cond (is_of n s) (change s) s)) (λ s k. subst (λ m. (0 < m) × (m ≤ last)) (sym (one_number s (is_of n s))) k) list h)

  numbered_changed : (l : SheetList) → AreNumbered l → AreNumbered (record { listed = changed_in n change l.listed; last = l.last })
  numbered_changed l a = record {
    distinct = subst (IsDistinct nat_eq) (sym (same_numbers l.listed)) a.distinct;
    given = given_changed l.last l.listed a.given;
  }

text_number : (text : Characters) (s : Sheet) (b : Bool) → (cond b s (record s { text = text; edition = s.edition + 1 })).number ≡ s.number
text_number text s true = refl
text_number text s false = refl

pub numbered-after : (l : SheetList) (edit : SheetEdit) → AreNumbered l → AreNumbered (record { listed = sheets_after l.last edit l.listed; last = last_after l.last edit })
numbered-after l (add_sheet index origin on text) a =
    let s : Sheet = new_sheet l.last origin on text in
    record {
      distinct = distinct_put index s l.listed (each_weaker (IsGiven l.last) (λ (b : Sheet). b.number < s.number) (λ b k. omega (arith, k.1)) l.listed a.given) a.distinct;
      given = each_put (IsGiven (l.last + 1)) index s l.listed (omega (arith), omega (arith)) (each_weaker (IsGiven l.last) (IsGiven (l.last + 1)) (λ b k. (k.0, omega (arith, k.1))) l.listed a.given);
    }
numbered-after l (remove_sheet n) a = record {
  distinct = subst (IsDistinct nat_eq) (filter-map (λ m. not (m == n)) (λ (s : Sheet). s.number) l.listed) (IsDistinct-filter (λ m. not (m == n)) (numbers_of l.listed) a.distinct);
  given = each-filter (IsGiven l.last) (IsGiven l.last) (is_other n) (λ s _ k. k) l.listed a.given;
}
numbered-after l (replace_sheet n text) a =
    numbered_changed n (with_text text) (λ s. text_number text s (same_text text s.text)) l a
numbered-after l (enable_sheet n on) a = numbered_changed n (with_enabled on) (λ s. refl) l a
