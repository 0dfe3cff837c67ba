-- Maps without entries, and the entries of maps.
use Rattle.std.proofs.Common.{◌≡◌, Bool, true, false, cond, List, [], ◌∷◌, length, Some, Ordering, Less, Equal, Greater, refl, sym, ap, ◌∙◌, arith}
use lib.Dec.{T}
use Rattle.std.specs.List.{AllByRecursion}
use Rattle.std.specs.Ordering.{is_eq, is_lt, nat_cmp, ordering_reverse}
use Rattle.std.specs.Cmp.Lexicographic.{nat_list_cmp_total, slice_cmp}
use Rattle.std.specs.FinMap as finmap
use Rattle.std.specs.FinMap.Entries.{below_all}
use Rattle.std.proofs.lemmas.Bool.{and_parts, false≢true}
use Rattle.std.proofs.lemmas.Cmp.{tied_itself}
use Rattle.base_model.specs.Text.{Characters}
use Rattle.base_model.proofs.Lists.{each_weaker}
use Rattle.custom_model.specs.Value.{CustomValues}
use Rattle.custom_model.specs.Printed.{custom_texts}
use Rattle.custom_model.specs.Computed.{resolved}

no_items : {A : Type 0} (list : List A) → length list ≡ 0 → list ≡ []
no_items [] e = refl
no_items (x ∷ xs) e = absurd (omega (arith, e))

pub entries-empty : (X : Type 0) → finmap.entries (finmap.empty {X = X} {R = slice_cmp nat_cmp}) ≡ []
entries-empty X =
    no_items _ (sym (finmap.len-entries finmap.empty) ∙ finmap.len-empty (slice_cmp nat_cmp) X)

-- nothing is printed where no custom property has a value
pub texts-empty : custom_texts finmap.empty ≡ []
unfolding custom_texts
texts-empty = rw (entries-empty _) refl

-- where nothing is declared, each value is inherited
pub resolved-empty : (inherited : CustomValues) → resolved finmap.empty inherited ≡ inherited
unfolding resolved
resolved-empty inherited = rw (entries-empty _) refl

-- each entry has what is got by its name

abbrev order : Characters → Characters → Ordering
order = slice_cmp nat_cmp

apart : (o : Ordering) → is_lt o ≡ true → is_eq (ordering_reverse o) ≡ false
apart Less h = refl
apart Equal h = absurd (false≢true h)
apart Greater h = absurd (false≢true h)

module _ {X : Type 0} where
  abbrev AreFound : List (Characters × X) → List (Characters × X) → Type 0
  AreFound all entries = AllByRecursion (λ (entry : Characters × X). finmap.find order entry.0 all ≡ Some entry.1) entries

  -- an entry whose name comes first hides none
  found_behind : (first : Characters × X) (all entries : List (Characters × X)) → below_all order first.0 entries ≡ true → AreFound all entries → AreFound (first ∷ all) entries
  found_behind first all [] h k = tt
  found_behind first all (entry ∷ entries) h k =
      let parts = and_parts (is_lt (order first.0 entry.0)) _ h in
      let other = ap is_eq (nat_list_cmp_total.antisymm entry.0 first.0) ∙ apart (order first.0 entry.0) parts.0 in
      (ap (λ b. cond b (Some first.1) (finmap.find order entry.0 all)) other ∙ k.0, found_behind first all entries parts.1 k.1)

  entries_found : (entries : List (Characters × X)) → finmap.is_sorted order entries ≡ true → AreFound entries entries
  entries_found [] h = tt
  entries_found (first ∷ entries) h =
      let parts = and_parts (below_all order first.0 entries) _ h in (
        ap (λ o. cond (is_eq o) (Some first.1) (finmap.find order first.0 entries)) (tied_itself nat_list_cmp_total first.0),
        found_behind first entries entries parts.0 (entries_found entries parts.1),
      )

  pub entries_got : (values : finmap.FinMap order X) → AllByRecursion (λ (entry : Characters × X). finmap.get values entry.0 ≡ Some entry.1) (finmap.entries values)
  entries_got values =
      each_weaker _ _ (λ entry found. finmap.get-entries values entry.0 ∙ found) (finmap.entries values)
      (entries_found (finmap.entries values) (holds (finmap.is_sorted order (finmap.entries values)) (finmap.entries_sorted values)))
    where
      holds : (b : Bool) → T b → b ≡ true
      holds true h = refl
      holds false h = absurd h
