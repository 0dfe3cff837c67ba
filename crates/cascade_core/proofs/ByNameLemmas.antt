-- A list that a stable sort put in the order of names, and what it declares.
use Rattle.std.proofs.Common.{◌≡◌, Bool, true, false, ◌&&◌, List, [], ◌∷◌, filter, map, is_some, refl, sym, ap, subst, ◌∙◌, Some, ⊎_elim}
use Rattle.std.specs.Prelude.{IsTrue, T}
use Rattle.std.specs.Cmp.{IsTotalOrder}
use Rattle.std.specs.Cmp.Lexicographic.{nat_list_cmp_total}
use Rattle.std.specs.FinMap as finmap
use Rattle.std.specs.declared.cmp.Ordering.{Ordering}
use Rattle.std.specs.declared.cmp.Ordering.TheVariants.{Less, Equal, Greater}
use Rattle.std.specs.List.{list_all}
use Rattle.std.specs.List.Sorted.{IsPermutation, IsSortedBy, IsStableBy}
use Rattle.std.specs.Ordering.{is_le, ordering_then}
use Rattle.std.proofs.lemmas.Bool.{true≢false, and_parts, cases_Bool}
use Rattle.std.proofs.lemmas.Cmp.{on_total, then_total, back_total}
use Rattle.std.proofs.lemmas.List.Elements.{filter_passes}
use Rattle.std.proofs.lemmas.List.Folds.{list_all-map}
use Rattle.std.proofs.lemmas.List.Sums.{list_all-from_AllPass}
use Rattle.base_model.specs.Text.{Characters}
use Rattle.custom_model.specs.Value.{CustomValues}
use Rattle.custom_model.specs.Computed.{resolved}
use Rattle.css_tokens.proofs.PlaceLemmas.{order}
use Rattle.sheet_model.specs.Declared.{Target, longhand, custom, is_custom}
use Rattle.cascade_model.specs.Key.{Matched, key_cmp}
use Rattle.cascade_model.specs.Winner.{is_greatest, greatest_of, declares_custom}
use Rattle.cascade_model.specs.Ending.{custom_meaning}
use Rattle.cascade_model.specs.Custom.{custom_name, declared_values, custom_values}
use Rattle.cascade_model.proofs.KeyOrder.{key_cmp-total}
use Rattle.cascade_model.proofs.WinnerLemmas.{all_through, is_top, top_of}
use Rattle.cascade_core.specs.Rollback.{Descends}
use Rattle.cascade_core.specs.Names.{name_of, compare_names, by_name, NamesRise, AreByName, declared_of}
use Rattle.cascade_core.proofs.RollbackLemmas.{stricter, walked_down}
use Rattle.cascade_core.proofs.SortedLemmas.{Sorted, sorted_by_place, seen_falls, first_seen, by_seen, by_seen-total, found_among, found_both}
use Rattle.cascade_core.proofs.DeclaredLemmas.{declared_by, get-declared_values}
use Rattle.cascade_core.proofs.NameLemmas.{names_cmp-total, declares-names}
use Rattle.cascade_core.proofs.ListedLemmas.{Entry}
use Rattle.base_model.proofs.Orderings.{is_equal}

pub by_name-total : IsTotalOrder by_name
by_name-total = then_total (on_total name_of names_cmp-total) (back_total key_cmp-total)

-- the same the other way round
abbrev pub down : Matched → Matched → Ordering
down x y = by_name y x

pub down-total : IsTotalOrder down
down-total = back_total by_name-total

-- of one name the keys decide
of_one : (name : Characters) (x y : Matched) → declares_custom name x ≡ true → declares_custom name y ≡ true → down x y ≡ key_cmp x y
of_one name x y of_x of_y =
    let x_is = is_equal _ (sym (declares-names name x) ∙ of_x) in
    let y_is = is_equal _ (sym (declares-names name y) ∙ of_y) in
    let tied : compare_names y x ≡ Equal = sym (names_cmp-total.congr (Some name) (name_of y) (name_of x) y_is) ∙ x_is in
    ap (λ o. ordering_then o (key_cmp x y)) tied

module _ {X : Type 0} where
  -- two filters are one
  filter_both : (p q : X → Bool) (xs : List X) → filter q (filter p xs) ≡ filter (λ x. p x && q x) xs
  filter_both p q [] = refl
  filter_both p q (x ∷ xs) =
      ⊎_elim
      (λ (yes : p x ≡ true). rw (yes, filter_both p q xs))
      (λ (no : p x ≡ false). rw (no, filter_both p q xs))
      (cases_Bool (p x))

  all_passing : (p q : X → Bool) (xs : List X) → list_all p (filter (λ x. p x && q x) xs) ≡ true
  all_passing p q xs =
      let both : X → Bool = λ x. p x && q x in
      all_through both p (λ x h. (and_parts (p x) (q x) h).0) (filter both xs) (list_all-from_AllPass both (filter both xs) (filter_passes both xs))

  all_alike : (f g r : X → Bool) → ((x : X) → r x ≡ true → f x ≡ g x) → (xs : List X) → list_all r xs ≡ true → list_all f xs ≡ list_all g xs
  all_alike f g r same [] all = refl
  all_alike f g r same (x ∷ xs) all =
      let parts = and_parts (r x) (list_all r xs) all in
      rw (same x parts.0, all_alike f g r same xs parts.1)

top_of_one : (name : Characters) (ds : List Matched) → list_all (declares_custom name) ds ≡ true → top_of down down-total ds ≡ greatest_of ds
top_of_one name ds all = found_among (is_top down down-total ds) (is_greatest ds) (declares_custom name) alike ds all
  where
    alike : (x : Matched) → declares_custom name x ≡ true → is_top down down-total ds x ≡ is_greatest ds x
    alike x of_x =
        all_alike (λ y. is_le (down y x)) (λ y. is_le (key_cmp y x)) (declares_custom name) (λ y of_y. rw (of_one name y x of_y of_x)) ds all

names_le : (o r : Ordering) → is_le (ordering_then o r) ≡ true → is_le o ≡ true
names_le Less r h = refl
names_le Equal r h = refl
names_le Greater r h = h

module _ {X : Type 0} (seen : X → Matched) where
  abbrev seen_down : X → X → Ordering
  seen_down = by_seen down down-total seen

  abbrev seen_down-total : IsTotalOrder seen_down
  seen_down-total = by_seen-total down down-total seen

  abbrev falls : X → X → Bool
  falls = seen_falls down down-total seen

  rise_seen : (xs : List X) → Sorted seen_down seen_down-total xs → NamesRise (map seen xs)
  rise_seen [] sorted = tt
  rise_seen (x ∷ xs) sorted =
      let is_from : Matched → Bool = λ e. is_le (compare_names (seen x) e) in
      let from = all_through (λ y. is_le (seen_down y x)) (λ y. is_from (seen y)) (λ y. names_le (compare_names (seen x) (seen y)) (key_cmp (seen y) (seen x))) xs sorted.0 in
      (rw (list_all-map is_from seen xs) from, rise_seen xs sorted.1)

  module _ (xs ys : List X) (up : IsSortedBy falls ys) (permuted : IsPermutation xs ys) (stable : IsStableBy falls xs ys) where
    each : (name : Characters) → Descends (filter (declares_custom name) (map seen xs)) (filter (declares_custom name) (map seen ys))
    each name = λ passes.
        let both : Matched → Bool = λ d. declares_custom name d && passes d in
        found_both (declares_custom name) passes (map seen ys)
        ∙ (first_seen down down-total seen both xs ys up permuted stable
        ∙ (top_of_one name (filter both (map seen xs)) (all_passing (declares_custom name) passes (map seen xs))
        ∙ ap greatest_of (sym (filter_both (declares_custom name) passes (map seen xs)))))

    pub are_by_name : AreByName (map seen xs) (map seen ys)
    are_by_name = record { rise = rise_seen ys (sorted_by_place seen_down seen_down-total ys up); each = each }

of_target : (name : Characters) (t : Target) → is_custom name t ≡ true → is_some (custom_name t) ≡ true
of_target name (longhand property) h = absurd (true≢false (sym h))
of_target name (custom other) h = refl

-- those that are of no custom property are of no name
pub without_others : (ds others sorted : List Matched) → others ≡ filter (λ d. is_some (name_of d)) ds → AreByName others sorted → AreByName ds sorted
without_others ds others sorted are down =
    let named : (name : Characters) (d : Matched) → declares_custom name d ≡ true → is_some (name_of d) ≡ true = λ name d. of_target name d.target in
    record {
      rise = down.rise;
      each = λ name. rw (are, stricter (λ d. is_some (name_of d)) (declares_custom name) (named name) ds) at (down.each name);
    }

module _ {ds sorted : List Matched} (are : AreByName ds sorted) where
  -- the cascaded value of a name, by its declarations in this order
  along_declared : (name : Characters) → declared_of sorted name ≡ declared_by ds name
  along_declared name =
      rw (walked_down custom_meaning (filter (declares_custom name) ds) (filter (declares_custom name) sorted) (are.each name))

  -- so the custom properties are resolved
  module _ (entries : List Entry) (rises : IsTrue (finmap.is_sorted order entries)) (found : (name : Characters) → finmap.find order name entries ≡ declared_of sorted name) where
    listed_all : finmap.from_sorted entries ≡ declared_values ds
    listed_all =
        finmap.same_map nat_list_cmp_total (finmap.slice_cmp-IsAntisymmetric finmap.nat_cmp-IsAntisymmetric) _ _ (λ name.
        finmap.get-from_sorted order entries name (subst T (sym rises) tt)
        ∙ (found name ∙ (along_declared name ∙ sym (get-declared_values ds name))))

    pub resolved_all : (parents : CustomValues) → resolved (finmap.from_sorted entries) parents ≡ custom_values parents ds
    resolved_all parents = rw listed_all
