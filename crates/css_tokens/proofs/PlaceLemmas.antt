-- Where the names of a sorted list stand.
use Rattle.std.proofs.Common.{◌≡◌, ◌≢◌, ℕ, zero, suc, ◌+◌, ◌<◌, ⊎_elim, List, [], ◌∷◌, length, map, get_or}
use Rattle.std.proofs.Common.{Bool, true, false, cond, Option, Some, None, option_map, refl, sym, ap, ap₂, subst, ◌∙◌, arith, Ordering, Less, Equal, Greater, ◌&&◌}
use lib.Dec.{T}
use Rattle.std.specs.Ordering.{nat_cmp, eq_by_cmp, ordering_index, ordering_reverse, is_lt, is_eq}
use Rattle.std.specs.List.{AllByRecursion, HoldsAt}
use Rattle.std.specs.List.Sorted.{IsNonDecreasingBy, IsPartitionPoint, IsStrictlySortedBy}
use Rattle.std.proofs.lemmas.Cmp.{tied_itself}
use Rattle.std.proofs.lemmas.List.{get_or-map, length-map}
use Rattle.std.proofs.lemmas.List.Sorted.{searchable_from_sorted}
use Rattle.std.proofs.lemmas.Map.Keys.{Less-from_sorted, sorted_tail}
use Rattle.std.proofs.lemmas.Map.Lookups.{exact_bytes}
use Rattle.std.specs.FinMap.Entries.{below_all}
use Rattle.std.specs.Cmp.Lexicographic.{slice_cmp, nat_list_cmp_total, bytes_decides}
use Rattle.std.specs.FinMap as finmap
use Rattle.std.proofs.lemmas.Bool.{true≢false, false_from_ne_true, cases_lt}
use Rattle.std.proofs.lemmas.Option.{none-some, same_Some}
use Rattle.std.proofs.lemmas.Map.Text.{is_eq-slice_cmp}
use Rattle.base_model.specs.Text.{Characters, same_text}
use Rattle.css_tokens.specs.Place.{place_among, place_in}

pub less : (o : Ordering) → T (is_lt o) → o ≡ Less
less Less h = refl
less Equal h = absurd h
less Greater h = absurd h

pub first_part : (a b : Bool) → T (a && b) → T a
first_part true b h = tt
first_part false b h = h

pub second_part : (a b : Bool) → T (a && b) → T b
second_part true b h = h
second_part false b h = absurd h

abbrev pub order : Characters → Characters → Ordering
order = slice_cmp nat_cmp

-- a name stands where it is
own_place : (names : List Characters) (place : ℕ) → place < length names → IsStrictlySortedBy order names → place_among names (get_or names place []) ≡ Some place
own_place [] place within sorted = absurd (omega arith)
own_place (name ∷ names) zero within sorted = ap (λ b. cond b (Some 0) (option_map suc (place_among names name))) ((bytes_decides name name).1 refl)
own_place (name ∷ names) (suc k) within sorted =
    let above : order name (get_or names k []) ≡ Less = Less-from_sorted order (name ∷ names) 0 (suc k) [] sorted (omega arith) within in
    let apart : same_text name (get_or names k []) ≡ false = sym (is_eq-slice_cmp name (get_or names k [])) ∙ ap is_eq above in
    ap (λ b. cond b (Some 0) (option_map suc (place_among names (get_or names k [])))) apart
    ∙ ap (option_map suc) (own_place names k (omega arith) (sorted_tail order name names sorted))

-- what a search finds among what stands under names that rise
module _ {X : Type 0} (key : X → Characters) (name : Characters) where
  name_at : (list : List X) (place : ℕ) → place < length list → HoldsAt (λ x. order (key x) name ≡ Equal) list place → get_or (map key list) place [] ≡ name
  name_at [] place within h = absurd (omega arith)
  name_at (x ∷ list) place within h = get_or-map key (x ∷ list) place x [] within ∙ exact_bytes _ _ (h x)

  none_at : (list : List X) → ((k : ℕ) (d : X) → k < length list → order (key (get_or list k d)) name ≢ Equal) → place_among (map key list) name ≡ None
  none_at [] apart = refl
  none_at (x ∷ list) apart =
      let differs : same_text (key x) name ≡ false =
      false_from_ne_true (same_text (key x) name) (λ s. apart 0 x (omega arith) (ap (order (key x)) (sym ((bytes_decides (key x) name).0 s)) ∙ tied_itself nat_list_cmp_total (key x))) in
      ap (λ b. cond b (Some 0) (option_map suc (place_among (map key list) name))) differs
      ∙ ap (option_map suc) (none_at list (λ k d within. apart (suc k) d (omega arith)))

  module _ (list : List X) (sorted : IsStrictlySortedBy order (map key list)) where
    next_above : (k : ℕ) (d : X) → k + 1 < length list → order (key (get_or list k d)) (key (get_or list (k + 1) d)) ≡ Less
    next_above k d within =
        sym (ap₂ order (get_or-map key list k d (key d) (omega arith)) (get_or-map key list (k + 1) d (key d) within))
        ∙ Less-from_sorted order (map key list) k (k + 1) (key d) sorted (omega arith) (omega (arith, within, length-map list key))

    searchable : IsNonDecreasingBy (λ x. ordering_index (order (key x) name)) list
    searchable =
        searchable_from_sorted nat_list_cmp_total key list name
        (λ k d low within. ap is_lt (nat_list_cmp_total.antisymm (key (get_or list (k + 1) d)) (key (get_or list k d)) ∙ ap ordering_reverse (next_above k d within)))

    pub found_place : (place : ℕ) → place < length list → HoldsAt (λ x. order (key x) name ≡ Equal) list place → Some place ≡ place_among (map key list) name
    found_place place within h =
        sym (ap (place_among (map key list)) (sym (name_at list place within h)) ∙ own_place (map key list) place (omega (arith, within, length-map list key)) sorted)

    pub no_place_found : (place : ℕ)
        → (IsNonDecreasingBy (λ x. ordering_index (order (key x) name)) list → IsPartitionPoint (λ x. order (key x) name ≡ Less) (λ x. order (key x) name ≡ Greater) list place)
        → None ≡ place_among (map key list) name
    no_place_found place parted =
        let parts = parted searchable in
        sym (none_at list (λ k d within. ⊎_elim
        (λ below. λ e. less_not_equal (sym (parts.0 k d (omega arith) below) ∙ e))
        (λ above. λ e. greater_not_equal (sym (parts.1 k d above within) ∙ e)) (cases_lt k place)))
      where
        less_not_equal : Less ≡ Equal → ⊥
        less_not_equal e = cc

        greater_not_equal : Greater ≡ Equal → ⊥
        greater_not_equal e = cc

-- the same of pairs of a name and what stands under it
abbrev Pairs : Type 0 → Type 0
Pairs X = List (Characters × X)

module _ {X : Type 0} where
  -- a name that has a place stands there
  pub place_stands : (all : Pairs X) (name : Characters) (place : ℕ) (d : Characters × X) → place_in all name ≡ Some place → (place < length all) × ((get_or all place d).0 ≡ name)
  place_stands [] name place d e = absurd (none-some place e)
  place_stands (pair ∷ pairs) name place d e = by (same_text pair.0 name) refl (place_in pairs name) refl (λ k h. place_stands pairs name k d h) e
    where
      by : (b : Bool) → same_text pair.0 name ≡ b → (o : Option ℕ) → place_in pairs name ≡ o
          → ((k : ℕ) → place_in pairs name ≡ Some k → (k < length pairs) × ((get_or pairs k d).0 ≡ name))
          → cond b (Some 0) (option_map suc o) ≡ Some place → (place < length (pair ∷ pairs)) × ((get_or (pair ∷ pairs) place d).0 ≡ name)
      by true s o h again e =
          let at : 0 ≡ place = same_Some 0 place e in
          (omega arith, ap (λ n. (get_or (pair ∷ pairs) n d).0) (sym at) ∙ (bytes_decides pair.0 name).0 s)
      by false s None h again e = absurd (none-some place e)
      by false s (Some k) h again e =
          let at : suc k ≡ place = same_Some (suc k) place e in
          let r = again k h in
          (omega (arith, r.0), ap (λ n. (get_or (pair ∷ pairs) n d).0) (sym at) ∙ r.1)

  -- and is there to be found
  pub no_place : (all : Pairs X) (name : Characters) → place_in all name ≡ None → finmap.find order name all ≡ None
  no_place [] name e = refl
  no_place (pair ∷ pairs) name e = by (same_text pair.0 name) refl (place_in pairs name) refl (no_place pairs name) e
    where
      differs : same_text pair.0 name ≡ false → eq_by_cmp order name pair.0 ≡ false
      differs s = is_eq-slice_cmp name pair.0 ∙ false_from_ne_true (same_text name pair.0) (λ t. true≢false (sym ((bytes_decides pair.0 name).1 (sym ((bytes_decides name pair.0).0 t))) ∙ s))

      by : (b : Bool) → same_text pair.0 name ≡ b → (o : Option ℕ) → place_in pairs name ≡ o → (place_in pairs name ≡ None → finmap.find order name pairs ≡ None)
          → cond b (Some 0) (option_map suc o) ≡ None → finmap.find order name (pair ∷ pairs) ≡ None
      by true s o h again e = absurd (none-some 0 (sym e))
      by false s (Some k) h again e = absurd (none-some (suc k) (sym e))
      by false s None h again e = ap (λ b. cond b (Some pair.1) (finmap.find order name pairs)) (differs s) ∙ again h

  -- the name that comes first is not behind
  not_behind : (name : Characters) (pairs : Pairs X) (k : ℕ) (d : Characters × X) → k < length pairs → T (below_all order name pairs) → order name (get_or pairs k d).0 ≡ Less
  not_behind name [] k d within h = absurd (omega arith)
  not_behind name (pair ∷ pairs) zero d within h = less (order name pair.0) (first_part _ _ h)
  not_behind name (pair ∷ pairs) (suc k) d within h = not_behind name pairs k d (omega arith) (second_part _ _ h)

  -- the value at a place is the one of its name
  pub value_at : (all : Pairs X) (place : ℕ) (d : Characters × X) → place < length all → T (finmap.is_sorted order all) → finmap.find order (get_or all place d).0 all ≡ Some (get_or all place d).1
  value_at [] place d within sorted = absurd (omega arith)
  value_at (pair ∷ pairs) zero d within sorted = ap (λ o. cond (is_eq o) (Some pair.1) (finmap.find order pair.0 pairs)) (tied_itself nat_list_cmp_total pair.0)
  value_at (pair ∷ pairs) (suc k) d within sorted =
      let above : order pair.0 (get_or pairs k d).0 ≡ Less = not_behind pair.0 pairs k d (omega arith) (first_part _ _ sorted) in
      ap (λ o. cond (is_eq o) (Some pair.1) (finmap.find order (get_or pairs k d).0 pairs)) (nat_list_cmp_total.antisymm (get_or pairs k d).0 pair.0 ∙ ap ordering_reverse above)
      ∙ value_at pairs k d (omega arith) (second_part _ _ sorted)

  pub value_found : (all : Pairs X) (name : Characters) (place : ℕ) (d : Characters × X) → T (finmap.is_sorted order all)
      → place_in all name ≡ Some place → finmap.find order name all ≡ Some (get_or all place d).1
  value_found all name place d sorted e =
      let stands = place_stands all name place d e in
      ap (λ n. finmap.find order n all) (sym stands.1) ∙ value_at all place d stands.0 sorted

  -- the names of pairs that rise
  below_each : (name : Characters) (pairs : Pairs X) → T (below_all order name pairs) → AllByRecursion (λ n. order name n ≡ Less) (map (λ (pair : Characters × X). pair.0) pairs)
  below_each name [] h = tt
  below_each name (pair ∷ pairs) h = (less _ (first_part _ _ h), below_each name pairs (second_part _ _ h))

  pub names_rise : (pairs : Pairs X) → T (finmap.is_sorted order pairs) → IsStrictlySortedBy order (map (λ (pair : Characters × X). pair.0) pairs)
  unfolding IsStrictlySortedBy
  names_rise [] h = tt
  names_rise (pair ∷ pairs) h = (below_each pair.0 pairs (first_part _ _ h), names_rise pairs (second_part _ _ h))

  pub place_of_name : (all : Pairs X) (place : ℕ) (d : Characters × X) → place < length all → T (finmap.is_sorted order all) → place_in all (get_or all place d).0 ≡ Some place
  place_of_name all place d within sorted =
      let names = map (λ (pair : Characters × X). pair.0) all in
      ap (place_among names) (sym (get_or-map (λ (pair : Characters × X). pair.0) all place d [] within))
      ∙ own_place names place (omega (arith, within, length-map all (λ (pair : Characters × X). pair.0))) (names_rise all sorted)

-- entries that stand for pairs
module _ {X Y : Type 0} (pair_of : X → Characters × Y) (list : List X) (pairs : List (Characters × Y)) (e : map pair_of list ≡ pairs) where
  keys_are : map (λ x. (pair_of x).0) list ≡ map (λ (pair : Characters × Y). pair.0) pairs
  keys_are = names_of list ∙ ap (map (λ (pair : Characters × Y). pair.0)) e
    where
      names_of : (list : List X) → map (λ x. (pair_of x).0) list ≡ map (λ (pair : Characters × Y). pair.0) (map pair_of list)
      names_of [] = refl
      names_of (x ∷ list) = ap (λ names. (pair_of x).0 ∷ names) (names_of list)

  pub keys_rise : T (finmap.is_sorted order pairs) → IsStrictlySortedBy order (map (λ x. (pair_of x).0) list)
  keys_rise sorted = subst (IsStrictlySortedBy order) (sym keys_are) (names_rise pairs sorted)

  pub place_is : (name : Characters) → place_among (map (λ x. (pair_of x).0) list) name ≡ place_in pairs name
  place_is name = ap (λ names. place_among names name) keys_are
