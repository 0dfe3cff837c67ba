-- Declarations in the order of their names: run by run.
use Rattle.std.proofs.Common.{◌≡◌, Bool, true, false, not, List, [], ◌∷◌, ◌++◌, filter, map, take, slice_get, Option, Some, refl, sym, ap, ◌∙◌}
use Rattle.std.specs.Cmp.{IsTotalOrder}
use Rattle.std.specs.Cmp.Lexicographic.{slice_cmp, nat_list_cmp_total, options_total}
use Rattle.std.specs.declared.cmp.Ordering.{Ordering}
use Rattle.std.specs.declared.cmp.Ordering.TheVariants.{Less, Equal, Greater}
use Rattle.std.specs.List.{list_all}
use Rattle.std.specs.Option.{option_cmp}
use Rattle.std.specs.Ordering.{nat_cmp, is_lt, is_le, is_eq}
use Rattle.std.proofs.lemmas.Cmp.{tied_itself, alike_right}
use Rattle.std.proofs.lemmas.Option.{none-some, same_Some}
use Rattle.std.proofs.lemmas.Bool.{true≢false, and_parts}
use Rattle.std.proofs.lemmas.List.Folds.{list_all-append}
use Rattle.base_model.specs.Text.{Characters}
use Rattle.sheet_model.specs.Declared.{Target, longhand, custom, is_custom}
use Rattle.cascade_model.specs.Key.{Matched}
use Rattle.cascade_model.specs.Winner.{declares_custom}
use Rattle.cascade_model.specs.Custom.{custom_name}
use Rattle.cascade_model.proofs.WinnerLemmas.{all_through}
use Rattle.cascade_core.specs.Names.{name_of, compare_names, have_same_name, begins_apart, NamesRise}
use Rattle.cascade_core.proofs.SortedLemmas.{none_left}
use Rattle.cascade_core.proofs.DeclaredLemmas.{is_custom-ties}
use Rattle.base_model.proofs.Orderings.{is_equal, is_less}

abbrev pub names_cmp : Option Characters → Option Characters → Ordering
names_cmp = option_cmp (slice_cmp nat_cmp)

pub names_cmp-total : IsTotalOrder names_cmp
names_cmp-total = options_total nat_list_cmp_total

-- a declaration is of a name exactly where its own ties with it
by_target : (name : Characters) (t : Target) → is_custom name t ≡ is_eq (names_cmp (Some name) (custom_name t))
by_target name (longhand property) = refl
by_target name (custom other) = is_custom-ties name other

pub declares-names : (name : Characters) (d : Matched) → declares_custom name d ≡ is_eq (names_cmp (Some name) (name_of d))
declares-names name d = by_target name d.target

module _ {X : Type 0} where
  -- where all pass, all are left
  all_left : (p : X → Bool) (xs : List X) → list_all p xs ≡ true → filter p xs ≡ xs
  all_left p [] all = refl
  all_left p (x ∷ xs) all =
      let parts = and_parts (p x) (list_all p xs) all in
      rw (parts.0, all_left p xs parts.1)

  pub first_all : (p : X → Bool) (xs ys : List X) → list_all p (xs ++ ys) ≡ true → (list_all p xs ≡ true) × (list_all p ys ≡ true)
  first_all p xs ys all =
      and_parts (list_all p xs) (list_all p ys) (rw (list_all-append p xs ys) at all)

less_than : (x y z : Option Characters) → is_lt (names_cmp x y) ≡ true → is_le (names_cmp y z) ≡ true → is_lt (names_cmp x z) ≡ true
less_than x y z less le = by_order (names_cmp y z) refl le
  where
    by_order : (o : Ordering) → names_cmp y z ≡ o → is_le o ≡ true → is_lt (names_cmp x z) ≡ true
    by_order Less is h = ap is_lt (names_cmp-total.trans x y z (is_less _ less) is)
    by_order Equal is h = ap is_lt (sym (alike_right names_cmp-total y z x is)) ∙ less
    by_order Greater is h = absurd (true≢false (sym h))

-- a name that is below those of all of some declarations
abbrev pub is_below : List Matched → Option Characters → Bool
is_below ds name = list_all (λ d. is_lt (names_cmp name (name_of d))) ds

-- declarations each of which is so
abbrev pub are_below : List Matched → List Matched → Bool
are_below ds done = list_all (λ d. is_below ds (name_of d)) done

module _ (first : Option Characters) where
  abbrev is_same : Matched → Bool
  is_same d = is_eq (names_cmp first (name_of d))

  -- what follows a run is above it
  above_head : (d : Matched) (ds : List Matched) → is_lt (names_cmp first (name_of d)) ≡ true → list_all (λ e. is_le (compare_names d e)) ds ≡ true → is_below ds first ≡ true
  above_head d ds less rise =
      all_through (λ e. is_le (compare_names d e)) (λ e. is_lt (names_cmp first (name_of e))) (λ e le. less_than first (name_of d) (name_of e) less le) ds rise

  -- all of a run are of its name
  pub run_left : (name : Characters) (run : List Matched) → first ≡ Some name → list_all is_same run ≡ true → filter (declares_custom name) run ≡ run
  run_left name run named same =
      all_left (declares_custom name) run (all_through is_same (declares_custom name) (λ d tied. rw (declares-names name d, ← named) tied) run same)

  -- and of no other
  pub run_dropped : (q : Characters) (run : List Matched) → is_eq (names_cmp (Some q) first) ≡ false → list_all is_same run ≡ true → filter (declares_custom q) run ≡ []
  run_dropped q run other same =
      none_left (declares_custom q) run (all_through is_same (λ d. not (declares_custom q d)) fails run same)
    where
      fails : (d : Matched) → is_same d ≡ true → not (declares_custom q d) ≡ true
      fails d tied = rw (declares-names q d, ← alike_right names_cmp-total first (name_of d) (Some q) (is_equal _ tied), other)

-- those of lower names are not of it
pub lower_dropped : (name : Characters) (first : Matched) (rest done : List Matched) → name_of first ≡ Some name → are_below (first ∷ rest) done ≡ true → filter (declares_custom name) done ≡ []
lower_dropped name first rest done named below =
    none_left (declares_custom name) done (all_through (λ d. is_below (first ∷ rest) (name_of d)) (λ d. not (declares_custom name d)) fails done below)
  where
    fails : (d : Matched) → is_below (first ∷ rest) (name_of d) ≡ true → not (declares_custom name d) ≡ true
    fails d lower =
        let less = (and_parts (is_lt (names_cmp (name_of d) (name_of first))) (is_below rest (name_of d)) lower).0 in
        rw (declares-names name d, ← named, names_cmp-total.antisymm (name_of first) (name_of d), is_less _ less)

pub rise_behind : (run behind : List Matched) → NamesRise (run ++ behind) → NamesRise behind
rise_behind [] behind rise = rise
rise_behind (d ∷ ds) behind rise = rise_behind ds behind rise.1

pub head_above : (first : Matched) (more behind : List Matched) → NamesRise (first ∷ more ++ behind) → begins_apart first behind ≡ true → is_below behind (name_of first) ≡ true
head_above first more [] rise apart = refl
head_above first more (d ∷ ds) rise apart =
    let is_from : Matched → Bool = λ e. is_le (compare_names first e) in
    let from : list_all is_from (d ∷ ds) ≡ true = (first_all is_from more (d ∷ ds) rise.0).1 in
    let less = strictly (compare_names first d) (and_parts (is_from d) (list_all is_from ds) from).0 apart in
    rw (less, above_head (name_of first) d ds less (rise_behind more (d ∷ ds) rise.1).0)
  where
    strictly : (o : Ordering) → is_le o ≡ true → not (is_eq o) ≡ true → is_lt o ≡ true
    strictly Less le apart = refl
    strictly Equal le apart = absurd (true≢false (sym apart))
    strictly Greater le apart = le

itself : (d : Matched) → have_same_name d d ≡ true
itself d = ap is_eq (tied_itself names_cmp-total (name_of d))

-- a list begins with a declaration of the name of its first
pub first_of_run : {X : Type 0} (seen : X → Matched) (first : X) (list : List X) → Some first ≡ slice_get list 0 → list_all (have_same_name (seen first)) (map seen (take 1 list)) ≡ true
first_of_run seen first [] is = absurd (none-some first (sym is))
first_of_run seen first (x ∷ []) is = rw (← same_Some first x is, itself (seen first))
first_of_run seen first (x ∷ y ∷ xs) is = rw (← same_Some first x is, itself (seen first))
