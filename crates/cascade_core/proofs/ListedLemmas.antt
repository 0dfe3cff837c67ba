-- What is declared of custom properties, listed run by run.
use Rattle.std.proofs.Common.{◌≡◌, ℕ, ◌+◌, ◌≤◌, length, take, drop, map, Bool, true, false, List, [], ◌∷◌, ◌++◌, filter, Option, Some, None, option_map, option_to_list, refl, ⊎_elim}
use Rattle.std.specs.Cmp.Lexicographic.{nat_list_cmp_total}
use Rattle.std.specs.FinMap as finmap
use Rattle.std.specs.FinMap.Entries.{below_all, find-append}
use Rattle.std.specs.List.{list_all}
use Rattle.std.specs.Ordering.{is_lt, is_eq}
use Rattle.std.proofs.lemmas.Bool.{and_parts, cases_Bool}
use Rattle.std.proofs.lemmas.List.{append-nil, take-append-drop, drop-drop, map-append}
use Rattle.std.proofs.lemmas.List.Elements.{filter-append}
use Rattle.std.proofs.lemmas.List.Folds.{list_all-append}
use Rattle.std.proofs.Math.Seq.{take-add}
use Rattle.base_model.specs.Text.{Characters}
use Rattle.custom_model.specs.Value.{CustomValue}
use Rattle.css_tokens.proofs.PlaceLemmas.{order}
use Rattle.cascade_model.specs.Key.{Matched}
use Rattle.cascade_model.specs.Winner.{declares_custom}
use Rattle.cascade_model.proofs.WinnerLemmas.{all_through}
use Rattle.cascade_core.specs.Names.{name_of, have_same_name, begins_apart, NamesRise, declared_along, named_entry, run_entry, is_run, declared_of}
use Rattle.cascade_core.proofs.DeclaredLemmas.{ties, ties-same}
use Rattle.cascade_core.proofs.NameLemmas.{names_cmp, is_below, are_below, first_all, names_cmp-total, run_left, run_dropped, lower_dropped, rise_behind, head_above}
use Rattle.base_model.proofs.Orderings.{is_equal}

abbrev pub Entry : Type 0
Entry = Characters × Option CustomValue

abbrev found : Characters → List Entry → Option (Option CustomValue)
found q entries = finmap.find order q entries

abbrev rises : List Entry → Bool
rises = finmap.is_sorted order

-- the entries of those that are done, before the rest
pub record AreListed (done rest : List Matched) (entries : List Entry) : Type 0 where
  pub sorted : rises entries ≡ true
  pub below : list_all (λ e. is_below rest (Some e.0)) entries ≡ true
  pub each : (name : Characters) → found name entries ≡ declared_of done name
  pub apart : are_below rest done ≡ true
  pub rise : NamesRise rest

below_push : (x : Characters) (entries : List Entry) (entry : Entry) → below_all order x entries ≡ true → is_lt (order x entry.0) ≡ true → below_all order x (entries ++ entry ∷ []) ≡ true
below_push x [] entry below less = rw less
below_push x (e ∷ es) entry below less =
    let parts = and_parts (is_lt (order x e.0)) (below_all order x es) below in
    rw (parts.0, below_push x es entry parts.1 less)

-- an entry behind those of lower names
sorted_push : (entries : List Entry) (entry : Entry) → rises entries ≡ true → list_all (λ e. is_lt (order e.0 entry.0)) entries ≡ true → rises (entries ++ entry ∷ []) ≡ true
sorted_push [] entry sorted lower = refl
sorted_push (e ∷ es) entry sorted lower =
    let parts = and_parts (below_all order e.0 es) (rises es) sorted in
    let lowers = and_parts (is_lt (order e.0 entry.0)) (list_all (λ f. is_lt (order f.0 entry.0)) es) lower in
    rw (below_push e.0 es entry parts.0 lowers.0, sorted_push es entry parts.1 lowers.1)

-- a name that is below a list is below its end
below_end : (ds es : List Matched) (name : Option Characters) → is_below (ds ++ es) name ≡ true → is_below es name ≡ true
below_end ds es name h = (first_all (λ d. is_lt (names_cmp name (name_of d))) ds es h).1

-- and so is one that ties with it
below_tied : (ds : List Matched) (a b : Option Characters) → is_eq (names_cmp a b) ≡ true → is_below ds a ≡ true → is_below ds b ≡ true
below_tied ds a b same h =
    let Below : Option Characters → Matched → Bool = λ n d. is_lt (names_cmp n (name_of d)) in
    all_through (Below a) (Below b) (λ d less. rw (names_cmp-total.congr a b (name_of d) (is_equal _ same)) at less) ds h

-- the entries, and one of a run that declares something
abbrev pub with_run : List Entry → List Matched → List Entry
with_run entries run = entries ++ option_to_list (run_entry run)

module _ (done more behind : List Matched) (first : Matched) (entries : List Entry) (listed : AreListed done ((first ∷ more) ++ behind) entries) (is : is_run (first ∷ more) behind ≡ true) where
  abbrev run : List Matched
  run = first ∷ more

  abbrev name : Option Characters
  name = name_of first

  -- whether a name is below those behind the run
  abbrev is_lower : Option Characters → Bool
  is_lower n = is_below behind n

  same : list_all (have_same_name first) run ≡ true
  same = (and_parts (list_all (have_same_name first) run) (begins_apart first behind) is).0

  above : is_lower name ≡ true
  above =
      head_above first more behind listed.rise (and_parts (list_all (have_same_name first) run) (begins_apart first behind) is).1

  below_first : (n : Option Characters) → is_below (run ++ behind) n ≡ true → is_lt (names_cmp n name) ≡ true
  below_first n h = (and_parts (is_lt (names_cmp n name)) (is_below (more ++ behind) n) h).0

  apart_next : are_below behind (done ++ run) ≡ true
  apart_next =
      let lower : Matched → Bool = λ d. is_lower (name_of d) in
      let others = all_through (λ d. is_below (run ++ behind) (name_of d)) lower (λ d. below_end run behind (name_of d)) done listed.apart in
      let these = all_through (have_same_name first) lower (λ d tied. below_tied behind name (name_of d) tied above) run same in
      rw (list_all-append lower done run, others, these)

  below_next : list_all (λ e. is_lower (Some e.0)) entries ≡ true
  below_next =
      all_through (λ e. is_below (run ++ behind) (Some e.0)) (λ e. is_lower (Some e.0)) (λ e. below_end run behind (Some e.0)) entries listed.below

  -- what was declared of the names stays, and what the run declares is added
  of_other : (q : Characters) → is_eq (names_cmp (Some q) name) ≡ false → found q entries ≡ declared_of (done ++ run) q
  of_other q other =
      rw (filter-append (declares_custom q) done run, run_dropped name q run other same, append-nil) (listed.each q)

  abbrev Declared : List Entry → Type 0
  Declared new = (q : Characters) → found q new ≡ declared_of (done ++ run) q

  listed_next : (new : List Entry) → rises new ≡ true → list_all (λ e. is_lower (Some e.0)) new ≡ true → Declared new → AreListed (done ++ run) behind new
  listed_next new sorted below each = record {
    sorted = sorted;
    below = below;
    each = each;
    apart = apart_next;
    rise = rise_behind run behind listed.rise;
  }

  -- where no entry is added
  stays : Declared entries → AreListed (done ++ run) behind (entries ++ [])
  stays each = rw append-nil (listed_next entries listed.sorted below_next each)

  module _ (n : Characters) (named : name ≡ Some n) where
    undeclared : filter (declares_custom n) done ≡ []
    undeclared = lower_dropped n first (more ++ behind) done named listed.apart

    not_found : found n entries ≡ None
    not_found = rw undeclared at (listed.each n)

    of_run : declared_of (done ++ run) n ≡ declared_along run
    of_run = rw (filter-append (declares_custom n) done run, undeclared, run_left name n run named same)

    by_tie : (q : Characters) → is_eq (order q n) ≡ false → found q entries ≡ declared_of (done ++ run) q
    by_tie q other = of_other q (rw named other)

    by_value : (v : Option (Option CustomValue)) → declared_along run ≡ v → AreListed (done ++ run) behind (entries ++ option_to_list (option_map (λ declared. (n, declared)) v))
    by_value None is =
        stays (λ q. ⊎_elim (λ (tied : ties q n ≡ true). rw (ties-same q n tied, not_found, of_run, is)) (by_tie q) (cases_Bool (ties q n)))
    by_value (Some x) is =
        let new : List Entry = entries ++ (n, x) ∷ [] in
        let lower = all_through (λ (e : Entry). is_below (run ++ behind) (Some e.0)) (λ (e : Entry). is_lt (order e.0 n)) (λ e h. rw named at (below_first (Some e.0) h)) entries listed.below in
        let last : is_lower (Some n) ≡ true = rw named at above in
        let below : list_all (λ e. is_lower (Some e.0)) new ≡ true = rw (list_all-append, below_next, last) in
        listed_next new (sorted_push entries (n, x) listed.sorted lower) below (λ q.
        rw (find-append order nat_list_cmp_total entries n x q not_found)
        (⊎_elim
        (λ (tied : ties q n ≡ true). rw (tied, ties-same q n tied, of_run, is))
        (λ (other : ties q n ≡ false). rw other (by_tie q other))
        (cases_Bool (ties q n))))

  by_named : (o : Option Characters) → name ≡ o → AreListed (done ++ run) behind (entries ++ option_to_list (named_entry o run))
  by_named None nameless = stays (λ q. of_other q (rw nameless))
  by_named (Some n) named = by_value n named (declared_along run) refl

  next_run : AreListed (done ++ run) behind (with_run entries run)
  next_run = by_named name refl

-- the same of any run
run_listed : (done run behind : List Matched) (entries : List Entry) → is_run run behind ≡ true → AreListed done (run ++ behind) entries → AreListed (done ++ run) behind (with_run entries run)
run_listed done [] behind entries is listed = simp append-nil listed
run_listed done (first ∷ more) behind entries is listed = next_run done more behind first entries listed is

-- the entries of the first so many of a list of the code
abbrev pub ListedTo : {X : Type 0} → (X → Matched) → List X → ℕ → List Entry → Type 0
ListedTo seen list n entries = (n ≤ length list) × AreListed (map seen (take n list)) (map seen (drop n list)) entries

-- and of a run more
module _ {X : Type 0} (seen : X → Matched) (list : List X) (start k : ℕ) (within : start + k ≤ length list) where
  abbrev ahead : List Matched
  ahead = map seen (take k (drop start list))

  abbrev beyond : List Matched
  beyond = map seen (drop k (drop start list))

  split : map seen (drop start list) ≡ ahead ++ beyond
  split = rw (← map-append seen (take k (drop start list)) (drop k (drop start list)), take-append-drop)

  pub next_listed : (entries : List Entry) → is_run ahead beyond ≡ true → ListedTo seen list start entries → ListedTo seen list (start + k) (with_run entries ahead)
  next_listed entries is listed =
      let next = run_listed (map seen (take start list)) ahead beyond entries is (rw split at listed.1) in
      (within, rw (take-add, map-append, ← drop-drop k start list) next)
