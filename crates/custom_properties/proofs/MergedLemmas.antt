-- The merged entries are what is computed.
use Rattle.std.proofs.Common.{◌≡◌, ℕ, zero, suc, ◌+◌, ◌<◌, List, [], ◌∷◌, ◌++◌, length, get_or, drop, map, Bool, true, false, cond, ◌||◌, Option, Some, None, is_some, IsTrue, refl, sym, ap, ap₂, subst, ◌∙◌, append_assoc, arith}
use lib.Dec.{T}
use Rattle.std.specs.List.{list_any}
use Rattle.std.specs.Ordering.{eq_by_cmp}
use Rattle.std.specs.FinMap as finmap
use Rattle.std.proofs.lemmas.List.{length-map, drop_more, get_or-map}
use Rattle.base_model.specs.Text.{Characters}
use Rattle.custom_model.specs.Value.{CustomValue, CustomValues}
use Rattle.custom_model.specs.Cycles.{DeclaredValues}
use Rattle.custom_model.specs.Computed.{computed, resolved}
use Rattle.custom_model.specs.Expand.{Lookup}
use Rattle.custom_model.proofs.CycleLemmas.{same_key}
use Rattle.custom_model.proofs.ComputedLemmas.{computed-undeclared}
use Rattle.custom_model.proofs.ResolvedLemmas.{resolved-get, resolved_only}
use Rattle.custom_properties.specs.Merged.{Pair, lesser, beyond, put, merged, with_values}
use Rattle.custom_properties.specs.Entry.{Entry}
use Rattle.css_tokens.specs.Place.{place_in}
use Rattle.css_tokens.proofs.PlaceLemmas.{order, first_part, second_part, place_stands}
use Rattle.custom_properties.proofs.MergeLemmas.{both, over, sorted-merged, find-merged}
use Rattle.custom_properties.proofs.GraphLemmas.{no_entry, undeclared}
use Rattle.std.specs.FinMap.Entries.{below_all}

pub length-with_values : (es : List Entry) (vs : List (Option CustomValue)) → length es ≡ length vs → length (with_values es vs) ≡ length es
length-with_values [] vs e = refl
length-with_values (x ∷ es) [] e = absurd (omega arith)
length-with_values (x ∷ es) (v ∷ vs) e = ap suc (length-with_values es vs (omega arith))

pub with_values-at : (es : List Entry) (vs : List (Option CustomValue)) (k : ℕ) → k < length es → length es ≡ length vs → get_or (with_values es vs) k no_entry ≡ ((get_or es k no_entry).0, get_or vs k None)
with_values-at [] vs k l e = absurd (omega arith)
with_values-at (x ∷ es) [] k l e = absurd (omega arith)
with_values-at (x ∷ es) (v ∷ vs) zero l e = refl
with_values-at (x ∷ es) (v ∷ vs) (suc k) l e = with_values-at es vs k (omega arith) (omega arith)

-- one declared name more
pub merge_more : (es : List Entry) (vs : List (Option CustomValue)) (place : ℕ) (name : Characters) (v : Option CustomValue) (old first new left after whole : List Pair)
    → place < length es → length es ≡ length vs → name ≡ (get_or es place no_entry).0 → v ≡ get_or vs place None → first ≡ old ++ lesser name left → after ≡ beyond name left → new ≡ first ++ put name v
    → old ++ merged (drop place (with_values es vs)) left ≡ whole → new ++ merged (drop (place + 1) (with_values es vs)) after ≡ whole
merge_more es vs place name v old first new left after whole within long is_name is_value pushed behind added h =
    let ds = with_values es vs in
    let rest = drop (place + 1) ds in
    let lengths = length-with_values es vs long in
    let inside : place < length ds = omega arith in
    let at : get_or ds place no_entry ≡ (name, v) = with_values-at es vs place within long ∙ ap₂ (λ (n : Characters) (x : Option CustomValue). (n, x)) (sym is_name) (sym is_value) in
    ap₂ (λ l k. l ++ merged rest k) (added ∙ ap (λ l. l ++ put name v) pushed) behind
    ∙ (append_assoc (old ++ lesser name left) (put name v) (merged rest (beyond name left))
    ∙ (append_assoc old (lesser name left) (put name v ++ merged rest (beyond name left))
    ∙ (ap (λ (e : Entry). old ++ merged (e ∷ rest) left) (sym at)
    ∙ (ap (λ l. old ++ merged l left) (sym (drop_more ds place no_entry inside)) ∙ h))))

-- the values keep the order of the names
below-with_values : (x : Characters) (es : List Entry) (vs : List (Option CustomValue)) → T (below_all order x es) → T (below_all order x (with_values es vs))
below-with_values x [] vs h = tt
below-with_values x (e ∷ es) [] h = tt
below-with_values x (e ∷ es) (v ∷ vs) h = both _ _ (first_part _ _ h) (below-with_values x es vs (second_part _ _ h))

sorted-with_values : (es : List Entry) (vs : List (Option CustomValue)) → T (finmap.is_sorted order es) → T (finmap.is_sorted order (with_values es vs))
sorted-with_values [] vs h = tt
sorted-with_values (e ∷ es) [] h = tt
sorted-with_values (e ∷ es) (v ∷ vs) h = both _ _ (below-with_values e.0 es vs (first_part _ _ h)) (sorted-with_values es vs (second_part _ _ h))

-- at a declared name is its value
find-with_values : (value : Lookup) (es : List Entry) (q : Characters) → finmap.find order q (with_values es (map value (map (λ e. e.0) es))) ≡ cond (list_any (eq_by_cmp order q) (map (λ e. e.0) es)) (Some (value q)) None
find-with_values value [] q = refl
find-with_values value (e ∷ es) q = by (eq_by_cmp order q e.0) refl (find-with_values value es q)
  where
    by : (b : Bool) → eq_by_cmp order q e.0 ≡ b → finmap.find order q (with_values es (map value (map (λ x. x.0) es))) ≡ cond (list_any (eq_by_cmp order q) (map (λ x. x.0) es)) (Some (value q)) None
        → cond b (Some (value e.0)) (finmap.find order q (with_values es (map value (map (λ x. x.0) es)))) ≡ cond (b || list_any (eq_by_cmp order q) (map (λ x. x.0) es)) (Some (value q)) None
    by true is h = ap (λ n. Some (value n)) (sym (same_key q e.0 is))
    by false is h = h

is_true : (b : Bool) → T b → b ≡ true
is_true true h = refl
is_true false h = absurd h

module _ (declared : DeclaredValues) (inherited : CustomValues) where
  abbrev pub whole_of : List (Option CustomValue) → List Pair
  whole_of values = merged (with_values (finmap.entries declared) values) (finmap.entries inherited)

  pub whole_sorted : (values : List (Option CustomValue)) → T (finmap.is_sorted order (whole_of values))
  whole_sorted values =
      sorted-merged (with_values (finmap.entries declared) values) (finmap.entries inherited) (sorted-with_values (finmap.entries declared) values (finmap.entries_sorted declared)) (finmap.entries_sorted inherited)

  at_name : (q : Characters) (o : Option (Option CustomValue)) → finmap.get declared q ≡ o → over (cond (is_some o) (Some (computed declared inherited q)) None) (finmap.get inherited q) ≡ computed declared inherited q
  at_name q None e = sym (computed-undeclared declared inherited q e)
  at_name q (Some v) e = refl

  -- what is merged is what is computed
  pub whole_resolved : (list : List Pair) → list ≡ whole_of (map (computed declared inherited) (finmap.keys declared)) → finmap.from_sorted list ≡ resolved declared inherited
  whole_resolved list e =
      let value = computed declared inherited in
      let whole = whole_of (map value (finmap.keys declared)) in
      let ds = with_values (finmap.entries declared) (map value (finmap.keys declared)) in
      ap (λ l. finmap.from_sorted l) e
      ∙ resolved_only declared inherited (finmap.from_sorted whole) (λ q.
      finmap.get-from_sorted order whole q (whole_sorted (map value (finmap.keys declared)))
      ∙ (find-merged q ds (finmap.entries inherited) (sorted-with_values (finmap.entries declared) (map value (finmap.keys declared)) (finmap.entries_sorted declared)) (finmap.entries_sorted inherited)
      ∙ (ap₂ over (find-with_values value (finmap.entries declared) q ∙ ap (λ b. cond b (Some (value q)) None) (sym (finmap.contains_key-keys declared q))) (sym (finmap.get-entries inherited q))
      ∙ at_name q (finmap.get declared q) refl)))

  pub list_sorted : (list : List Pair) (values : List (Option CustomValue)) → list ≡ whole_of values → IsTrue (finmap.is_sorted order list)
  list_sorted list values e = is_true _ (subst (λ l. T (finmap.is_sorted order l)) (sym e) (whole_sorted values))

  pub length_of_values : (values : List (Option CustomValue)) → values ≡ map (computed declared inherited) (finmap.keys declared) → length (finmap.entries declared) ≡ length values
  length_of_values values e =
      sym (ap length e ∙ (length-map (finmap.keys declared) (computed declared inherited) ∙ length-map (finmap.entries declared) (λ x. x.0)))

  module _ (values : List (Option CustomValue)) (is : values ≡ map (computed declared inherited) (finmap.keys declared)) where
    -- the value at a place is that of the name there
    value_at : (k : ℕ) → k < length (finmap.entries declared) → get_or values k None ≡ computed declared inherited (get_or (finmap.entries declared) k no_entry).0
    value_at k within =
        let lengths = length-map (finmap.entries declared) (λ x. x.0) in
        ap (λ l. get_or l k None) is
        ∙ (get_or-map (computed declared inherited) (finmap.keys declared) k [] None (omega arith)
        ∙ ap (computed declared inherited) (get_or-map (λ x. x.0) (finmap.entries declared) k no_entry [] within))

    -- where each declared name has what is inherited, that is all
    pub inherited_whole : ((k : ℕ) → k < length (finmap.entries declared) → finmap.get inherited (get_or (finmap.entries declared) k no_entry).0 ≡ get_or values k None) → inherited ≡ resolved declared inherited
    inherited_whole each = resolved_only declared inherited inherited (λ q. by q (place_in (finmap.entries declared) q) refl)
      where
        by : (q : Characters) (o : Option ℕ) → place_in (finmap.entries declared) q ≡ o → finmap.get inherited q ≡ computed declared inherited q
        by q None e = sym (computed-undeclared declared inherited q (undeclared declared q e))
        by q (Some k) e =
            let stands = place_stands (finmap.entries declared) q k no_entry e in
            ap (finmap.get inherited) (sym stands.1) ∙ (each k stands.0 ∙ (value_at k stands.0 ∙ ap (computed declared inherited) stands.1))

    -- and only there
    pub inherited_each : inherited ≡ resolved declared inherited → (k : ℕ) → k < length (finmap.entries declared) → finmap.get inherited (get_or (finmap.entries declared) k no_entry).0 ≡ get_or values k None
    inherited_each e k within =
        let name = (get_or (finmap.entries declared) k no_entry).0 in
        ap (λ m. finmap.get m name) e ∙ (resolved-get declared inherited name ∙ sym (value_at k within))
