-- Which layers are directly in which.
use Rattle.std.proofs.Common.{◌≡◌, ◌≢◌, ℕ, zero, suc, ◌+◌, ◌-◌, ◌<◌, ◌≤◌, Bool, true, false, cond, get_or, set, List, [], ◌∷◌, ◌++◌, ◌⊎◌, inl, inr, Option, Some, option_map, unwrap_or, flat_map, filter, length, map, take, replicate, slice_get, refl, sym, ap, ◌∙◌, subst, arith, append-nil}
use Rattle.std.specs.List.{position}
use Rattle.std.proofs.lemmas.Bool.{false≢true, false_from_ne_true}
use Rattle.std.proofs.lemmas.Grind.{flat_map-append}
use Rattle.std.proofs.lemmas.List.{take_more, take_all, map-append, map-set, length-map, get_or_past}
use Rattle.std.proofs.lemmas.List.Elements.{filter-append}
use Rattle.std.proofs.Math.ListN.{length-set, length-replicate}
use Rattle.std.proofs.lemmas.Option.{get_or_from_slice_get, slice_get-get_or, slice_get-map, slice_get_within}
use Rattle.layer_model.specs.Name.{LayerName, same_name}
use Rattle.layer_model.specs.Order.{is_known, is_directly_in, place_in, below, with_name, with_names}
use Rattle.layer_model.proofs.Names.{same_last}
use Rattle.layer_model.proofs.Known.{at-place, known-at, one_place, position-known, position-new}
use Rattle.layer_model.proofs.Below.{directly_next, next_of}
use Rattle.layer_model.proofs.Declared.{Grown, holds-outer, with_names-append}
use Rattle.layer_order.specs.Chain.{IsIn}
use Rattle.layer_order.specs.Known.{AreNested, layer_at}
use Rattle.layer_order.specs.Nested.{below_at, inside_at}
use Rattle.layer_order.specs.declared.nesting.Nesting.{Nesting}

-- past the last stands what is in no layer
pub past_last : (layers : List LayerName) → layer_at layers (length layers) ≡ []
past_last layers = get_or_past layers (length layers) [] (omega arith)

-- a layer at a place is known
pub known_here : (layers : List LayerName) (place : ℕ) → place < length layers → is_known layers (layer_at layers place) ≡ true
known_here layers place h = known-at layers place (layer_at layers place) (slice_get-get_or layers place [] h)

-- what a look-up of the outer layer finds
pub found_outer : (layers : List LayerName) → Grown layers → (name outer : LayerName) → is_known layers name ≡ true → IsIn outer name → layer_at layers (unwrap_or (position (same_name outer) layers) (length layers)) ≡ outer
found_outer layers grown name outer there i = by (is_known layers outer) refl
  where
    by : (b : Bool) → is_known layers outer ≡ b → layer_at layers (unwrap_or (position (same_name outer) layers) (length layers)) ≡ outer
    by true e =
        ap (λ r. layer_at layers (unwrap_or r (length layers))) (position-known layers outer e)
        ∙ get_or_from_slice_get layers (place_in layers outer) outer [] (at-place layers outer e)
    by false e =
        ap (λ r. layer_at layers (unwrap_or r (length layers))) (position-new layers outer e)
        ∙ (past_last layers ∙ elim (holds-outer layers grown outer i.part (ap (is_known layers) (sym i.is) ∙ there)) [
          | inl none ↦ sym none
          | inr k ↦ absurd (false≢true (sym e ∙ k))
        ])

pub directly_found : (layers : List LayerName) → Grown layers → (place : ℕ) → place < length layers → (name outer : LayerName) → name ≡ layer_at layers place → IsIn outer name → (found : ℕ) (r : Option ℕ) (n : ℕ) → r ≡ position (same_name outer) layers → n ≡ length layers → found ≡ unwrap_or r n → is_directly_in (layer_at layers found) (layer_at layers place) ≡ true
directly_found layers grown place within name outer e i found r n p l u =
    let f = u ∙ (ap (λ o. unwrap_or o n) p ∙ ap (unwrap_or (position (same_name outer) layers)) l) in
    let there = ap (is_known layers) e ∙ known_here layers place within in
    ap (λ k. is_directly_in (layer_at layers k) (layer_at layers place)) f
    ∙ (ap (λ n. is_directly_in n (layer_at layers place)) (found_outer layers grown name outer there i)
    ∙ (ap (is_directly_in outer) (sym e ∙ i.is) ∙ directly_next outer i.part))

-- no layer is that without a name
pub never_none : (layers : List LayerName) → Grown layers → (place : ℕ) → place < length layers → layer_at layers place ≢ []
never_none layers grown place within e =
    false≢true (sym grown.named ∙ (ap (is_known layers) (sym e) ∙ known_here layers place within))

-- two places of one layer are one
layer_once : (layers : List LayerName) → Grown layers → (i j : ℕ) → i ≤ length layers → j ≤ length layers → layer_at layers i ≡ layer_at layers j → i ≡ j
layer_once layers grown i j a b e =
    elim (before_or_last i a) [
      | inl p ↦ elim (before_or_last j b) [
        | inl q ↦ one_place layers grown.once i j (layer_at layers j) (slice_get-get_or layers i [] p ∙ ap Some e) (slice_get-get_or layers j [] q)
        | inr q ↦ absurd (never_none layers grown i p (e ∙ (ap (layer_at layers) q ∙ past_last layers)))
      ]
      | inr p ↦ elim (before_or_last j b) [
        | inl q ↦ absurd (never_none layers grown j q (sym e ∙ (ap (layer_at layers) p ∙ past_last layers)))
        | inr q ↦ p ∙ sym q
      ]
    ]
  where
    before_or_last : (n : ℕ) → n ≤ length layers → (n < length layers) ⊎ (n ≡ length layers)
    before_or_last n h = grind arith

-- a layer is directly in one alone
not_in_others : (layers : List LayerName) → Grown layers → (i j : ℕ) → i ≤ length layers → j ≤ length layers → (name : LayerName) → is_directly_in (layer_at layers i) name ≡ true → j ≢ i → is_directly_in (layer_at layers j) name ≡ false
not_in_others layers grown i j a b name directly other =
    false_from_ne_true (is_directly_in (layer_at layers j) name) (λ h.
    let x = next_of (layer_at layers i) name directly in
    let y = next_of (layer_at layers j) name h in
    other (layer_once layers grown j i b a (same_last (layer_at layers j) (layer_at layers i) y.part x.part (sym y.is ∙ x.is)).0))

-- the lists once the layer of place n is in that of place k

set_cases : {X : Type 0} (xs : List X) (k j : ℕ) (x y : X) → slice_get (set xs k x) j ≡ Some y → ((j ≡ k) × (y ≡ x)) ⊎ ((j ≢ k) × (slice_get xs j ≡ Some y))
set_cases [] k j x y h = absurd (cc)
set_cases (z ∷ xs) zero zero x y h = inl (refl, cc)
set_cases (z ∷ xs) zero (suc j) x y h = inr (λ e. omega arith, h)
set_cases (z ∷ xs) (suc k) zero x y h = inr (λ e. omega arith, h)
set_cases (z ∷ xs) (suc k) (suc j) x y h =
    elim (set_cases xs k j x y h) [
      | inl p ↦ inl (ap suc p.0, p.1)
      | inr q ↦ inr (λ e. q.0 (omega arith), q.1)
    ]

within_length : {X : Type 0} (xs : List X) (i : ℕ) (x : X) → slice_get xs i ≡ Some x → i < length xs
within_length xs i x h = slice_get_within xs i x h

push_cases : (xs : List ℕ) (i n p : ℕ) → slice_get (xs ++ n ∷ []) i ≡ Some p → (p ≡ n) ⊎ (slice_get xs i ≡ Some p)
push_cases [] zero n p h = inl cc
push_cases [] (suc i) n p h = absurd (cc)
push_cases (x ∷ xs) zero n p h = inr h
push_cases (x ∷ xs) (suc i) n p h = push_cases xs i n p h

one_filtered : (layers : List LayerName) (test : LayerName → Bool) (n : ℕ) → n < length layers → (b : Bool) → test (layer_at layers n) ≡ b → filter test (take (n + 1) layers) ≡ filter test (take n layers) ++ cond b (layer_at layers n ∷ []) []
one_filtered layers test n within b e =
    ap (filter test) (take_more layers n [] within)
    ∙ (filter-append test (take n layers) (layer_at layers n ∷ []) ∙ ap (λ t. filter test (take n layers) ++ cond t (layer_at layers n ∷ []) []) e)

pub nested_more : (layers : List LayerName) → Grown layers → (n : ℕ) (inner : List (List ℕ)) → AreNested layers n inner → n < length layers → (k : ℕ) → k ≤ length layers → is_directly_in (layer_at layers k) (layer_at layers n) ≡ true → (list : List ℕ) → slice_get inner k ≡ Some list → AreNested layers (n + 1) (set inner k (list ++ n ∷ []))
nested_more layers grown n inner nested within k few directly list at = record {
  lists = length-set inner k (list ++ n ∷ []) ∙ nested.lists;
  each = λ j new h. elim (set_cases inner k j (list ++ n ∷ []) new h) [
    | inl p ↦
        ap (map (layer_at layers)) p.1
        ∙ (map-append (layer_at layers) list (n ∷ [])
        ∙ (ap (λ ls. ls ++ layer_at layers n ∷ []) (nested.each k list at)
        ∙ (sym (one_filtered layers (is_directly_in (layer_at layers k)) n within true directly)
        ∙ ap (λ i. filter (is_directly_in (layer_at layers i)) (take (n + 1) layers)) (sym p.0))))
    | inr q ↦
        let there = within_length inner j new q.1 in
        let other = not_in_others layers grown k j few (omega (arith, nested.lists)) (layer_at layers n) directly q.0 in
        nested.each j new q.1
        ∙ (sym (append-nil (filter (is_directly_in (layer_at layers j)) (take n layers))) ∙ sym (one_filtered layers (is_directly_in (layer_at layers j)) n within false other))
  ];
  within = λ j i p new h g. elim (set_cases inner k j (list ++ n ∷ []) new h) as (λ _. p < length layers) [
    | inl e ↦ elim (push_cases list i n p (ap (λ ls. slice_get ls i) (sym e.1) ∙ g)) as (λ _. p < length layers) [
      | inl last ↦ omega arith
      | inr old ↦ nested.within k i p list at old
    ]
    | inr q ↦ nested.within j i p new q.1 g
  ];
}

-- no lists yet
pub nested_none : (layers : List LayerName) (inner : List (List ℕ)) → inner ≡ replicate (length layers + 1) [] → AreNested layers 0 inner
nested_none layers inner e = record {
  lists = ap (length {A = List ℕ}) e ∙ length-replicate (length layers + 1) [];
  each = λ place list h. ap (map (layer_at layers)) (empty (length layers + 1) place list (ap (λ ls. slice_get ls place) (sym e) ∙ h));
  within = λ place i p list h g. absurd (nothing i p (ap (λ ls. slice_get ls i) (sym (empty (length layers + 1) place list (ap (λ ls. slice_get ls place) (sym e) ∙ h))) ∙ g));
}
  where
    nothing : (i p : ℕ) → slice_get [] i ≡ Some p → ⊥
    nothing i p h = cc

    empty : (n place : ℕ) (list : List ℕ) → slice_get (replicate n []) place ≡ Some list → list ≡ []
    empty zero place list h = absurd (cc)
    empty (suc n) zero list h = cc
    empty (suc n) (suc place) list h = empty n place list h

-- the layers that are directly in one, and the rest of it, lowest first

pub added_itself : (n : Nesting) (levels place : ℕ) (kept : LayerName) (old mid new : List LayerName) → mid ≡ with_names old (inside_at n levels place) → kept ≡ layer_at n.layers.keys place → new ≡ with_name mid kept → new ≡ with_names old (below_at n levels place)
added_itself n levels place kept old mid new m k e =
    let name = layer_at n.layers.keys place in
    e ∙ (ap (with_name mid) k ∙ (ap (λ ns. with_name ns name) m
    ∙ (sym (with_names-append old (inside_at n levels place) (name ∷ [])) ∙ ap (with_names old) (whole levels))))
  where
    whole : (l : ℕ) → inside_at n l place ++ layer_at n.layers.keys place ∷ [] ≡ below_at n l place
    whole zero = refl
    whole (suc l) = refl

pub none_inside : (n : Nesting) (levels place : ℕ) (old : List LayerName) → levels ≡ 0 → old ≡ with_names old (inside_at n levels place)
none_inside n levels place old z = ap (λ l. with_names old (inside_at n l place)) (sym z)

pub all_inside : (n : Nesting) (levels place : ℕ) (old new : List LayerName) → levels ≢ 0 → new ≡ with_names old (flat_map (below (levels - 1) n.layers.keys) (filter (is_directly_in (layer_at n.layers.keys place)) n.layers.keys)) → new ≡ with_names old (inside_at n levels place)
all_inside n levels place old new some e =
    let one_more : suc (levels - 1) ≡ levels = omega arith in
    e ∙ ap (λ l. with_names old (inside_at n l place)) one_more

pub added_next : (all : List LayerName) (levels : ℕ) (list : List ℕ) (i p : ℕ) (old mid new : List LayerName) → i < length list → p ≡ get_or list i 0 → mid ≡ with_names old (flat_map (below levels all) (map (layer_at all) (take i list))) → new ≡ with_names mid (below levels all (layer_at all p)) → new ≡ with_names old (flat_map (below levels all) (map (layer_at all) (take (i + 1) list)))
added_next all levels list i p old mid new within is m n =
    let f = below levels all in
    let before = map (layer_at all) (take i list) in
    let taken = ap (map (layer_at all)) (take_more list i 0 within ∙ ap (λ x. take i list ++ x ∷ []) (sym is)) ∙ map-append (layer_at all) (take i list) (p ∷ []) in
    let flat = ap (flat_map f) taken ∙ (flat_map-append f before (layer_at all p ∷ []) ∙ ap (λ ns. flat_map f before ++ ns) (append-nil (f (layer_at all p)))) in
    n ∙ (ap (λ ns. with_names ns (f (layer_at all p))) m ∙ (sym (with_names-append old (flat_map f before) (f (layer_at all p))) ∙ ap (with_names old) (sym flat)))

-- a list that was read
pub list_at : {V : Type 0} (items : V → List ℕ) (inner : List V) (place : ℕ) (v : V) (list : List ℕ) → place < length inner → v ≡ get_or inner place v → list ≡ items v → slice_get (map items inner) place ≡ Some list
list_at items inner place v list within is l =
    slice_get-map items inner place ∙ (ap (option_map items) (slice_get-get_or inner place v within) ∙ ap (λ ls. Some ls) (ap items (sym is) ∙ sym l))

-- there are enough of them
pub has_list : {V : Type 0} (layers : List LayerName) (count : ℕ) (items : V → List ℕ) (inner : List V) (place : ℕ) → AreNested layers count (map items inner) → place ≤ length layers → place < length inner
has_list layers count items inner place nested few = omega (arith, length-map inner items, nested.lists)

-- all of a list was walked
pub added_all : (all : List LayerName) (levels place : ℕ) (inner : List (List ℕ)) (list : List ℕ) (i : ℕ) (old new : List LayerName) → AreNested all (length all) inner → slice_get inner place ≡ Some list → length list ≤ i → new ≡ with_names old (flat_map (below levels all) (map (layer_at all) (take i list))) → new ≡ with_names old (flat_map (below levels all) (filter (is_directly_in (layer_at all place)) all))
added_all all levels place inner list i old new nested at over n =
    let whole = ap (map (layer_at all)) (take_all i list over) ∙ (nested.each place list at ∙ ap (filter (is_directly_in (layer_at all place))) (take_all (length all) all (omega arith))) in
    n ∙ ap (λ ns. with_names old (flat_map (below levels all) ns)) whole

-- a layer is put into the list of the one that it is directly in
pub nested_push : {V : Type 0} (layers : List LayerName) → Grown layers → (n : ℕ) (items : V → List ℕ) (inner : List V) → AreNested layers n (map items inner) → n < length layers → (k : ℕ) → k ≤ length layers → is_directly_in (layer_at layers k) (layer_at layers n) ≡ true → (v w : V) → v ≡ get_or inner k v → items w ≡ items v ++ n ∷ [] → AreNested layers (n + 1) (map items (set inner k w))
nested_push layers grown n items inner nested within k few directly v w is more =
    let at = list_at items inner k v (items v) (has_list layers n items inner k nested few) is refl in
    let same = map-set items inner k w ∙ ap (set (map items inner) k) more in
    subst (AreNested layers (n + 1)) (sym same) (nested_more layers grown n (map items inner) nested within k few directly (items v) at)
