-- The order of the layers that names declare.
use Rattle.std.proofs.Common.{◌≡◌, ℕ, zero, suc, ◌+◌, true, List, [], ◌∷◌, ◌++◌, inl, inr, Some, filter, flat_map, length, slice_get, ap, ◌∙◌, arith, append_assoc, length-append}
use Rattle.std.proofs.lemmas.Bool.{false_from_ne_true, cond-true}
use Rattle.layer_model.specs.Name.{LayerName, no_layer, same_name}
use Rattle.layer_model.specs.Order.{is_known, is_directly_in, below, declared, layer_order, place_in, rank_in}
use Rattle.layer_model.proofs.Names.{same_name-refl}
use Rattle.layer_model.proofs.Known.{StandOnce, one_place, rank-at, known-filter, flat-known, place-last}
use Rattle.layer_model.proofs.Declared.{Grown, Grown-declared, holds-declared}
use Rattle.layer_model.proofs.Below.{HasSteps, once-below, known-below, itself-below, below-within, next_of, not_below_next}

-- no layer stands twice in the order
pub once-order : (names : List LayerName) → StandOnce (layer_order names)
unfolding layer_order
once-order names = once-below (length (declared names)) (declared names) (Grown-declared names).once no_layer

-- two places of one name are one
pub one_place-order : (names : List LayerName) (i j : ℕ) (name : LayerName) → slice_get (layer_order names) i ≡ Some name → slice_get (layer_order names) j ≡ Some name → i ≡ j
one_place-order names i j name a b = one_place (layer_order names) (once-order names) i j name a b

-- the rank of the name at a place is the place
pub rank-order : (names : List LayerName) (i : ℕ) (name : LayerName) → slice_get (layer_order names) i ≡ Some name → rank_in (layer_order names) name ≡ i
rank-order names i name h = rank-at (layer_order names) (once-order names) i name h

-- what is in no layer is in the order
pub none-order : (names : List LayerName) → is_known (layer_order names) no_layer ≡ true
unfolding layer_order
none-order names = itself-below (length (declared names)) (declared names) no_layer

steps_of : (all : List LayerName) → Grown all → (outer rest : LayerName) → is_known all (outer ++ rest) ≡ true → HasSteps all outer rest
steps_of all grown outer [] h = tt
steps_of all grown outer (part ∷ rest) h =
    let there = ap (is_known all) (append_assoc outer (part ∷ []) rest) ∙ h in
    (grown.closed outer rest part there, steps_of all grown (outer ++ part ∷ []) rest there)

-- and so is each layer that is declared
pub known-order : (names : List LayerName) (name : LayerName) → is_known (declared names) name ≡ true → is_known (layer_order names) name ≡ true
unfolding layer_order
known-order names name h =
    let grown = Grown-declared names in
    known-below (length (declared names)) (declared names) [] name (steps_of (declared names) grown [] name h) (grown.short name h)

-- and each of the names themselves
pub named-order : (names : List LayerName) (name : LayerName) → is_known names name ≡ true → is_known (layer_order names) name ≡ true
named-order names name h =
    elim (holds-declared names name h) [
      | inl none ↦ ap (is_known (layer_order names)) none ∙ none-order names
      | inr k ↦ known-order names name k
    ]

-- below a name, the name itself is last
pub last-below : (levels : ℕ) (all : List LayerName) (outer : LayerName) → place_in (below levels all outer) outer + 1 ≡ length (below levels all outer)
last-below zero all outer = ap (λ n. n + 1) (cond-true (same_name outer outer) 0 1 (same_name-refl outer))
last-below (suc levels) all outer =
    let inside = filter (is_directly_in outer) all in
    let flat = flat_map (below levels all) inside in
    let new = false_from_ne_true (is_known flat outer) (λ k.
    let of = flat-known (below levels all) inside outer k in
    let next = next_of outer of.by (known-filter (is_directly_in outer) all of.by of.there).1 in
    not_below_next outer of.by next (below-within levels all of.by outer of.known)) in
    let place = place-last flat outer new in
    let long = length-append flat (outer ∷ []) in
    omega arith

-- what is in no layer is last
pub last-order : (names : List LayerName) → place_in (layer_order names) no_layer + 1 ≡ length (layer_order names)
unfolding layer_order
last-order names = last-below (length (declared names)) (declared names) no_layer
