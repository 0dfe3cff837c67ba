-- The order of the layers of one origin.
use Rattle.std.proofs.Common.{◌≡◌, ℕ, ◌+◌, ◌-◌, ◌<◌, ◌≤◌, ◌^◌, nat_le, Bool, true, false, not, ◌&&◌, cond, List, [], ◌∷◌, get_or, Some, None, drop, length, refl, sym, ap, ◌∙◌, arith}
use Rattle.std.proofs.Math.Bool.{not-not}
use Rattle.std.specs.List.{AllByRecursion, IsDistinct, position}
use Rattle.std.proofs.lemmas.Bool.{or_from}
use Rattle.std.proofs.lemmas.List.{drop_all, drop_more}
use Rattle.layer_model.specs.Name.{LayerName, no_layer, same_name}
use Rattle.layer_model.specs.Order.{is_known, with_names, below, declared, layer_order, place_in, rank_in}
use Rattle.layer_model.specs.Swapped.{rise_from, swapped_in}
use Rattle.layer_model.proofs.Known.{StandOnce, position-place, with_names-once}
use Rattle.layer_model.proofs.Orders.{once-order, last-order}
use Rattle.layer_model.proofs.Rising.{swapped_rising}
use Rattle.layer_order.specs.Known.{IsOrder}

-- a name that is found is as high as its place
pub rank_found : (names : List LayerName) (name : LayerName) (place : ℕ) → Some place ≡ position (same_name name) names → place ≡ rank_in names name
unfolding rank_in
rank_found names name place e = by (is_known names name) (e ∙ position-place names name)
  where
    by : (b : Bool) → Some place ≡ cond b (Some (place_in names name)) None → place ≡ cond b (place_in names name) (place_in names no_layer)
    by true h = cc
    by false h = absurd (cc)

-- any other is as high as what is in no layer
pub rank_absent : (names : List LayerName) (name : LayerName) → IsOrder names → None ≡ position (same_name name) names → length names - 1 ≡ rank_in names name
unfolding rank_in
rank_absent names name order e = by (is_known names name) (e ∙ position-place names name)
  where
    by : (b : Bool) → None ≡ cond b (Some (place_in names name)) None → length names - 1 ≡ cond b (place_in names name) (place_in names no_layer)
    by true h = absurd (cc)
    by false h = omega (arith, order.last)

-- the layers that are added lowest first are the order
pub in_order : (names layers order : List LayerName) → layers ≡ declared names → order ≡ with_names [] (below (length layers) layers no_layer) → order ≡ layer_order names
unfolding layer_order
in_order names layers order e o =
    o ∙ (ap (λ ls. with_names [] (below (length ls) ls no_layer)) e
    ∙ with_names-once [] (below (length (declared names)) (declared names) no_layer) (once-order names))

pub IsOrder-order : (names order : List LayerName) (count : ℕ) → order ≡ layer_order names → count ≡ length order → count < 2 ^ 32 → IsOrder order
IsOrder-order names order count e n few = record {
  last = ap (λ ns. place_in ns no_layer + 1) e ∙ (last-order names ∙ ap (length {A = LayerName}) (sym e));
  few = omega arith;
}

-- Whether the places that are found along one order rise in another one.

none_known : (name : LayerName) (names : List LayerName) → AllByRecursion (λ other. same_name name other ≡ false) names → is_known names name ≡ false
none_known name [] h = refl
none_known name (other ∷ names) h = or_from (same_name name other) (is_known names name) h.0 (none_known name names h.1)

-- a set has each name once
once_from : (names : List LayerName) → IsDistinct same_name names → StandOnce names
unfolding IsDistinct
once_from [] d = tt
once_from (name ∷ names) d = (none_known name names d.0, once_from names d.1)

-- a name that is found no lower than the last one
pub rise_found : (order names : List LayerName) (name : LayerName) (least place : ℕ) → Some place ≡ position (same_name name) order → least ≤ place → rise_from least order (name ∷ names) ≡ rise_from (place + 1) order names
rise_found order names name least place e up = by (is_known order name) (e ∙ position-place order name)
  where
    by : (b : Bool) → Some place ≡ cond b (Some (place_in order name)) None → cond b (nat_le least (place_in order name) && rise_from (place_in order name + 1) order names) (rise_from least order names) ≡ rise_from (place + 1) order names
    by true h =
        let is : place ≡ place_in order name = cc in
        let above : nat_le least (place_in order name) ≡ true = grind (arith, up, is) in
        ap (λ b. b && rise_from (place_in order name + 1) order names) above ∙ ap (λ p. rise_from (p + 1) order names) (sym is)
    by false h = absurd (cc)

-- one that is found lower
pub fall_found : (order names : List LayerName) (name : LayerName) (least place : ℕ) → Some place ≡ position (same_name name) order → place < least → rise_from least order (name ∷ names) ≡ false
fall_found order names name least place e down = by (is_known order name) (e ∙ position-place order name)
  where
    by : (b : Bool) → Some place ≡ cond b (Some (place_in order name)) None → cond b (nat_le least (place_in order name) && rise_from (place_in order name + 1) order names) (rise_from least order names) ≡ false
    by true h =
        let is : place ≡ place_in order name = cc in
        let below : nat_le least (place_in order name) ≡ false = grind (arith, down, is) in
        ap (λ b. b && rise_from (place_in order name + 1) order names) below
    by false h = absurd (cc)

-- and one that is not found
pub rise_missed : (order names : List LayerName) (name : LayerName) (least : ℕ) → None ≡ position (same_name name) order → rise_from least order (name ∷ names) ≡ rise_from least order names
rise_missed order names name least e = by (is_known order name) (e ∙ position-place order name)
  where
    by : (b : Bool) → None ≡ cond b (Some (place_in order name)) None → cond b (nat_le least (place_in order name) && rise_from (place_in order name + 1) order names) (rise_from least order names) ≡ rise_from least order names
    by true h = absurd (cc)
    by false h = refl

-- the first of what is left of the names
pub rise_left : (order names : List LayerName) (name : LayerName) (i least : ℕ) → i < length names → name ≡ get_or names i name → rise_from least order (drop i names) ≡ rise_from least order (name ∷ drop (i + 1) names)
rise_left order names name i least within is =
    ap (rise_from least order) (drop_more names i name within)
    ∙ ap (λ n. rise_from least order (n ∷ drop (i + 1) names)) (sym is)

-- and at the end nothing is left
pub rise_end : (order names : List LayerName) (i least : ℕ) → length names ≤ i → rise_from least order (drop i names) ≡ true
rise_end order names i least past = ap (rise_from least order) (drop_all i names past)

module _ (items own before other after : List LayerName) (is : items ≡ own) (seen : own ≡ before) (seen_other : other ≡ after) (once : IsDistinct same_name own) where
  -- none is swapped where they rise
  pub kept_order : (b : Bool) → rise_from 0 other items ≡ b → b ≡ not (swapped_in before after)
  kept_order b e =
      sym (ap not (swapped_rising own other (once_from own once) ∙ ap not (ap (rise_from 0 other) (sym is) ∙ e)) ∙ not-not b)
      ∙ (ap (λ names. not (swapped_in names other)) seen ∙ ap (λ names. not (swapped_in before names)) seen_other)
