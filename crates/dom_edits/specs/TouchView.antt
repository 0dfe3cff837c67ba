-- What the touches of the code stand for.
use Rattle.std.specs.Prelude.{◌≡◌, ℕ, ◌<◌, true, zero, suc, List, [], ◌∷◌, length, map, encode_utf8_all, refl}
use Rattle.std.specs.Coded.{Coded, code_by, coded×, coded_ℕ, coded_list}
use Rattle.std.specs.List.{flat_map, list_any}
use Rattle.std.specs.List.Sorted.{IsNonDecreasingBy}
use Rattle.base_model.specs.Text.{Characters}
use Rattle.base_model.specs.State.{State, hover_state, active_state, focus_state}
use Rattle.stylo_base.specs.NameKey as names
use Rattle.stylo_base.specs.StateView.{state_seen}
use Rattle.edit_model.specs.Touched as model
use Rattle.edit_model.specs.TouchedBy.{is_listed, same_touch, touch_code}
use Rattle.dom_edits.specs.declared.touch.Touch.{Touch}
use Rattle.dom_edits.specs.declared.touch.Touch.TheVariants as touches

abbrev pub touch_seen : Touch → model.Touch
touch_seen (touches.Attribute name) = model.attribute name
touch_seen (touches.Id name) = model.id name
touch_seen (touches.Class name) = model.class name
touch_seen (touches.State state) = model.state (state_seen state)
touch_seen touches.Positional = model.positional
touch_seen touches.Sibling = model.sibling
touch_seen touches.Empty = model.empty

-- a number by which two are told apart at first
abbrev pub touch_key : model.Touch → ℕ
touch_key (model.attribute name) = names.key_of (encode_utf8_all name)
touch_key (model.id name) = names.key_of (encode_utf8_all name)
touch_key (model.class name) = names.key_of (encode_utf8_all name)
touch_key (model.state s) = 0
touch_key model.positional = 1
touch_key model.sibling = 2
touch_key model.empty = 3

-- the keys rise
abbrev pub AreSorted : List Touch → Type 0
AreSorted list = IsNonDecreasingBy (λ touch. touch_key (touch_seen touch)) list

-- so many are looked through one by one
abbrev pub few_touches : ℕ
few_touches = 8

-- the keys rise, where they are more than a few
abbrev pub AreSortedIfMany : List Touch → Type 0
AreSortedIfMany list = few_touches < length list → AreSorted list

-- each of these at each of the elements
abbrev pub pairs_at : List model.Touch → List ℕ → List (model.Touch × ℕ)
pairs_at list elements = flat_map (λ touch. map (λ y. (touch, y)) elements) list

-- what is listed is touched in one of these ways
abbrev pub AreAllTouches : List model.Touch → List (model.Touch × ℕ) → Type 0
AreAllTouches list pairs =
    (touch : model.Touch) (y : ℕ) → is_listed pairs touch y ≡ true → list_any (same_touch touch) list ≡ true

-- a touch from its code

abbrev pub state_told : ℕ → State
state_told zero = hover_state
state_told (suc zero) = active_state
state_told (suc (suc n)) = focus_state

abbrev pub first_of : Characters → ℕ
first_of [] = 0
first_of (n ∷ text) = n

abbrev pub touch_told : ℕ → Characters → model.Touch
touch_told zero name = model.attribute name
touch_told (suc zero) name = model.id name
touch_told (suc (suc zero)) name = model.class name
touch_told (suc (suc (suc zero))) name = model.state (state_told (first_of name))
touch_told (suc (suc (suc (suc zero)))) name = model.positional
touch_told (suc (suc (suc (suc (suc zero))))) name = model.sibling
touch_told (suc (suc (suc (suc (suc (suc n)))))) name = model.empty

abbrev pub told_code : (k : model.Touch) → touch_told (touch_code k).0 (touch_code k).1 ≡ k
told_code (model.attribute name) = refl
told_code (model.id name) = refl
told_code (model.class name) = refl
told_code (model.state hover_state) = refl
told_code (model.state active_state) = refl
told_code (model.state focus_state) = refl
told_code model.positional = refl
told_code model.sibling = refl
told_code model.empty = refl

abbrev pub pairs_code : Coded (List (model.Touch × ℕ))
pairs_code =
    coded_list (coded× (code_by (ℕ × Characters) (coded× coded_ℕ (coded_list coded_ℕ)) touch_code
    (λ p. touch_told p.0 p.1) told_code) coded_ℕ)
