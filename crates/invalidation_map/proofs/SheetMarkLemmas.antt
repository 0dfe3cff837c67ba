-- For `sheet_marks`: whom a change of sheets marks, as a list in tree order.
use Rattle.std.proofs.Common.{◌≡◌, ℕ, ◌==◌, ◌&&◌, ◌||◌, nat_eq, Bool, true, false, List, [], filter, refl, sym, ap, ◌∙◌}
use Rattle.std.specs.List.{AllByRecursion, IsDistinct, list_any}
use Rattle.std.proofs.lemmas.Bool.{eqb-true, and_right}
use Rattle.std.proofs.lemmas.Map.Views.{any-filter_same}
use Rattle.scene_model.specs.Element.{Element}
use Rattle.scene_model.specs.Lookups.{IsElement, is_element, numbers}
use Rattle.scene_model.specs.Numbers.{is_in}
use Rattle.scene_model.proofs.Found.{is_element-numbers}
use Rattle.scene_model.proofs.Lists.{filter_same, filter_nothing}
use Rattle.selector_model.specs.Bears.{bears}
use Rattle.selector_model.specs.Key.{Key}
use Rattle.change_model.proofs.Distinct.{IsDistinct-filter}
use Rattle.change_model.proofs.GraftChildren.{each_of}
use Rattle.edit_model.specs.Marked.{bears_in}
use Rattle.invalidation_map.specs.declared.key_sets.KeySets.{KeySets}
use Rattle.invalidation_map.specs.KeySets.{AreSetsOf, bears_one}
use Rattle.invalidation_map.specs.SheetMarked.{is_sheet_marked}

-- what is left of a list by a test

pub is_left : (p : ℕ → Bool) (x : ℕ) (xs : List ℕ) → is_in x (filter p xs) ≡ (p x && is_in x xs)
is_left p x xs = any-filter_same (λ y. y == x) p (p x) (λ y e. ap p (eqb-true y x e)) xs

-- the elements that are marked

module _ (doc : List Element) (keys : List Key) where
  absorbed : (a b : Bool) → ((a && b) && a) ≡ (a && b)
  absorbed true true = refl
  absorbed true false = refl
  absorbed false b = refl

  abbrev found : Bool → ℕ → Bool
  found swapped x = swapped || list_any (λ key. bears_in doc key x) keys

  -- each that is marked is among them, once
  pub marked_once : (swapped : Bool) → IsDistinct nat_eq (numbers doc) → IsDistinct nat_eq (filter (is_sheet_marked doc keys swapped) (numbers doc))
  marked_once swapped once = IsDistinct-filter (is_sheet_marked doc keys swapped) (numbers doc) once

  pub marked_left : (swapped : Bool) (x : ℕ) → is_in x (filter (is_sheet_marked doc keys swapped) (numbers doc)) ≡ is_sheet_marked doc keys swapped x
  marked_left swapped x =
      is_left (is_sheet_marked doc keys swapped) x (numbers doc)
      ∙ (ap (λ b. is_sheet_marked doc keys swapped x && b) (sym (is_element-numbers doc x)) ∙ absorbed (is_element doc x) (found swapped x))

  each_number : (P : ℕ → Type 0) → ((x : ℕ) → IsElement doc x → P x) → AllByRecursion P (numbers doc)
  each_number P h = each_of P (numbers doc) (λ x i. h x (is_element-numbers doc x ∙ i))

  -- nobody is where there is no key
  pub none_marked : (swapped : Bool) → swapped ≡ false → keys ≡ [] → [] ≡ filter (is_sheet_marked doc keys swapped) (numbers doc)
  none_marked swapped e none =
      sym (filter_nothing (is_sheet_marked doc keys swapped) (numbers doc) (each_number (λ x. is_sheet_marked doc keys swapped x ≡ false) (λ x there.
      and_right (is_element doc x) (found swapped x) (ap (λ b. b || list_any (λ key. bears_in doc key x) keys) e ∙ ap (list_any (λ key. bears_in doc key x)) none))))

  -- else those that bear one of the keys, or all
  one_marked : (swapped : Bool) (x : ℕ) (b : Bool) → is_element doc x ≡ b → b ≡ true
      → (swapped || list_any (λ key. bears doc key x) keys) ≡ (b && (swapped || list_any (λ key. b && bears doc key x) keys))
  one_marked swapped x true there is = refl
  one_marked swapped x false there is = absurd (cc)

  pub bearers_marked : (sets : KeySets) (swapped : Bool) → AreSetsOf keys swapped sets
      → filter (bears_one sets doc) (numbers doc) ≡ filter (is_sheet_marked doc keys swapped) (numbers doc)
  bearers_marked sets swapped are =
      filter_same (bears_one sets doc) (is_sheet_marked doc keys swapped) (numbers doc) (each_number (λ x. bears_one sets doc x ≡ is_sheet_marked doc keys swapped x) (λ x there.
      are doc x ∙ one_marked swapped x (is_element doc x) refl there))
