-- The children of elements, as parts of one flat list.
use Rattle.std.specs.Prelude.{◌≡◌, ◌≢◌, ℕ, ◌+◌, ◌-◌, ◌≤◌, ◌⊎◌, List, ◌∷◌, ◌++◌, length, map, take, drop, Some}
use Rattle.std.specs.Prelude.{slice_get}
use Rattle.std.specs.List.{AllByRecursion}
use Rattle.scene_model.specs.Element.{Element}
use Rattle.scene_model.specs.Lookups.{IsElement, children}
use Rattle.dom_tree.specs.declared.span.Span.{Span}
use Rattle.dom_tree.specs.Kept.{part_of}

abbrev pub lists_of : List ℕ → List Span → List (List ℕ)
lists_of flat spans = map (part_of flat) spans

-- one ends before the other begins
abbrev pub IsBefore : Span → Span → Type 0
IsBefore one other = one.first + one.count ≤ other.first

-- each is a part of the flat list, and no two have a place in it in common
pub record AreParts (flat : List ℕ) (spans : List Span) : Type 0 where
  pub within : AllByRecursion (λ span. span.first + span.count ≤ length flat) spans
  pub apart : (i j : ℕ) (s t : Span) → slice_get spans i ≡ Some s → slice_get spans j ≡ Some t → i ≢ j
      → IsBefore s t ⊎ IsBefore t s

-- by number, from 1 to the last one: the children of each element
pub record AreChildren (last : ℕ) (doc : List Element) (lists : List (List ℕ)) : Type 0 where
  pub count : length lists ≡ last
  pub each : (x : ℕ) → IsElement doc x → slice_get lists (x - 1) ≡ Some (children doc x)

-- a list without the item at an index
abbrev pub list_without : ℕ → List ℕ → List ℕ
list_without index xs = take index xs ++ drop (index + 1) xs

-- a list with one more item at an index
abbrev pub list_with : ℕ → ℕ → List ℕ → List ℕ
list_with index x xs = take index xs ++ x ∷ drop index xs

-- a list with the item at an index moved to another, which counts in the list without it
abbrev pub list_moved : ℕ → ℕ → List ℕ → List ℕ
list_moved from to xs = take to (list_without from xs) ++ (take 1 (drop from xs) ++ drop to (list_without from xs))

-- a part of a list that was put at an index of another
abbrev pub shifted : ℕ → Span → Span
shifted start span = record { first = start + span.first; count = span.count }
