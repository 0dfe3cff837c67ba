-- Class lists.
use Rattle.std.specs.Prelude.{ℕ, ◌+◌, ◌<◌, ◌≤◌, List, [], ◌∷◌, map, length, Option, Some, None, unwrap_or, slice_get}
use Rattle.std.specs.List.{AllByRecursion}
use Rattle.std.specs.List.Sorted.{IsNonDecreasing, IsPermutation}
use Rattle.scene_model.specs.Element.{Characters}
use Rattle.scene_model.specs.Words.{words}
use Rattle.stylo_base.specs.NameList.{interned}
use Rattle.dom_tree.specs.declared.span.Span.{Span}
use Rattle.dom_tree.specs.Kept.{text_of, part_of}

-- the texts found so far and then the others, each once
abbrev pub distinct_from : List Characters → List Characters → List Characters
distinct_from found [] = found
distinct_from found (word ∷ rest) = distinct_from (interned found word) rest

-- the words of a text, each once
abbrev pub distinct_words : Characters → List Characters
distinct_words text = distinct_from [] (words text)

abbrev pub list_seen : List Characters → List ℕ → Span → List Characters
list_seen names list span = map (text_of names) (part_of list span)

-- each of the names has a text
abbrev pub AreNames : List Characters → List ℕ → Type 0
AreNames names list = AllByRecursion (λ name. name < length names) list

-- the same names in the order of their numbers
pub record AreInOrder (list sorted : List ℕ) : Type 0 where
  pub permutation : IsPermutation list sorted
  pub rising : IsNonDecreasing sorted

-- the part behind a part, of as many items
abbrev pub behind : Span → Span
behind span = record { first = span.first + span.count; count = span.count }

-- a part of the names, and behind it the same names in the order of their numbers
pub record IsList (list : List ℕ) (span : Span) : Type 0 where
  pub within : span.first + span.count + span.count ≤ length list
  pub in_order : AreInOrder (part_of list span) (part_of list (behind span))

-- each name of the lists has a text, and each list is a part of the names with the same in order behind it
pub record AreLists (names : List Characters) (list : List ℕ) (spans : List Span) : Type 0 where
  pub named : AreNames names list
  pub lists : AllByRecursion (IsList list) spans

-- the names of a list, and the same names in the order of their numbers
pub record AreClasses (names : List Characters) (list sorted : List ℕ) : Type 0 where
  pub named : AreNames names list
  pub in_order : AreInOrder list sorted

-- the list at an index, or none
abbrev pub list_of : List (List Characters) → Option ℕ → List Characters
list_of lists None = []
list_of lists (Some k) = unwrap_or (slice_get lists k) []
