-- What marking adds to the sets that edits fill.
use Rattle.std.specs.Prelude.{◌≡◌, ℕ, ◌+◌, ◌||◌, nat_eq, Bool, List}
use Rattle.std.specs.List.{AllByRecursion, IsDistinct}
use Rattle.std.specs.List.Sorted.{IsPermutation}
use Rattle.scene_model.specs.Element.{Element}
use Rattle.scene_model.specs.Lookups.{IsElement}
use Rattle.scene_model.specs.Numbers.{is_in}
use Rattle.selector_model.specs.Selector.{Selector}
use Rattle.edit_model.specs.Touched.{Touch, is_touched}
use Rattle.edit_model.specs.TouchedBy.{is_listed}
use Rattle.edit_model.specs.Marked.{is_marked}
use Rattle.edit_model.specs.Steady.{SameTags}
use Rattle.invalidation_map.specs.EditMembers.{EditMembers, but_fresh, but_gone, but_marked}
use Rattle.invalidation_map.specs.EditMembers.{fresh_in, gone_in, marked_in}
use Rattle.invalidation_map.specs.Members.{Members}
use Rattle.invalidation_map.specs.Rows.{Row, rows_of}
use Rattle.invalidation_map.specs.Steps.{HasRoom}

-- the list has exactly what is touched between two documents
abbrev pub AreListed : List Element → List Element → List (Touch × ℕ) → Type 0
AreListed before doc pairs = (touch : Touch) (y : ℕ) → is_listed pairs touch y ≡ is_touched before doc touch y

-- it names elements alone
abbrev pub AreAtElements : List Element → List (Touch × ℕ) → Type 0
AreAtElements doc pairs = AllByRecursion (λ pair. IsElement doc pair.1) pairs

-- a set with those added that pass a test
pub record IsGrown (test : ℕ → Bool) (old new : Members) : Type 0 where
  pub room : new.room ≡ old.room
  pub each : (x : ℕ) → is_in x new.items ≡ (is_in x old.items || test x)

-- Of the sets that edits fill one grew, and all else is as it was.

pub record AddsMarked (test : ℕ → Bool) (old new : EditMembers) : Type 0 where
  pub grown : IsGrown test (marked_in old) (marked_in new)
  pub others : but_marked new ≡ but_marked old

pub record AddsFresh (test : ℕ → Bool) (old new : EditMembers) : Type 0 where
  pub grown : IsGrown test (fresh_in old) (fresh_in new)
  pub others : but_fresh new ≡ but_fresh old

pub record AddsGone (test : ℕ → Bool) (old new : EditMembers) : Type 0 where
  pub grown : IsGrown test (gone_in old) (gone_in new)
  pub others : but_gone new ≡ but_gone old

-- For every document before, with the same tags and from which exactly the listed pairs are touched, and for every list
-- of selectors with these rows, in whatever order: what was in the set, and the marked elements.
abbrev pub AreMarked : List Element → List (Touch × ℕ) → List Row → Members → Members → Type 0
AreMarked doc pairs rows old new =
    (before : List Element) (selectors : List Selector)
    → SameTags before doc
    → AreListed before doc pairs
    → IsPermutation (rows_of selectors) rows
    → IsGrown (is_marked before doc selectors) old new

-- Of the sets that edits fill the marked grew by these, and all else is as it was.
pub record AddsMarkedBy (doc : List Element) (pairs : List (Touch × ℕ)) (rows : List Row) (old new : EditMembers)
    : Type 0 where
  pub marked : AreMarked doc pairs rows (marked_in old) (marked_in new)
  pub others : but_marked new ≡ but_marked old

-- for them all, a list has the marked elements and no others, each once
pub record IsMarkedList (doc : List Element) (pairs : List (Touch × ℕ)) (rows : List Row) (list : List ℕ) : Type 0 where
  pub each : (before : List Element) (selectors : List Selector) → SameTags before doc → AreListed before doc pairs
      → IsPermutation (rows_of selectors) rows → (x : ℕ) → is_in x list ≡ is_marked before doc selectors x
  pub once : IsDistinct nat_eq list

-- of the elements after an edit: none has a number above the last, and who was there before has the tag that it had
pub record AreAfter (last : ℕ) (before after : List Element) : Type 0 where
  pub room : HasRoom after (last + 1)
  pub tags : SameTags before after
