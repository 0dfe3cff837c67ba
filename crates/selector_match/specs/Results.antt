-- What each result of a try says of a test at an element, and the results of tests that are put together.
use Rattle.std.specs.Prelude.{◌≡◌, ℕ, List, ◌∷◌, ◌++◌, Bool, true, false}
use Rattle.std.specs.List.{list_any}
use Rattle.scene_model.specs.Element.{Element}
use Rattle.scene_model.specs.Lookups.{siblings, left_of}
use Rattle.scene_model.specs.Ancestors.{ancestors}
use Rattle.selector_model.specs.Selector.{Combinator, Selector}
use Rattle.selector_model.specs.Holds.{holds, leftwards}
use Rattle.selector_match.specs.declared.match_result.MatchResult.{MatchResult}
use Rattle.selector_match.specs.declared.match_result.MatchResult.TheVariants.{Matched, RestartFromSibling, RestartFromDescendant, NotMatchedGlobally}

-- the siblings before an element
abbrev pub before : List Element → ℕ → List ℕ
before doc x = left_of x (siblings doc x)

-- y has no other ancestors than x has: those of x end with those of y
abbrev pub IsUnder : List Element → ℕ → ℕ → Type 0
IsUnder doc x y = (front : List ℕ) × (ancestors doc x ≡ front ++ ancestors doc y)

-- What a result says of a test at an element. The later ones say what those before them say, and more.
abbrev pub Tells : List Element → (ℕ → Bool) → ℕ → MatchResult → Type 0
Tells doc test x Matched = test x ≡ true
Tells doc test x RestartFromSibling = test x ≡ false
Tells doc test x RestartFromDescendant = list_any test (x ∷ before doc x) ≡ false
Tells doc test x NotMatchedGlobally =
    (list_any test (x ∷ before doc x) ≡ false) × ((y : ℕ) → IsUnder doc x y → test y ≡ false)

-- the result of a test that tells of one element alone
abbrev pub told_of : Bool → MatchResult
told_of true = Matched
told_of false = RestartFromSibling

-- what is known of either of two tests: that one of them holds, or no more than is known of both
abbrev pub weakest : MatchResult → MatchResult → MatchResult
weakest Matched b = Matched
weakest RestartFromSibling Matched = Matched
weakest RestartFromSibling b = RestartFromSibling
weakest RestartFromDescendant NotMatchedGlobally = RestartFromDescendant
weakest RestartFromDescendant b = b
weakest NotMatchedGlobally b = b

-- whether a selector holds at an element that is in the relation of a combinator to the left of x
abbrev pub holds_left : List Element → Combinator → Selector → ℕ → Bool
holds_left doc combinator rest x = list_any (holds doc rest) (leftwards doc combinator x)
