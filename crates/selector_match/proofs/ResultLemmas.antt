-- What the result of a try to the left of an element tells of the element.
use Rattle.std.proofs.Common.{◌≡◌, ℕ, ◌-◌, ◌==◌, Bool, true, false, ◌||◌, List, [], ◌∷◌, ◌++◌, length, take, Option, Some, None, option_to_list, refl, sym, ap, ◌∙◌, subst, append_assoc}
use Rattle.std.specs.List.{list_any}
use Rattle.std.proofs.lemmas.Bool.{and_from, and_right, or_parts, eqb-true}
use Rattle.scene_model.specs.Element.{Element}
use Rattle.scene_model.specs.Lookups.{IsElement, parent_of}
use Rattle.scene_model.specs.Ancestors.{ancestors}
use Rattle.scene_model.specs.Valid.{IsValid}
use Rattle.scene_model.proofs.Any.{in_any, in_middle, none_any, any_none, none-append, append-none}
use Rattle.scene_model.proofs.Climbing.{ancestors-child, ancestors-root}
use Rattle.scene_model.proofs.Numbers.{is_in, each_is_in}
use Rattle.scene_model.proofs.Siblings.{each_left_sibling, last_split}
use Rattle.selector_model.specs.Selector.{Combinator, child, descendant, next_sibling, later_sibling, Selector, combined, Compound}
use Rattle.selector_model.specs.Holds.{nearest, leftwards, holds, meets}
use Rattle.selector_model.proofs.Leftwards.{holds-combined}
use Rattle.selector_match.specs.declared.match_result.MatchResult.{MatchResult}
use Rattle.selector_match.specs.declared.match_result.MatchResult.TheVariants.{Matched, RestartFromSibling, RestartFromDescendant, NotMatchedGlobally}
use Rattle.selector_match.specs.Results.{before, IsUnder, Tells, holds_left}
use Rattle.selector_match.proofs.BeforeLemmas.{same_parent, same_ancestors, before-split, none_before, each_under}

-- whether the result is that it holds
abbrev pub is_match : MatchResult → Bool
is_match Matched = true
is_match RestartFromSibling = false
is_match RestartFromDescendant = false
is_match NotMatchedGlobally = false

pub tells_here : (doc : List Element) (test : ℕ → Bool) (x : ℕ) (o : MatchResult) → Tells doc test x o → test x ≡ is_match o
tells_here doc test x Matched h = h
tells_here doc test x RestartFromSibling h = h
tells_here doc test x RestartFromDescendant h = (or_parts (test x) (list_any test (before doc x)) h).0
tells_here doc test x NotMatchedGlobally h = (or_parts (test x) (list_any test (before doc x)) h.0).0

-- what fails wherever the ancestors are among those of x fails at the siblings before x too
pub fails_under : (doc : List Element) → IsValid doc → (test : ℕ → Bool) (x : ℕ) → ((y : ℕ) → IsUnder doc x y → test y ≡ false) → Tells doc test x NotMatchedGlobally
fails_under doc v test x h = (any_none test (x ∷ before doc x) (λ y i. h y (near y (x == y) refl i)), h)
  where
    near : (y : ℕ) (b : Bool) → (x == y) ≡ b → (b || is_in y (before doc x)) ≡ true → IsUnder doc x y
    near y true same i = ([], ap (ancestors doc) (eqb-true x y same))
    near y false other i = ([], sym (same_ancestors doc v x y i))

-- a try that failed at the parent failed for the siblings too
abbrev pub raised : MatchResult → MatchResult
raised Matched = Matched
raised RestartFromSibling = RestartFromDescendant
raised RestartFromDescendant = RestartFromDescendant
raised NotMatchedGlobally = NotMatchedGlobally

no_or : (b : Bool) → b ≡ false → (b || false) ≡ false
no_or b h = ap (λ c. c || false) h

module _ (doc : List Element) (v : IsValid doc) (test : ℕ → Bool) where
  -- the test at some element to the left
  abbrev pub to_left : Combinator → ℕ → Bool
  to_left combinator x = list_any test (leftwards doc combinator x)

  -- the parent

  only_parent : (x : ℕ) (o : Option ℕ) → parent_of doc x ≡ o → to_left child x ≡ list_any test (option_to_list o)
  only_parent x o e = ap (λ o. list_any test (option_to_list o)) e

  parent_fails : (x q : ℕ) → parent_of doc x ≡ Some q → test q ≡ false → list_any (to_left child) (x ∷ before doc x) ≡ false
  parent_fails x q e h =
      let at : (y : ℕ) → parent_of doc y ≡ Some q → to_left child y ≡ false = λ y f. only_parent y (Some q) f ∙ no_or (test q) h in
      any_none (to_left child) (x ∷ before doc x) (λ y i. at y (own y (x == y) refl i))
    where
      own : (y : ℕ) (b : Bool) → (x == y) ≡ b → (b || is_in y (before doc x)) ≡ true → parent_of doc y ≡ Some q
      own y true same i = ap (parent_of doc) (sym (eqb-true x y same)) ∙ e
      own y false other i = same_parent doc v x y i ∙ e

  above_each : (q r : ℕ) (front : List ℕ) → q ∷ ancestors doc q ≡ front ++ r ∷ ancestors doc r → IsUnder doc q r
  above_each q r [] e = ([], cc)
  above_each q r (g ∷ front) e = (front ++ r ∷ [], tail e ∙ sym (append_assoc front (r ∷ []) (ancestors doc r)))
    where
      tail : q ∷ ancestors doc q ≡ g ∷ (front ++ r ∷ ancestors doc r) → ancestors doc q ≡ front ++ r ∷ ancestors doc r
      tail h = cc

  parent_above : (x q y : ℕ) (o : Option ℕ) → parent_of doc x ≡ Some q → ((w : ℕ) → IsUnder doc q w → test w ≡ false) → IsUnder doc x y → parent_of doc y ≡ o → to_left child y ≡ false
  parent_above x q y None e h u f = only_parent y None f
  parent_above x q y (Some r) e h (front, u) f =
      only_parent y (Some r) f ∙ no_or (test r) (h r (above_each q r front (sym (ancestors-child doc v x q e) ∙ (u ∙ ap (λ l. front ++ l) (ancestors-child doc v y r f)))))

  pub child_none : (x : ℕ) → parent_of doc x ≡ None → Tells doc (to_left child) x NotMatchedGlobally
  child_none x e = fails_under doc v (to_left child) x (λ y (front, u). only_parent y None (root y (parent_of doc y) refl front (sym (ancestors-root doc v x e) ∙ u)))
    where
      root : (y : ℕ) (o : Option ℕ) → parent_of doc y ≡ o → (front : List ℕ) → [] ≡ front ++ ancestors doc y → parent_of doc y ≡ None
      root y None f front u = f
      root y (Some q) f [] u = absurd (nothing (u ∙ ancestors-child doc v y q f))
        where
          nothing : [] ≡ q ∷ ancestors doc q → ⊥
          nothing h = cc
      root y (Some q) f (g ∷ front) u = absurd (cc)

  pub child_told : (x q : ℕ) (o : MatchResult) → parent_of doc x ≡ Some q → Tells doc test q o → Tells doc (to_left child) x (raised o)
  child_told x q Matched e h = only_parent x (Some q) e ∙ ap (λ b. b || false) h
  child_told x q RestartFromSibling e h = parent_fails x q e h
  child_told x q RestartFromDescendant e h = parent_fails x q e (tells_here doc test q RestartFromDescendant h)
  child_told x q NotMatchedGlobally e h = fails_under doc v (to_left child) x (λ y u. parent_above x q y (parent_of doc y) e h.1 u refl)

  raised_other : (o : MatchResult) → (o ≡ RestartFromSibling → ⊥) → raised o ≡ o
  raised_other Matched n = refl
  raised_other RestartFromSibling n = absurd (n refl)
  raised_other RestartFromDescendant n = refl
  raised_other NotMatchedGlobally n = refl

  pub child_kept : (x q : ℕ) (o : MatchResult) → parent_of doc x ≡ Some q → (o ≡ RestartFromSibling → ⊥) → Tells doc test q o → Tells doc (to_left child) x o
  child_kept x q o e n h = subst (Tells doc (to_left child) x) (raised_other o n) (child_told x q o e h)

  -- the ancestors

  pub above_none : (x : ℕ) → list_any test (ancestors doc x) ≡ false → Tells doc (to_left descendant) x NotMatchedGlobally
  above_none x h =
      fails_under doc v (to_left descendant) x (λ y (front, e). (none-append test front (ancestors doc y) (sym (ap (list_any test) e) ∙ h)).1)

  above_here : (y q : ℕ) (b : Bool) → parent_of doc y ≡ Some q → (test q || list_any test (ancestors doc q)) ≡ b → list_any test (ancestors doc y) ≡ b
  above_here y q b e h = ap (list_any test) (ancestors-child doc v y q e) ∙ h

  -- the parent q of y, which x or an ancestor of x is, tells of x
  pub above_told : (x y q : ℕ) (o : MatchResult) → parent_of doc y ≡ Some q → list_any test (ancestors doc y) ≡ list_any test (ancestors doc x) → (o ≡ RestartFromSibling → ⊥) → (o ≡ RestartFromDescendant → ⊥) → Tells doc test q o → Tells doc (to_left descendant) x o
  above_told x y q Matched e same n m h =
      sym same ∙ above_here y q true e (ap (λ b. b || list_any test (ancestors doc q)) h)
  above_told x y q RestartFromSibling e same n m h = absurd (n refl)
  above_told x y q RestartFromDescendant e same n m h = absurd (m refl)
  above_told x y q NotMatchedGlobally e same n m h =
      above_none x (sym same ∙ above_here y q false e (ap (λ b. b || list_any test (ancestors doc q)) (h.1 q ([], refl)) ∙ any_none test (ancestors doc q) (λ w i. h.1 w (each_is_in (IsUnder doc q) w (ancestors doc q) (each_under doc v q) i))))

  pub above_passed : (x y q : ℕ) (o : MatchResult) → parent_of doc y ≡ Some q → list_any test (ancestors doc y) ≡ list_any test (ancestors doc x) → is_match o ≡ false → Tells doc test q o → list_any test (ancestors doc q) ≡ list_any test (ancestors doc x)
  above_passed x y q o e same f h =
      sym (ap (λ b. b || list_any test (ancestors doc q)) (tells_here doc test q o h ∙ f)) ∙ (sym (above_here y q (test q || list_any test (ancestors doc q)) e refl) ∙ same)

  -- the siblings before

  -- a combinator to which the test at no sibling before is the test at none
  abbrev AsksBefore : Combinator → Type 0
  AsksBefore k = (y : ℕ) → list_any test (before doc y) ≡ false → to_left k y ≡ false

  asks_later : AsksBefore later_sibling
  asks_later y h = h

  only_nearest : (xs : List ℕ) (o : Option ℕ) → nearest xs ≡ o → list_any test xs ≡ false → list_any test (option_to_list o) ≡ false
  only_nearest xs None e h = refl
  only_nearest xs (Some w) e h =
      let parts = none-append test (take (length xs - 1) xs) (w ∷ []) (sym (ap (list_any test) (last_split xs w e)) ∙ h) in parts.1

  asks_nearest : AsksBefore next_sibling
  asks_nearest y h = only_nearest (before doc y) (nearest (before doc y)) refl h

  none_for : (k : Combinator) (x : ℕ) → AsksBefore k → list_any test (before doc x) ≡ false → list_any (to_left k) (x ∷ before doc x) ≡ false
  none_for k x asks h = any_none (to_left k) (x ∷ before doc x) (λ y i. asks y (here y (x == y) refl i))
    where
      here : (y : ℕ) (b : Bool) → (x == y) ≡ b → (b || is_in y (before doc x)) ≡ true → list_any test (before doc y) ≡ false
      here y true same i = ap (λ w. list_any test (before doc w)) (sym (eqb-true x y same)) ∙ h
      here y false other i = none_before doc v test x y h i

  -- where the test fails at all under a sibling
  under_for : (k : Combinator) (x w y : ℕ) → AsksBefore k → is_in w (before doc x) ≡ true → ((z : ℕ) → IsUnder doc w z → test z ≡ false) → IsUnder doc x y → to_left k y ≡ false
  under_for k x w y asks i h (front, u) =
      asks y (any_none test (before doc y) (λ z j. h z (front, same_ancestors doc v x w i ∙ (u ∙ ap (λ l. front ++ l) (sym (same_ancestors doc v y z j))))))

  pub nearest_told : (x w : ℕ) (o : MatchResult) → nearest (before doc x) ≡ Some w → Tells doc test w o → Tells doc (to_left next_sibling) x o
  nearest_told x w Matched e h = ap (λ o. list_any test (option_to_list o)) e ∙ ap (λ b. b || false) h
  nearest_told x w RestartFromSibling e h = ap (λ o. list_any test (option_to_list o)) e ∙ no_or (test w) h
  nearest_told x w RestartFromDescendant e h =
      let split = last_split (before doc x) w e in
      let parts = or_parts (test w) (list_any test (before doc w)) h in
      let front = sym (ap (list_any test) (before-split doc v x w (take (length (before doc x) - 1) (before doc x)) [] split)) ∙ parts.1 in
      none_for next_sibling x asks_nearest (ap (list_any test) split ∙ append-none test (take (length (before doc x) - 1) (before doc x)) (w ∷ []) front (no_or (test w) parts.0))
  nearest_told x w NotMatchedGlobally e h =
      fails_under doc v (to_left next_sibling) x (λ y u. under_for next_sibling x w y asks_nearest (ap (is_in w) (last_split (before doc x) w e) ∙ in_middle w (take (length (before doc x) - 1) (before doc x)) []) h.1 u)

  pub before_none : (x : ℕ) → list_any test (before doc x) ≡ false → Tells doc (to_left later_sibling) x RestartFromDescendant
  before_none x h = none_for later_sibling x asks_later h

  -- left is the front of those before x that is still to be tried, and w the last of it
  pub before_told : (x w : ℕ) (left farther rest : List ℕ) (o : MatchResult) → before doc x ≡ left ++ rest → left ≡ farther ++ w ∷ [] → list_any test left ≡ list_any test (before doc x) → (o ≡ RestartFromSibling → ⊥) → Tells doc test w o → Tells doc (to_left later_sibling) x o
  before_told x w left farther rest o e f same n h = told o n h
    where
      whole : before doc x ≡ farther ++ w ∷ rest
      whole = e ∙ (ap (λ l. l ++ rest) f ∙ append_assoc farther (w ∷ []) rest)

      here : is_in w (before doc x) ≡ true
      here = ap (is_in w) whole ∙ in_middle w farther rest

      told : (o : MatchResult) → (o ≡ RestartFromSibling → ⊥) → Tells doc test w o → Tells doc (to_left later_sibling) x o
      told Matched n h = in_any test w (before doc x) here h
      told RestartFromSibling n h = absurd (n refl)
      told RestartFromDescendant n h =
          let parts = or_parts (test w) (list_any test (before doc w)) h in
          let front = sym (ap (list_any test) (before-split doc v x w farther rest whole)) ∙ parts.1 in
          before_none x (sym same ∙ (ap (list_any test) f ∙ append-none test farther (w ∷ []) front (no_or (test w) parts.0)))
      told NotMatchedGlobally n h = fails_under doc v (to_left later_sibling) x (λ y u. under_for later_sibling x w y asks_later here h.1 u)

-- a selector with another to the left of it

module _ (doc : List Element) (v : IsValid doc) where
  pub before_element : (x w : ℕ) (left farther rest : List ℕ) → before doc x ≡ left ++ rest → left ≡ farther ++ w ∷ [] → IsElement doc w
  before_element x w left farther rest e f =
      each_is_in (IsElement doc) w (before doc x) (each_left_sibling doc v x) (ap (is_in w) (e ∙ (ap (λ l. l ++ rest) f ∙ append_assoc farther (w ∷ []) rest)) ∙ in_middle w farther rest)

  combined_fails : (c : Compound) (k : Combinator) (r : Selector) (x : ℕ) → holds_left doc k r x ≡ false → holds doc (combined c k r) x ≡ false
  combined_fails c k r x h = holds-combined doc v c k r x ∙ and_right (meets doc c x) (holds_left doc k r x) h

  pub combined_told : (c : Compound) (k : Combinator) (r : Selector) (x : ℕ) (o : MatchResult) → meets doc c x ≡ true → Tells doc (holds_left doc k r) x o → Tells doc (holds doc (combined c k r)) x o
  combined_told c k r x Matched m h = holds-combined doc v c k r x ∙ and_from (meets doc c x) (holds_left doc k r x) m h
  combined_told c k r x RestartFromSibling m h = combined_fails c k r x h
  combined_told c k r x RestartFromDescendant m h =
      any_none (holds doc (combined c k r)) (x ∷ before doc x) (λ y i. combined_fails c k r y (none_any (holds_left doc k r) y (x ∷ before doc x) h i))
  combined_told c k r x NotMatchedGlobally m h = fails_under doc v (holds doc (combined c k r)) x (λ y u. combined_fails c k r y (h.1 y u))
