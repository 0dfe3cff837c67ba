-- For `ancestor_names`: where a selector holds, some ancestor has each of them.
use Rattle.std.proofs.Common.{◌≡◌, ℕ, zero, suc, ◌-◌, ◌==◌, List, [], ◌∷◌, length, slice_get, Bool, true, false, cond, ◌||◌, Option, Some, None, option_to_list, refl, sym, ap, ◌∙◌}
use Rattle.std.specs.List.{AllByRecursion, list_any}
use Rattle.std.proofs.lemmas.Bool.{and_parts, or_left, or_right, false≢true}
use Rattle.base_model.specs.Text.{Characters}
use Rattle.base_model.proofs.Lists.{each_weaker, each-append}
use Rattle.scene_model.specs.Element.{Element}
use Rattle.scene_model.specs.Lookups.{is_element, parent_of, children, beside, siblings, left_of}
use Rattle.scene_model.specs.Ancestors.{ancestors}
use Rattle.scene_model.specs.Valid.{IsValid}
use Rattle.scene_model.proofs.Any.{any_in, in_any}
use Rattle.scene_model.proofs.Climbing.{ancestors-child}
use Rattle.scene_model.proofs.Found.{each_child-parent}
use Rattle.scene_model.proofs.Numbers.{is_in, each_is_in}
use Rattle.scene_model.proofs.Siblings.{each-left}
use Rattle.selector_model.specs.Selector.{Combinator, descendant, child, next_sibling, later_sibling}
use Rattle.selector_model.specs.Selector.{type_selector, id_selector, class_selector, attribute_selector, attribute_compares, root, empty, nth, only, in_state}
use Rattle.selector_model.specs.Selector.{Selector, subject, combined, Compound, any, with_test, Test, simple, is_some, where_some, not_some}
use Rattle.selector_model.specs.Holds.{passes, holds, meets, test_holds, leftwards}
use Rattle.selector_model.proofs.Leftwards.{holds-combined}
use Rattle.ancestor_model.specs.Above.{has_name, HasAbove, names_of_test, names_in, subject_of, names_left, ancestor_names}
use Rattle.ancestor_model.specs.Path.{IsPath}
use Rattle.ancestor_model.proofs.PathLemmas.{path_up, ancestors_path}

pub subject_meets : (doc : List Element) (r : Selector) (x : ℕ) → holds doc r x ≡ true → meets doc (subject_of r) x ≡ true
subject_meets doc (subject c) x h = h
subject_meets doc (combined c k r) x h = (and_parts (meets doc c x) _ h).0

module _ (doc : List Element) (v : IsValid doc) where
  -- what some element above y passes, some element above x passes
  abbrev IsUnder : ℕ → ℕ → Type 0
  IsUnder x y = (test : ℕ → Bool) → list_any test (ancestors doc y) ≡ true → list_any test (ancestors doc x) ≡ true

  abbrev IsWithin : List ℕ → ℕ → Type 0
  IsWithin path y = (test : ℕ → Bool) → list_any test (ancestors doc y) ≡ true → list_any test path ≡ true

  each_within : (path : List ℕ) → IsPath doc path → AllByRecursion (IsWithin path) path
  each_within [] h = tt
  each_within (x ∷ above) h = (
    λ test t. or_right (test x) (list_any test above) (ap (list_any test) h.1 ∙ t),
    each_weaker (IsWithin above) (IsWithin (x ∷ above)) (λ y k test t. or_right (test x) (list_any test above) (k test t)) above (each_within above (path_up doc v x above h)),
  )

  alike_under : (x y : ℕ) → ancestors doc y ≡ ancestors doc x → IsUnder x y
  alike_under x y e test t = sym (ap (list_any test) e) ∙ t

  parent_under : (x : ℕ) (o : Option ℕ) → parent_of doc x ≡ o → AllByRecursion (IsUnder x) (option_to_list o)
  parent_under x None e = tt
  parent_under x (Some p) e =
      (λ test t. ap (list_any test) (ancestors-child doc v x p e) ∙ or_right (test p) (list_any test (ancestors doc p)) t, tt)

  child_under : (x p : ℕ) → parent_of doc x ≡ Some p → (y : ℕ) → parent_of doc y ≡ Some p → IsUnder x y
  child_under x p e y f = alike_under x y (ancestors-child doc v y p f ∙ sym (ancestors-child doc v x p e))

  beside_under : (x : ℕ) (o : Option ℕ) → parent_of doc x ≡ o → AllByRecursion (IsUnder x) (beside doc x o)
  beside_under x None e = (λ test t. t, tt)
  beside_under x (Some p) e =
      each_weaker (λ y. parent_of doc y ≡ Some p) (IsUnder x) (child_under x p e) (children doc p) (each_child-parent doc p v.distinct)

  siblings_under : (x : ℕ) → AllByRecursion (IsUnder x) (siblings doc x)
  siblings_under x = known (is_element doc x)
    where
      known : (b : Bool) → AllByRecursion (IsUnder x) (cond b (beside doc x (parent_of doc x)) [])
      known true = beside_under x (parent_of doc x) refl
      known false = tt

  got_under : (x : ℕ) (ys : List ℕ) (i : ℕ) → AllByRecursion (IsUnder x) ys → AllByRecursion (IsUnder x) (option_to_list (slice_get ys i))
  got_under x [] i h = tt
  got_under x (y ∷ ys) zero h = (h.0, tt)
  got_under x (y ∷ ys) (suc i) h = got_under x ys i h.1

  each_under : (k : Combinator) (x : ℕ) → AllByRecursion (IsUnder x) (leftwards doc k x)
  each_under descendant x = each_within (ancestors doc x) (ancestors_path doc v x)
  each_under child x = parent_under x (parent_of doc x) refl
  each_under next_sibling x =
      let left : List ℕ = left_of x (siblings doc x) in
      got_under x left (length left - 1) (each-left (IsUnder x) x (siblings doc x) (siblings_under x))
  each_under later_sibling x = each-left (IsUnder x) x (siblings doc x) (siblings_under x)

  -- a parent is an ancestor
  parent_above : (x y : ℕ) (o : Option ℕ) → parent_of doc x ≡ o → is_in y (option_to_list o) ≡ true → is_in y (ancestors doc x) ≡ true
  parent_above x y None e i = absurd (false≢true i)
  parent_above x y (Some p) e i = ap (is_in y) (ancestors-child doc v x p e) ∙ found (p == y) i
    where
      found : (b : Bool) → (b || false) ≡ true → (b || is_in y (ancestors doc p)) ≡ true
      found true h = refl
      found false h = absurd (false≢true h)

  abbrev Has : ℕ → Characters → Type 0
  Has y name = has_name doc name y ≡ true

  test_names : (t : Test) (y : ℕ) → test_holds doc t y ≡ true → AllByRecursion (Has y) (names_of_test t)
  test_names (simple (type_selector tag)) y h = (or_left (passes doc (type_selector tag) y) _ h, tt)
  test_names (simple (id_selector name)) y h =
      (or_right (passes doc (type_selector name) y) _ (or_left (passes doc (id_selector name) y) _ h), tt)
  test_names (simple (class_selector class)) y h =
      (or_right (passes doc (type_selector class) y) _ (or_right (passes doc (id_selector class) y) _ h), tt)
  test_names (simple (attribute_selector name)) y h = tt
  test_names (simple (attribute_compares name operator part case_counts)) y h = tt
  test_names (simple root) y h = tt
  test_names (simple empty) y h = tt
  test_names (simple (nth n)) y h = tt
  test_names (simple (only by_type)) y h = tt
  test_names (simple (in_state state)) y h = tt
  test_names (is_some selectors) y h = tt
  test_names (where_some selectors) y h = tt
  test_names (not_some selectors) y h = tt

  compound_names : (c : Compound) (y : ℕ) → meets doc c y ≡ true → AllByRecursion (Has y) (names_in c)
  compound_names any y h = tt
  compound_names (with_test t c) y h =
      let parts = and_parts (test_holds doc t y) (meets doc c y) h in
      each-append (Has y) (names_of_test t) (names_in c) (test_names t y parts.0) (compound_names c y parts.1)

  above_from : (r : Selector) (x y : ℕ) → is_in y (ancestors doc x) ≡ true → holds doc r y ≡ true → AllByRecursion (HasAbove doc x) (names_in (subject_of r))
  above_from r x y i h =
      each_weaker (Has y) (HasAbove doc x) (λ name t. in_any (has_name doc name) y (ancestors doc x) i t) (names_in (subject_of r)) (compound_names (subject_of r) y (subject_meets doc r y h))

  left_names : (k : Combinator) (r : Selector) (x y : ℕ) → is_in y (leftwards doc k x) ≡ true → holds doc r y ≡ true → AllByRecursion (HasAbove doc x) (names_left k r)
  left_names descendant r x y i h = above_from r x y i h
  left_names child r x y i h = above_from r x y (parent_above x y (parent_of doc x) refl i) h
  left_names next_sibling r x y i h = tt
  left_names later_sibling r x y i h = tt

  -- where a selector holds, some ancestor has each of its ancestor names
  pub holds_above : (selector : Selector) (x : ℕ) → holds doc selector x ≡ true → AllByRecursion (HasAbove doc x) (ancestor_names selector)
  holds_above (subject c) x h = tt
  holds_above (combined c k r) x h =
      let parts = and_parts (meets doc c x) (list_any (holds doc r) (leftwards doc k x)) (sym (holds-combined doc v c k r x) ∙ h) in
      let (y, (i, t)) = any_in (holds doc r) (leftwards doc k x) parts.1 in
      let under : IsUnder x y = each_is_in (IsUnder x) y (leftwards doc k x) (each_under k x) i in
      each-append (HasAbove doc x) (names_left k r) (ancestor_names r) (left_names k r x y i t)
      (each_weaker (HasAbove doc y) (HasAbove doc x) (λ name a. under (has_name doc name) a) (ancestor_names r) (holds_above r y t))
