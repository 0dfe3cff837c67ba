-- For `Invalidator::mark_row`: sets that grow by what is listed, and by what bears a key.
use Rattle.std.proofs.Common.{◌≡◌, ℕ, ◌+◌, ◌<◌, ◌==◌, ◌||◌, ◌&&◌, Bool, true, false, List, [], ◌∷◌, Option, Some, None, length, take, get_or, refl, sym, ap, ◌∙◌, subst, inl, inr}
use Rattle.std.specs.Cmp.{both_ways}
use Rattle.std.specs.List.{list_any}
use Rattle.std.specs.Option.{option_map_or}
use Rattle.std.proofs.lemmas.Bool.{and_parts, and_from, eqb-true, or_cases, false≢true}
use Rattle.std.proofs.lemmas.List.{take_more}
use Rattle.std.proofs.lemmas.List.Folds.{list_any-append}
use Rattle.scene_model.specs.Element.{Element}
use Rattle.scene_model.specs.Lookups.{IsElement, numbers}
use Rattle.scene_model.specs.Numbers.{is_in}
use Rattle.scene_model.proofs.Any.{any_in, in_any}
use Rattle.scene_model.proofs.Found.{is_element-numbers}
use Rattle.scene_model.proofs.Numbers.{each_is_in}
use Rattle.selector_model.specs.Bears.{bears}
use Rattle.selector_model.specs.Key.{Key}
use Rattle.change_model.proofs.GraftChildren.{each_of}
use Rattle.edit_model.specs.Touched.{Touch}
use Rattle.edit_model.specs.TouchedBy.{is_listed, same_pair, same_touch}
use Rattle.edit_model.specs.MarkedAfter.{bears_around, touch_of_key}
use Rattle.edit_model.specs.Dependencies.{Step, reaches}
use Rattle.invalidation_map.specs.Members.{Members, AreAdded, added}
use Rattle.invalidation_map.specs.Steps.{AreElements}
use Rattle.invalidation_map.specs.Paths.{AreReached}
use Rattle.invalidation_map.specs.Rows.{Row, is_led_to, marks_by_row, marks_here}
use Rattle.dom_edits.proofs.TouchLemmas.{same_self, same_sound}
use Rattle.invalidation_map.specs.SharedRows.{IsAlone}
use Rattle.invalidation_map.specs.Marks.{AreAtElements, IsGrown}
use Rattle.invalidation_map.proofs.SetLemmas.{one_added, or_no}

-- another test with the same answers
pub grown_same : (f g : ℕ → Bool) (m n : Members) → ((x : ℕ) → f x ≡ g x) → IsGrown f m n → IsGrown g m n
grown_same f g m n same grown = record { room = grown.room; each = λ x. grown.each x ∙ ap (λ b. is_in x m.items || b) (same x) }

-- by nothing
pub grown_itself : (m : Members) → IsGrown (λ x. false) m m
grown_itself m = record { room = refl; each = λ x. or_no (is_in x m.items) }

-- by a test of the members of a list

tested : (a b c d : Bool) → d ≡ (b && d) → ((a || (b && c)) || d) ≡ (a || (b && (c || d)))
tested true b c d e = refl
tested false true c d e = refl
tested false false c d e = e

untested : (a b c d : Bool) → (b && d) ≡ false → (a || (b && c)) ≡ (a || (b && (c || d)))
untested true b c d e = refl
untested false true true d e = refl
untested false true false d e = sym e
untested false false c d e = refl

module _ (test : ℕ → Bool) (from : List ℕ) (i : ℕ) (m n : Members) (l : i < length from) (grown : IsGrown (λ x. test x && is_in x (take i from)) m n) where
  abbrev y : ℕ
  y = get_or from i 0

  more : (x : ℕ) → is_in x (take (i + 1) from) ≡ (is_in x (take i from) || is_in x (y ∷ []))
  more x = ap (λ l. is_in x l) (take_more from i 0 l) ∙ list_any-append (λ z. z == x) (take i from) (y ∷ [])

  passes_it : (x : ℕ) (b : Bool) → (y == x) ≡ b → test y ≡ true → (b || false) ≡ (test x && (b || false))
  passes_it x true e h = sym (ap (λ t. t && true) (sym (ap test (eqb-true y x e)) ∙ h))
  passes_it x false e h = no_and (test x)
    where
      no_and : (a : Bool) → false ≡ (a && false)
      no_and true = refl
      no_and false = refl

  fails_it : (x : ℕ) (b : Bool) → (y == x) ≡ b → test y ≡ false → (test x && (b || false)) ≡ false
  fails_it x true e h = ap (λ t. t && true) (sym (ap test (eqb-true y x e)) ∙ h)
  fails_it x false e h = and_no (test x)
    where
      and_no : (a : Bool) → (a && false) ≡ false
      and_no true = refl
      and_no false = refl

  pub member_added : (o : Members) → test (get_or from i 0) ≡ true → o ≡ added n (get_or from i 0) → IsGrown (λ x. test x && is_in x (take (i + 1) from)) m o
  member_added o h e =
      let once : added n y ≡ o = sym e in
      let one = subst (λ o. AreAdded (y ∷ []) n o) once (one_added n y) in
      record {
        room = one.room ∙ grown.room;
        each = λ x.
            one.each x ∙ (ap (λ b. b || is_in x (y ∷ [])) (grown.each x)
            ∙ (tested (is_in x m.items) (test x) (is_in x (take i from)) (is_in x (y ∷ [])) (passes_it x (y == x) refl h) ∙ ap (λ b. is_in x m.items || (test x && b)) (sym (more x))));
      }

  pub member_passed : test (get_or from i 0) ≡ false → IsGrown (λ x. test x && is_in x (take (i + 1) from)) m n
  member_passed h = record {
    room = grown.room;
    each = λ x.
        grown.each x ∙ (untested (is_in x m.items) (test x) (is_in x (take i from)) (is_in x (y ∷ [])) (fails_it x (y == x) refl h) ∙ ap (λ b. is_in x m.items || (test x && b)) (sym (more x)));
  }

-- by what is listed

pub listed_element : (doc : List Element) (pairs : List (Touch × ℕ)) (touch : Touch) (x : ℕ) → AreAtElements doc pairs → is_listed pairs touch x ≡ true → IsElement doc x
listed_element doc [] touch x are h = absurd (false≢true h)
listed_element doc (pair ∷ pairs) touch x are h = elim (or_cases (same_pair (touch, x) pair) (is_listed pairs touch x) h) [
  | inl e ↦ subst (IsElement doc) (sym (eqb-true x pair.1 (and_parts (same_touch touch pair.0) (x == pair.1) e).1)) are.0
  | inr e ↦ listed_element doc pairs touch x are.1 e
]

module _ (doc : List Element) (pairs : List (Touch × ℕ)) (touch : Touch) (xs : List ℕ) (listed : (y : ℕ) → is_in y xs ≡ is_listed pairs touch y) where
  pub listed_elements : AreAtElements doc pairs → AreElements doc xs
  listed_elements are =
      each_of (IsElement doc) xs (λ x h. listed_element doc pairs touch x are (sym (listed x) ∙ h))

  -- also when they are put into an empty set
  pub begins : (cleared first : Members) → cleared.items ≡ [] → AreAdded xs cleared first → (y : ℕ) → is_in y first.items ≡ is_listed pairs touch y
  begins cleared first none more y =
      more.each y ∙ (ap (λ l. is_in y l || is_in y xs) none ∙ listed y)

  pub led_from : (path : List Step) (x : ℕ) → AreElements doc xs → list_any (λ y. reaches doc path y x) xs ≡ is_led_to doc pairs touch path x
  led_from path x are = both_ways (list_any (λ y. reaches doc path y x) xs) (is_led_to doc pairs touch path x) there back
    where
      there : list_any (λ y. reaches doc path y x) xs ≡ true → is_led_to doc pairs touch path x ≡ true
      there h =
          let (y, (i, t)) = any_in (λ y. reaches doc path y x) xs h in
          in_any (λ y. is_listed pairs touch y && reaches doc path y x) y (numbers doc) (sym (is_element-numbers doc y) ∙ each_is_in (IsElement doc) y xs are i)
          (and_from (is_listed pairs touch y) (reaches doc path y x) (sym (listed y) ∙ i) t)

      back : is_led_to doc pairs touch path x ≡ true → list_any (λ y. reaches doc path y x) xs ≡ true
      back h =
          let (y, (i, t)) = any_in (λ y. is_listed pairs touch y && reaches doc path y x) (numbers doc) h in
          let parts = and_parts (is_listed pairs touch y) (reaches doc path y x) t in
          in_any (λ y. reaches doc path y x) y xs (listed y ∙ parts.0) parts.1

pub added_elements : (doc : List Element) (pairs : List (Touch × ℕ)) (touch : Touch) (xs : List ℕ) → ((y : ℕ) → is_in y xs ≡ is_listed pairs touch y) → AreAtElements doc pairs
    → (cleared first : Members) → cleared.items ≡ [] → AreAdded xs cleared first → AreElements doc first.items
added_elements doc pairs touch xs listed are cleared first none more =
    listed_elements doc pairs touch first.items (begins doc pairs touch xs listed cleared first none more) are

-- by a row

module _ (doc : List Element) (pairs : List (Touch × ℕ)) (row : Row) (elements : List ℕ) (listed : (y : ℕ) → is_in y elements ≡ is_listed pairs row.touch y) where
  pub marked_by_row : (cleared first : Members) (reached shown bearing : List ℕ) (path : List Step) (key : Key) (marks new : Members) → AreAtElements doc pairs → cleared.items ≡ []
      → AreAdded elements cleared first → path ≡ row.path → AreReached doc path first.items reached → shown ≡ reached → key ≡ row.key
      → ((x : ℕ) → is_in x bearing ≡ option_map_or (λ touch. is_listed pairs touch x) (touch_of_key key) false) → IsGrown (λ x. (bears doc key x || is_in x bearing) && is_in x shown) marks new
      → IsGrown (marks_by_row doc pairs row) marks new
  marked_by_row cleared first reached shown bearing path key marks new are none more way to same alike borne grown =
      grown_same (λ x. (bears doc key x || is_in x bearing) && is_in x shown) (marks_by_row doc pairs row) marks new (λ x.
      ap (λ c. (bears doc key x || c) && is_in x shown) (borne x)
      ∙ (ap (λ k. bears_around (is_listed pairs) doc k x && is_in x shown) alike
      ∙ ap (λ c. bears_around (is_listed pairs) doc row.key x && c)
      (ap (is_in x) same
      ∙ (to.each x
      ∙ (led_from doc pairs row.touch first.items here path x (listed_elements doc pairs row.touch first.items here are)
      ∙ ap (λ p. is_led_to doc pairs row.touch p x) way))))) grown
    where
      here : (y : ℕ) → is_in y first.items ≡ is_listed pairs row.touch y
      here = begins doc pairs row.touch elements listed cleared first none more

  -- one without a path marks those of its elements that bear its key or bore it
  pub here_by_row : (path : List Step) (key : Key) (m n : Members) → AreAtElements doc pairs → path ≡ [] → path ≡ row.path → key ≡ row.key
      → IsGrown (marks_here doc pairs row.touch key) m n → IsGrown (marks_by_row doc pairs row) m n
  here_by_row path key m n are none way alike grown =
      grown_same (marks_here doc pairs row.touch key) (marks_by_row doc pairs row) m n (λ x.
      ap (λ k. bears_around (is_listed pairs) doc k x && is_listed pairs row.touch x) alike
      ∙ ap (λ c. bears_around (is_listed pairs) doc row.key x && c)
      (sym (listed x)
      ∙ (led_from doc pairs row.touch elements listed [] x (listed_elements doc pairs row.touch elements listed are)
      ∙ ap (λ p. is_led_to doc pairs row.touch p x) (sym none ∙ way)))) grown

-- by a touch at elements

absorbed : (a b : Bool) → b ≡ ((a || b) && b)
absorbed true b = refl
absorbed false true = refl
absorbed false false = refl

module _ (doc : List Element) (pairs : List (Touch × ℕ)) (touch : Touch) (elements : List ℕ) (listed : (y : ℕ) → is_in y elements ≡ is_listed pairs touch y) (key : Key) where
  -- what is touched in a key bears it, or bore it
  all_bear : (o : Option Touch) (x : ℕ) → option_map_or (λ bearing. same_touch bearing touch) o false ≡ true
      → is_listed pairs touch x ≡ ((bears doc key x || option_map_or (λ k. is_listed pairs k x) o false) && is_listed pairs touch x)
  all_bear None x h = absurd (false≢true h)
  all_bear (Some k) x h =
      absorbed (bears doc key x) (is_listed pairs touch x)
      ∙ ap (λ k. (bears doc key x || is_listed pairs k x) && is_listed pairs touch x) (sym (same_sound k touch h))

  pub here_all : (m n : Members) → option_map_or (λ bearing. same_touch bearing touch) (touch_of_key key) false ≡ true → IsGrown (λ x. is_in x elements) m n
      → IsGrown (marks_here doc pairs touch key) m n
  here_all m n h grown =
      grown_same (λ x. is_in x elements) (marks_here doc pairs touch key) m n (λ x. listed x ∙ all_bear (touch_of_key key) x h) grown

  pub here_bearing : (bearing : List ℕ) (m n : Members) → ((x : ℕ) → is_in x bearing ≡ option_map_or (λ touch. is_listed pairs touch x) (touch_of_key key) false)
      → IsGrown (λ x. (bears doc key x || is_in x bearing) && is_in x elements) m n → IsGrown (marks_here doc pairs touch key) m n
  here_bearing bearing m n borne grown =
      grown_same (λ x. (bears doc key x || is_in x bearing) && is_in x elements) (marks_here doc pairs touch key) m n (λ x.
      ap (λ c. (bears doc key x || c) && is_in x elements) (borne x)
      ∙ ap (λ c. bears_around (is_listed pairs) doc key x && c) (listed x)) grown

-- one that has the touch of its key, and no path, marks all its elements
pub alone_by_row : (doc : List Element) (pairs : List (Touch × ℕ)) (row : Row) (elements : List ℕ) → ((y : ℕ) → is_in y elements ≡ is_listed pairs row.touch y)
    → (m n : Members) → AreAtElements doc pairs → IsAlone row → IsGrown (λ x. is_in x elements) m n → IsGrown (marks_by_row doc pairs row) m n
alone_by_row doc pairs row elements listed m n are alone grown =
    here_by_row doc pairs row elements listed [] row.key m n are refl (sym alone.path) refl
    (here_all doc pairs row.touch elements listed row.key m n (ap (λ o. option_map_or (λ bearing. same_touch bearing row.touch) o false) alone.key ∙ same_self row.touch) grown)
