-- For `Session`: what a standing is whose styles are kept at places by number.
use Rattle.std.proofs.Common.{◌≡◌, ℕ, nat_eq, List, [], ◌∷◌, map, filter, filter_map, length, Bool, true, false, ◌||◌, Option, Some, None, option_map, refl, sym, ap, subst, ◌∙◌}
use Rattle.std.specs.List.{AllByRecursion, IsDistinct, list_any, cons_option}
use Rattle.std.specs.Option.{option_or}
use Rattle.base_model.proofs.Lists.{each_any, each-map}
use Rattle.scene_model.specs.Element.{Element}
use Rattle.scene_model.specs.Lookups.{numbers, IsElement}
use Rattle.scene_model.specs.Ancestors.{ancestors}
use Rattle.scene_model.specs.Document.{Document}
use Rattle.scene_model.specs.Numbers.{is_in}
use Rattle.scene_model.specs.Valid.{IsValid}
use Rattle.scene_model.specs.Scene.{Scene, elements_of}
use Rattle.scene_model.proofs.Climbing.{ancestors_each}
use Rattle.scene_model.proofs.Lists.{each-filter, each_weaker, filter_nothing, filter_same}
use Rattle.change_model.specs.Sound.{IsSound}
use Rattle.value_model.specs.Style.{Style}
use Rattle.session_model.specs.Standing.{Standing, style_in, rising, kept_at, is_matched, is_cascaded, is_open, parent_differs, root_size_differs, matched_count, cascaded_count, started, restyled}
use Rattle.session_model.specs.StandingInvariant.{AllKeep}
use Rattle.session_model.specs.Walk.{Styled, results, result_at, placed_styles}
use Rattle.session_model.proofs.FlagLemmas.{each_number}
use Rattle.session_model.proofs.KeepsLemmas.{keep-restyled}
use Rattle.session_model.proofs.ListedLemmas.{among-numbers}
use Rattle.session_model.proofs.OpenLemmas.{cascaded-idle, kept-idle, kept-not_open}
use Rattle.session_model.proofs.RestyleLemmas.{kept-others}
use Rattle.session_model.proofs.SlotLemmas.{placed-styles, listed-placed}
use Rattle.session_model.proofs.WalkLemmas.{results-now, committed-now, length-results, matched-results, distinct-cascaded}
use Rattle.style_session.specs.SessionView.{elements_in}

-- the standing of a scene, where the styles are kept at places by number
abbrev pub standing_with : Scene → List ℕ → (ℕ → Bool) → (ℕ → Option Style) → List ℕ → Standing
standing_with scene marks fresh slot recent =
    record {
      scene = scene;
      marked = elements_in scene.document marks;
      fresh = filter fresh (numbers (elements_of scene));
      kept = placed_styles slot scene.document;
      recent = recent;
    }

pub same_parts : (scene : Scene) (m n f g : List ℕ) (k l : List (ℕ × Style)) (r s : List ℕ) → m ≡ n → f ≡ g → k ≡ l → r ≡ s
    → ◌≡◌ {A = Standing} (record { scene = scene; marked = m; fresh = f; kept = k; recent = r }) (record { scene = scene; marked = n; fresh = g; kept = l; recent = s })
same_parts scene m n f g k l r s a b c d = cc

-- what holds of elements, of each number
pub each_element : (els : List Element) (P : ℕ → Type 0) → ((x : ℕ) → IsElement els x → P x) → AllByRecursion P (numbers els)
each_element els P h = each_weaker (IsElement els) P h (numbers els) (each_number els)

elements_none : (d : Document) (list : List ℕ) → list ≡ [] → elements_in d list ≡ []
elements_none d list e =
    filter_nothing (λ x. is_in x list) (numbers d.elements) (each_any (λ x. is_in x list ≡ false) (λ x. ap (is_in x) e) (numbers d.elements))

-- a test that all pass leaves all
every : {X : Type 0} (xs : List X) → filter (λ x. true) xs ≡ xs
every [] = refl
every (x ∷ xs) = ap (λ l. x ∷ l) (every xs)

none_pass : (fresh : ℕ → Bool) (xs : List ℕ) → ((x : ℕ) → fresh x ≡ false) → filter fresh xs ≡ []
none_pass fresh xs none = filter_nothing fresh xs (each_any (λ x. fresh x ≡ false) none xs)

all_pass : (fresh : ℕ → Bool) (xs : List ℕ) → ((x : ℕ) → fresh x ≡ true) → filter fresh xs ≡ xs
all_pass fresh xs all =
    filter_same fresh (λ x. true) xs (each_any (λ x. fresh x ≡ true) all xs) ∙ every xs

abbrev pair : (ℕ → Option Style) → ℕ → Option (ℕ × Style)
pair slot x = option_map (λ style. (x, style)) (slot x)

-- the start

no_styles : (slot : ℕ → Option Style) → ((x : ℕ) → slot x ≡ None) → (xs : List ℕ) → filter_map (pair slot) xs ≡ []
no_styles slot h [] = refl
no_styles slot h (x ∷ xs) =
    ap (λ o. cons_option (option_map (λ style. (x, style)) o) (filter_map (pair slot) xs)) (h x) ∙ no_styles slot h xs

pub started-with : (scene : Scene) (marks : List ℕ) (fresh : ℕ → Bool) (slot : ℕ → Option Style) (recent : List ℕ) → marks ≡ [] → ((x : ℕ) → fresh x ≡ true) → ((x : ℕ) → slot x ≡ None)
    → recent ≡ [] → standing_with scene marks fresh slot recent ≡ started scene
started-with scene marks fresh slot recent m f h r =
    same_parts scene _ _ _ _ _ _ _ _ (elements_none scene.document marks m) (all_pass fresh (numbers (elements_of scene)) f) (no_styles slot h (rising scene.document)) r

-- What is not open keeps its style at its place.
pub kept-with : (scene : Scene) (marks : List ℕ) (fresh : ℕ → Bool) (slot : ℕ → Option Style) (recent : List ℕ) → IsSound scene.document → AllKeep (standing_with scene marks fresh slot recent)
    → (x : ℕ) → IsElement (elements_of scene) x → is_open (standing_with scene marks fresh slot recent) x ≡ false → slot x ≡ Some (style_in scene x)
kept-with scene marks fresh slot recent sound all x there h =
    sym (listed-placed slot scene.document sound x there)
    ∙ kept-not_open (standing_with scene marks fresh slot recent) sound.valid all x there h

-- what is open, by the marks and by what is fresh

module _ (scene : Scene) (marks : List ℕ) (fresh : ℕ → Bool) (slot : ℕ → Option Style) (recent : List ℕ) where
  abbrev els : List Element
  els = elements_of scene

  abbrev shown : Standing
  shown = standing_with scene marks fresh slot recent

  pub matched-with : (x : ℕ) → IsElement els x → is_matched shown x ≡ (is_in x marks || fresh x)
  matched-with x there =
      ap (λ b. b || is_in x (filter fresh (numbers els))) (among-numbers els (λ y. is_in y marks) x there)
      ∙ ap (λ b. is_in x marks || b) (among-numbers els fresh x there)

  any_matched : (xs : List ℕ) → AllByRecursion (IsElement els) xs → list_any (is_matched shown) xs ≡ list_any (λ y. is_in y marks || fresh y) xs
  any_matched [] h = refl
  any_matched (x ∷ xs) h =
      ap (λ b. b || list_any (is_matched shown) xs) (matched-with x h.0)
      ∙ ap (λ b. (is_in x marks || fresh x) || b) (any_matched xs h.1)

  pub open-with : IsValid els → (x : ℕ) → IsElement els x → is_open shown x ≡ list_any (λ y. is_in y marks || fresh y) (x ∷ ancestors els x)
  open-with v x there = any_matched (x ∷ ancestors els x) (there, ancestors_each els v x)

-- after a restyle nothing is marked or fresh, each element has its style, and those that it cascaded are listed
module _ (scene : Scene) (none : List ℕ) (calm : ℕ → Bool) (m : none ≡ []) (f : (x : ℕ) → calm x ≡ false) where
  pub restyled-of : (marks : List ℕ) (fresh : ℕ → Bool) (slot : ℕ → Option Style) (recent : List ℕ) (now : ℕ → Option Style) (list : List ℕ)
      → ((x : ℕ) → IsElement (elements_of scene) x → now x ≡ Some (style_in scene x)) → list ≡ filter (is_cascaded (standing_with scene marks fresh slot recent)) (numbers (elements_of scene))
      → standing_with scene none calm now list ≡ restyled (standing_with scene marks fresh slot recent)
  restyled-of marks fresh slot recent now list h k =
      same_parts scene _ _ _ _ _ _ _ _ (elements_none scene.document none m) (none_pass calm (numbers (elements_of scene)) f) (placed-styles now scene h) k

-- a restyle with nothing marked or fresh

module _ (scene : Scene) (marks : List ℕ) (fresh : ℕ → Bool) (slot : ℕ → Option Style) (recent : List ℕ) (m : marks ≡ []) (f : (x : ℕ) → fresh x ≡ false) (sound : IsSound scene.document) (all :
    AllKeep (standing_with scene marks fresh slot recent)) where
  abbrev calm : Standing
  calm = standing_with scene marks fresh slot recent

  none_matched : (x : ℕ) → IsElement (elements_of scene) x → is_matched calm x ≡ false
  none_matched x there =
      matched-with scene marks fresh slot recent x there ∙ (ap (λ l. is_in x l || fresh x) m ∙ f x)

  pub idle-with : (none : List ℕ) (still : ℕ → Bool) → none ≡ [] → ((x : ℕ) → still x ≡ false) → (now : ℕ → Option Style) (list : List ℕ)
      → ((x : ℕ) → IsElement (elements_of scene) x → now x ≡ slot x) → list ≡ [] → standing_with scene none still now list ≡ restyled calm
  idle-with none still n g now list same l =
      restyled-of scene none still n g marks fresh slot recent now list
      (λ x there. same x there ∙ (sym (listed-placed slot scene.document sound x there) ∙ kept-idle calm sound.valid all none_matched x there))
      (l ∙ sym (filter_nothing (is_cascaded calm) (numbers (elements_of scene)) (each_element (elements_of scene) (λ x. is_cascaded calm x ≡ false) (cascaded-idle calm sound.valid all none_matched))))

  none_counted : (p : ℕ → Bool) → ((x : ℕ) → IsElement (elements_of scene) x → p x ≡ false) → length (filter p (numbers (elements_of scene))) ≡ 0
  none_counted p h = ap length (filter_nothing p (numbers (elements_of scene)) (each_element (elements_of scene) (λ x. p x ≡ false) h))

  pub idle-cascaded : cascaded_count calm ≡ 0
  idle-cascaded = none_counted (is_cascaded calm) (cascaded-idle calm sound.valid all none_matched)

  pub idle-matched : matched_count calm ≡ 0
  idle-matched = none_counted (is_matched calm) none_matched

-- a restyle where all elements are fresh

module _ (scene : Scene) (marks : List ℕ) (fresh : ℕ → Bool) (slot : ℕ → Option Style) (recent : List ℕ) (f : (x : ℕ) → fresh x ≡ true) where
  abbrev anew : Standing
  anew = standing_with scene marks fresh slot recent

  all_matched : (x : ℕ) → IsElement (elements_of scene) x → is_matched anew x ≡ true
  all_matched x there =
      matched-with scene marks fresh slot recent x there ∙ (ap (λ b. is_in x marks || b) (f x) ∙ last (is_in x marks))
    where
      last : (b : Bool) → (b || true) ≡ true
      last true = refl
      last false = refl

  all_cascaded : (x : ℕ) → IsElement (elements_of scene) x → is_cascaded anew x ≡ true
  all_cascaded x there =
      ap (λ b. b || (parent_differs anew x || root_size_differs anew)) (all_matched x there)

  all_elements : (p : ℕ → Bool) → ((x : ℕ) → IsElement (elements_of scene) x → p x ≡ true) → filter p (numbers (elements_of scene)) ≡ numbers (elements_of scene)
  all_elements p h =
      filter_same p (λ x. true) (numbers (elements_of scene)) (each_element (elements_of scene) (λ x. p x ≡ true) h) ∙ every (numbers (elements_of scene))

  pub first-with : (none : List ℕ) (calm : ℕ → Bool) → none ≡ [] → ((x : ℕ) → calm x ≡ false) → (now : ℕ → Option Style) (list : List ℕ)
      → ((x : ℕ) → IsElement (elements_of scene) x → now x ≡ Some (style_in scene x)) → list ≡ numbers (elements_of scene) → standing_with scene none calm now list ≡ restyled anew
  first-with none calm m c now list h e =
      restyled-of scene none calm m c marks fresh slot recent now list h (e ∙ sym (all_elements (is_cascaded anew) all_cascaded))

  pub first-matched : length (numbers (elements_of scene)) ≡ matched_count anew
  first-matched = sym (ap length (all_elements (is_matched anew) all_matched))

  pub first-cascaded : length (numbers (elements_of scene)) ≡ cascaded_count anew
  first-cascaded = sym (ap length (all_elements (is_cascaded anew) all_cascaded))

-- a restyle of what its walk hands on

abbrev pub number_of : Styled → ℕ
number_of one = one.number

module _ (scene : Scene) (marks : List ℕ) (fresh : ℕ → Bool) (slot : ℕ → Option Style) (recent : List ℕ) (sound : IsSound scene.document) (all : AllKeep (standing_with scene marks fresh slot
    recent)) (found : List Styled) (is : found ≡ results (standing_with scene marks fresh slot recent)) where
  abbrev st : Standing
  st = standing_with scene marks fresh slot recent

  abbrev now_styled : ℕ → Styled
  now_styled x = record { number = x; style = style_in scene x; matched = is_matched st x }

  numbers_back : (xs : List ℕ) → map number_of (map now_styled xs) ≡ xs
  numbers_back [] = refl
  numbers_back (x ∷ xs) = ap (λ l. x ∷ l) (numbers_back xs)

  abbrev those : List ℕ
  those = filter (is_cascaded st) (numbers (elements_of scene))

  found_now : found ≡ map now_styled those
  found_now = is ∙ results-now st sound.valid all

  -- the numbers
  pub found-numbers : map number_of found ≡ filter (is_cascaded st) (numbers (elements_of scene))
  found-numbers = ap (map number_of) found_now ∙ numbers_back those

  pub found-once : IsDistinct nat_eq (map number_of found)
  found-once = subst (IsDistinct nat_eq) (sym found-numbers) (distinct-cascaded st sound.valid)

  pub found-elements : AllByRecursion (λ one. IsElement (elements_of scene) (number_of one)) found
  found-elements =
      subst (AllByRecursion (λ one. IsElement (elements_of scene) (number_of one))) (sym found_now)
      (each-map (λ one. IsElement (elements_of scene) (number_of one)) now_styled those (each-filter (IsElement (elements_of scene)) (IsElement (elements_of scene)) (is_cascaded st) (λ x _ there.
      there) (numbers (elements_of scene)) (each_number (elements_of scene))))

  -- the counts
  pub found-cascaded : length found ≡ cascaded_count st
  found-cascaded = ap length is ∙ length-results st sound.valid all

  pub found-matched : length (filter (λ (one : Styled). one.matched) found) ≡ matched_count st
  found-matched = ap (λ l. length (filter (λ (one : Styled). one.matched) l)) is ∙ matched-results st sound.valid all

  -- the styles, once they stand at their places

  placed_now : (now : ℕ → Option Style) → ((x : ℕ) → IsElement (elements_of scene) x → now x ≡ option_or (result_at found x) (slot x)) → (x : ℕ) → IsElement (elements_of scene) x
      → now x ≡ Some (style_in scene x)
  placed_now now h x there =
      h x there
      ∙ (ap (λ l. option_or (result_at l x) (slot x)) is
      ∙ (ap (option_or (result_at (results st) x)) (sym (listed-placed slot scene.document sound x there))
      ∙ committed-now st sound.valid all x there))

  pub restyled-with : (none : List ℕ) (calm : ℕ → Bool) → none ≡ [] → ((x : ℕ) → calm x ≡ false) → (now : ℕ → Option Style) (list : List ℕ)
      → ((x : ℕ) → IsElement (elements_of scene) x → now x ≡ option_or (result_at found x) (slot x)) → list ≡ map number_of found → standing_with scene none calm now list ≡ restyled st
  restyled-with none calm m f now list h e =
      restyled-of scene none calm m f marks fresh slot recent now list (placed_now now h) (e ∙ found-numbers)

-- what a restyle leaves keeps its style, and what it did not cascade keeps the style that it had

pub keeps-restyled : (st now : Standing) → IsSound st.scene.document → now ≡ restyled st → AllKeep now
keeps-restyled st now sound is = subst AllKeep (sym is) (keep-restyled st sound)

pub others-restyled : (st now : Standing) → IsSound st.scene.document → AllKeep st → now ≡ restyled st → (x : ℕ) → IsElement (elements_of now.scene) x → is_in x now.recent ≡ false
    → kept_at now x ≡ kept_at st x
others-restyled st now sound all is =
    subst (λ (n : Standing). (x : ℕ) → IsElement (elements_of n.scene) x → is_in x n.recent ≡ false → kept_at n x ≡ kept_at st x) (sym is)
    (λ x there h. kept-others st sound all x there (sym (among-numbers (elements_of st.scene) (is_cascaded st) x there) ∙ h))
