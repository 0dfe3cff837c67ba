-- The marks are told from what is touched and the elements after the edit; and where the two documents are one, nothing is touched.
use Rattle.std.proofs.Common.{◌≡◌, ℕ, List, [], ◌∷◌, Bool, true, false, not, ◌&&◌, ◌||◌, Option, Some, None, refl, sym, ap, ◌∙◌}
use Rattle.std.specs.Prelude.{codes}
use Rattle.std.specs.Bool.{beq}
use Rattle.std.specs.Cmp.{booleans_Decides}
use Rattle.std.specs.List.{list_any}
use Rattle.std.specs.Option.{option_map_or}
use Rattle.std.proofs.lemmas.Bool.{and_left, and_right, not_from_true, not-false}
use Rattle.std.proofs.lemmas.Slice.Eq.{bytes_eq-Decides}
use Rattle.base_model.specs.Text.{Characters, same_text}
use Rattle.scene_model.specs.Element.{Element}
use Rattle.scene_model.specs.Lookups.{is_element, IsElement, parent_of, children, tag_of, attribute_of, has_class, state_of, numbers}
use Rattle.selector_model.specs.Selector.{Selector, id_selector}
use Rattle.selector_model.specs.Key.{Key, id_key, class_key, type_key, any_key, key_of}
use Rattle.selector_model.specs.Bears.{bears}
use Rattle.selector_model.specs.Holds.{is_id, passes}
use Rattle.edit_model.specs.Touched.{Touch, attribute, id, class, state, positional, sibling, empty, in_both, same_optional, list_changed, attribute_changed, is_touched}
use Rattle.edit_model.specs.Dependencies.{dependencies, touch_of}
use Rattle.edit_model.specs.Marked.{bears_in, is_hit, marks_by, style_changed, is_marked}
use Rattle.edit_model.specs.MarkedAfter.{bears_around, marks_after, is_marked_after, is_hit_after}
use Rattle.edit_model.specs.Steady.{SameTags}
use Rattle.edit_model.proofs.Facts.{both_options}

-- of two answers that are one where nothing differs: borne before or after is borne after or different
around : (there p q differs : Bool) → (there ≡ true → differs ≡ false → p ≡ q) → ((there && p) || q) ≡ (q || ((there && differs) && (p || q)))
around false p q differs h = and_or q
  where
    and_or : (c : Bool) → c ≡ (c || false)
    and_or true = refl
    and_or false = refl
around true p true differs h = or_true p
  where
    or_true : (c : Bool) → (c || true) ≡ true
    or_true true = refl
    or_true false = refl
around true true false true h = refl
around true false false true h = refl
around true p false false h = ap (λ c. c || false) (h refl refl)

changed_class : (there p q : Bool) → ((there && p) || q) ≡ (q || (there && not (beq p q)))
changed_class true true true = refl
changed_class true true false = refl
changed_class true false true = refl
changed_class true false false = refl
changed_class false p true = refl
changed_class false p false = refl

or_nothing : (there p q : Bool) → (there ≡ true → p ≡ q) → ((there && p) || q) ≡ (q || false)
or_nothing true p q h = same p q (h refl)
  where
    same : (c d : Bool) → c ≡ d → (c || d) ≡ (d || false)
    same true d e = ap (λ t. t || false) e
    same false true e = refl
    same false false e = refl
or_nothing false p true h = refl
or_nothing false p false h = refl

module _ (a b : List Element) (tags : SameTags a b) (x : ℕ) (after : IsElement b x) where
  there : in_both a b x ≡ is_element a x
  there = ap (λ c. is_element a x && c) after ∙ and_true (is_element a x)
    where
      and_true : (c : Bool) → (c && true) ≡ c
      and_true true = refl
      and_true false = refl

  now_alone : (key : Key) → (bears_in a key x || bears_in b key x) ≡ ((is_element a x && bears a key x) || bears b key x)
  now_alone key = ap (λ c. bears_in a key x || (c && bears b key x)) after

  values_same : (name : Characters) → not (same_optional (attribute_of a x name) (attribute_of b x name)) ≡ false → attribute_of a x name ≡ attribute_of b x name
  values_same name h = both_options _ _ (not-false (same_optional (attribute_of a x name) (attribute_of b x name)) h)

  -- the key before, without the document before
  pub bears_around_same : (key : Key) → (bears_in a key x || bears_in b key x) ≡ bears_around (is_touched a b) b key x
  bears_around_same (id_key name) =
      now_alone (id_key name)
      ∙ (around (is_element a x) (passes a (id_selector name) x) (passes b (id_selector name) x) (not (same_optional (attribute_of a x (codes "id")) (attribute_of b x (codes "id")))) (λ _ k. ap (λ o. option_map_or (is_id name) o false) (values_same (codes "id") k))
      ∙ ap (λ c. passes b (id_selector name) x || ((c && not (same_optional (attribute_of a x (codes "id")) (attribute_of b x (codes "id")))) && (passes a (id_selector name) x || passes b (id_selector name) x))) (sym there))
  bears_around_same (class_key name) =
      now_alone (class_key name)
      ∙ (changed_class (is_element a x) (has_class a x name) (has_class b x name)
      ∙ ap (λ c. has_class b x name || (c && not (beq (has_class a x name) (has_class b x name)))) (sym there))
  bears_around_same (type_key tag) =
      now_alone (type_key tag)
      ∙ or_nothing (is_element a x) (same_text (tag_of a x) tag) (same_text (tag_of b x) tag) (λ k. ap (λ t. same_text t tag) (tags x k after))
  bears_around_same any_key = now_alone any_key ∙ or_nothing (is_element a x) true true (λ _. refl)

  marks_same : (selector : Selector) → marks_by a b selector x ≡ marks_after (is_touched a b) b selector x
  marks_same selector = ap (λ c. c && list_any (λ d. is_hit a b d x) (dependencies selector)) (bears_around_same (key_of selector))

  each_marks_same : (selectors : List Selector) → list_any (λ selector. marks_by a b selector x) selectors ≡ list_any (λ selector. marks_after (is_touched a b) b selector x) selectors
  each_marks_same [] = refl
  each_marks_same (selector ∷ rest) =
      ap (λ c. c || list_any (λ other. marks_by a b other x) rest) (marks_same selector)
      ∙ ap (λ c. marks_after (is_touched a b) b selector x || c) (each_marks_same rest)

pub is_marked_same : (a b : List Element) → SameTags a b → (selectors : List Selector) (x : ℕ) → is_marked a b selectors x ≡ is_marked_after (is_touched a b) b selectors x
is_marked_same a b tags selectors x = at_element (is_element b x) refl
  where
    at_element : (c : Bool) → is_element b x ≡ c → (c && (style_changed a b x || list_any (λ selector. marks_by a b selector x) selectors)) ≡ (c && (style_changed a b x || list_any (λ selector. marks_after (is_touched a b) b selector x) selectors))
    at_element true e = ap (λ c. style_changed a b x || c) (each_marks_same a b tags x e selectors)
    at_element false e = refl

-- one document

pub same_value_at : (o : Option Characters) → same_optional o o ≡ true
same_value_at None = refl
same_value_at (Some value) = (bytes_eq-Decides value value).1 refl

not_different : (there c : Bool) → c ≡ true → (there && not c) ≡ false
not_different there c h = and_right there (not c) (not_from_true c h)

list_unchanged : (doc : List Element) (p : ℕ) → list_changed doc doc p ≡ false
list_unchanged doc p = not_different (in_both doc doc p) _ ((bytes_eq-Decides (children doc p) (children doc p)).1 refl)

none_changed : (doc : List Element) (o : Option ℕ) → option_map_or (list_changed doc doc) o false ≡ false
none_changed doc None = refl
none_changed doc (Some p) = list_unchanged doc p

unchanged_value : (doc : List Element) (name : Characters) (y : ℕ) → attribute_changed doc doc name y ≡ false
unchanged_value doc name y = not_different (in_both doc doc y) _ (same_value_at (attribute_of doc y name))

pub untouched : (doc : List Element) (k : Touch) (y : ℕ) → is_touched doc doc k y ≡ false
untouched doc (attribute name) y = unchanged_value doc name y
untouched doc (id name) y = and_left _ _ (unchanged_value doc (codes "id") y)
untouched doc (class name) y = not_different (in_both doc doc y) _ ((booleans_Decides (has_class doc y name) (has_class doc y name)).1 refl)
untouched doc (state s) y = not_different (in_both doc doc y) _ ((booleans_Decides (state_of doc y s) (state_of doc y s)).1 refl)
untouched doc positional y = none_changed doc (parent_of doc y)
untouched doc sibling y = none_changed doc (parent_of doc y)
untouched doc empty y = list_unchanged doc y

-- what answers as is_touched does tells the marks
pub is_marked_by : (a b : List Element) → SameTags a b → (touched : Touch → ℕ → Bool) → ((k : Touch) (y : ℕ) → touched k y ≡ is_touched a b k y) → (selectors : List Selector) (x : ℕ) → is_marked a b selectors x ≡ is_marked_after touched b selectors x
is_marked_by a b tags touched same selectors x =
    is_marked_same a b tags selectors x
    ∙ ap (λ (t : Touch → ℕ → Bool). is_marked_after t b selectors x) (λ i. λ k y. sym (same k y) i)

-- an edit that leaves the document as it is marks nothing

pub never : {X : Type 0} (xs : List X) → list_any (λ _. false) xs ≡ false
never [] = refl
never (x ∷ xs) = never xs

pub never_by : {X : Type 0} (f : X → Bool) → ((x : X) → f x ≡ false) → (xs : List X) → list_any f xs ≡ false
never_by f h [] = refl
never_by f h (x ∷ xs) = ap (λ c. c || list_any f xs) (h x) ∙ never_by f h xs

no_hit : (doc : List Element) (o : Option Touch) → option_map_or (λ k. list_any (λ y. false) (numbers doc)) o false ≡ false
no_hit doc None = refl
no_hit doc (Some k) = never (numbers doc)

pub marks_nothing : (doc : List Element) (selectors : List Selector) (x : ℕ) → is_marked doc doc selectors x ≡ false
marks_nothing doc selectors x =
    is_marked_by doc doc (λ y _ _. refl) (λ _ _. false) (λ k y. sym (untouched doc k y)) selectors x
    ∙ and_right (is_element doc x) _ (never_by (λ selector. marks_after (λ _ _. false) doc selector x) (λ selector. and_right _ _ (never_by (λ d. is_hit_after (λ _ _. false) doc d x) (λ d. no_hit doc (touch_of d.part)) (dependencies selector))) selectors)
