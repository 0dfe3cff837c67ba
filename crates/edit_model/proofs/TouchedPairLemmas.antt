-- The list of the pairs that an edit touches has exactly those, each once.
use Rattle.std.proofs.Common.{◌≡◌, ℕ, ◌+◌, ◌*◌, ◌==◌, nat_eq, List, [], ◌∷◌, ◌++◌, map, filter, length, append-nil, Bool, true, false, not, ◌&&◌, ◌||◌, cond, Option, Some, None, option_to_list, refl, sym, ap, ◌∙◌, arith}
use Rattle.std.specs.Prelude.{codes}
use Rattle.std.specs.Bool.{beq}
use Rattle.std.specs.Cmp.{booleans_Decides}
use Rattle.std.specs.List.{AllByRecursion, IsDistinct, flat_map, list_any}
use Rattle.std.specs.Option.{option_map_or}
use Rattle.std.proofs.lemmas.Bool.{and_left, and_right, eqb-true, false_from_ne_true, false≢true, or_from}
use Rattle.std.proofs.lemmas.List.Folds.{list_any-append}
use Rattle.std.proofs.lemmas.Option.{none-some}
use Rattle.std.proofs.lemmas.Slice.Eq.{bytes_eq-Decides}
use Rattle.std.proofs.Math.Bool.{or-false, and-true}
use Rattle.base_model.specs.Text.{Characters, same_text, is_empty_text}
use Rattle.base_model.proofs.Lists.{each_any, each_weaker, each-map}
use Rattle.scene_model.specs.Element.{Element, State, hover_state, active_state, focus_state}
use Rattle.scene_model.specs.Lookups.{IsElement, parent_of, children, attribute_of, state_of}
use Rattle.scene_model.specs.Document.{Document}
use Rattle.scene_model.specs.Valid.{IsValid}
use Rattle.scene_model.proofs.Found.{any-map, each_child-parent}
use Rattle.scene_model.proofs.Lists.{each-flat_map}
use Rattle.scene_model.proofs.Numbers.{is_in, same_number, any-filter_wider}
use Rattle.selector_model.specs.Selector.{Selector}
use Rattle.change_model.proofs.Distinct.{distinct-filter_by}
use Rattle.change_model.proofs.Ends.{child_in, in_child, distinct_children}
use Rattle.change_model.specs.Sound.{IsSound}
use Rattle.change_model.specs.ChildLists.{moved}
use Rattle.change_model.specs.Fresh.{is_still}
use Rattle.edit_model.specs.Edit.{DocEdit, insert, remove, move, set, unset, set_state, IsShaped}
use Rattle.edit_model.specs.Apply.{after, refusal}
use Rattle.edit_model.specs.Touched.{Touch, attribute, id, class, state, positional, sibling, empty, same_optional}
use Rattle.edit_model.specs.TouchedBy.{same_state, has_id, has_class_in, by_attribute, by_state, changed_parents, by_lists, is_touched_by, same_touch, same_pair, is_listed, AreTouched}
use Rattle.edit_model.specs.Marked.{is_marked}
use Rattle.edit_model.specs.MarkedAfter.{is_marked_after}
use Rattle.edit_model.specs.Steady.{SameTags}
use Rattle.edit_model.specs.TouchedPairs.{each_once, words_in, ids_among, classes_between, value_touches, state_touches, at_element, child_pairs, parent_pairs, touched_pairs}
use Rattle.edit_model.proofs.Accepted.{sound-after}
use Rattle.edit_model.proofs.AfterLemmas.{never, never_by, is_marked_by}
use Rattle.edit_model.proofs.Facts.{both_options}
use Rattle.edit_model.proofs.Lists.{equal_turned, any-filter_both, each_apart, distinct-append, distinct-map}
use Rattle.edit_model.proofs.TouchedLemmas.{touched-edit, touched-set, touched-unset, touched-set_state}

-- texts

pub text_turned : (a b : Characters) → same_text a b ≡ same_text b a
text_turned a b = by (same_text a b) refl
  where
    by : (c : Bool) → same_text a b ≡ c → c ≡ same_text b a
    by true e = sym ((bytes_eq-Decides b a).1 (sym ((bytes_eq-Decides a b).0 e)))
    by false e =
        sym (false_from_ne_true (same_text b a) (λ h. false≢true (sym e ∙ (bytes_eq-Decides a b).1 (sym ((bytes_eq-Decides b a).0 h)))))

-- a test that is asked of one text alone
of_one : (f : Characters → Bool) (n name : Characters) → (same_text n name && f n) ≡ (same_text n name && f name)
of_one f n name = by (same_text n name) refl
  where
    by : (c : Bool) → same_text n name ≡ c → (c && f n) ≡ (c && f name)
    by true e = ap f ((bytes_eq-Decides n name).0 e)
    by false e = refl

any_of_one : (f : Characters → Bool) (n : Characters) (texts : List Characters) → list_any (λ text. f text && same_text n text) texts ≡ (f n && list_any (same_text n) texts)
any_of_one f n [] = sym (and_right (f n) false refl)
any_of_one f n (text ∷ rest) =
    ap (λ r. (f text && same_text n text) || r) (any_of_one f n rest)
    ∙ here (f text) (f n) (same_text n text) (list_any (same_text n) rest) (λ e. ap f (sym ((bytes_eq-Decides n text).0 e)))
  where
    here : (a b c r : Bool) → (c ≡ true → a ≡ b) → ((a && c) || (b && r)) ≡ (b && (c || r))
    here true true true r h = refl
    here true true false r h = refl
    here true false true r h = absurd (cc (h refl))
    here true false false r h = refl
    here false true true r h = absurd (cc (h refl))
    here false true false r h = refl
    here false false c r h = refl

-- each once

pub any-once : (n : Characters) (texts : List Characters) → list_any (same_text n) (each_once texts) ≡ list_any (same_text n) texts
any-once n [] = refl
any-once n (text ∷ rest) = by (same_text n text) refl (any-once n rest)
  where
    by : (c : Bool) → same_text n text ≡ c → list_any (same_text n) (each_once rest) ≡ list_any (same_text n) rest → (c || list_any (same_text n) (filter (λ other. not (same_text text other)) (each_once rest))) ≡ (c || list_any (same_text n) rest)
    by true e r = refl
    by false e r =
        any-filter_wider (same_text n) (λ other. not (same_text text other)) (λ other h. ap not (ap (same_text text) (sym ((bytes_eq-Decides n other).0 h)) ∙ (text_turned text n ∙ e))) (each_once rest)
        ∙ r

distinct-once : (texts : List Characters) → IsDistinct same_text (each_once texts)
unfolding IsDistinct
distinct-once [] = tt
distinct-once (text ∷ rest) =
    (each_apart (same_text text) (filter (λ other. not (same_text text other)) (each_once rest)) (any-filter_both (same_text text) (λ other. not (same_text text other)) (each_once rest) ∙ never_by (λ other. not (same_text text other) && same_text text other) (λ other. not_both (same_text text other)) (each_once rest)), distinct-filter_by same_text (λ other. not (same_text text other)) (each_once rest) (distinct-once rest))
  where
    not_both : (c : Bool) → (not c && c) ≡ false
    not_both true = refl
    not_both false = refl

-- ids and classes

id_in : (n value : Characters) → (not (is_empty_text value) && same_text n value) ≡ has_id n (Some value)
id_in n value = ap (λ c. not (is_empty_text value) && c) (text_turned n value)

any-ids : (n : Characters) (before now : Option Characters) → list_any (same_text n) (ids_among before now) ≡ (has_id n before || has_id n now)
any-ids n before now =
    any-filter_both (same_text n) (λ value. not (is_empty_text value)) (option_to_list before ++ option_to_list now)
    ∙ by before now
  where
    by : (before now : Option Characters) → list_any (λ value. not (is_empty_text value) && same_text n value) (option_to_list before ++ option_to_list now) ≡ (has_id n before || has_id n now)
    by None None = refl
    by None (Some new) = or-false _ ∙ id_in n new
    by (Some old) None = ap (λ c. c || false) (id_in n old)
    by (Some old) (Some new) =
        ap (λ c. c || ((not (is_empty_text new) && same_text n new) || false)) (id_in n old)
        ∙ ap (λ c. has_id n (Some old) || c) (or-false _ ∙ id_in n new)

distinct-ids : (before now : Option Characters) → same_optional before now ≡ false → IsDistinct same_text (ids_among before now)
unfolding IsDistinct
distinct-ids before now differ =
    distinct-filter_by same_text (λ value. not (is_empty_text value)) (option_to_list before ++ option_to_list now) (by before now differ)
  where
    by : (before now : Option Characters) → same_optional before now ≡ false → IsDistinct same_text (option_to_list before ++ option_to_list now)
    by None None h = tt
    by None (Some new) h = (tt, tt)
    by (Some old) None h = (tt, tt)
    by (Some old) (Some new) h = ((h, tt), (tt, tt))

any-words : (n : Characters) (value : Option Characters) → list_any (same_text n) (words_in value) ≡ has_class_in n value
any-words n None = refl
any-words n (Some value) = refl

any-classes : (n : Characters) (before now : Option Characters) → list_any (same_text n) (classes_between before now) ≡ not (beq (has_class_in n before) (has_class_in n now))
any-classes n before now =
    let differs = λ (word : Characters). not (beq (has_class_in word before) (has_class_in word now)) in
    let all = words_in before ++ words_in now in
    any-filter_both (same_text n) differs (each_once all)
    ∙ (any_of_one differs n (each_once all)
    ∙ (ap (λ c. differs n && c) (any-once n all ∙ (list_any-append (same_text n) (words_in before) (words_in now) ∙ (ap (λ c. c || list_any (same_text n) (words_in now)) (any-words n before) ∙ ap (λ c. has_class_in n before || c) (any-words n now))))
    ∙ in_one (has_class_in n before) (has_class_in n now)))
  where
    in_one : (a b : Bool) → (not (beq a b) && (a || b)) ≡ not (beq a b)
    in_one true true = refl
    in_one true false = refl
    in_one false true = refl
    in_one false false = refl

distinct-classes : (before now : Option Characters) → IsDistinct same_text (classes_between before now)
distinct-classes before now =
    distinct-filter_by same_text (λ word. not (beq (has_class_in word before) (has_class_in word now))) (each_once (words_in before ++ words_in now)) (distinct-once (words_in before ++ words_in now))

-- the touches of a value

module _ (name : Characters) (before now : Option Characters) where
  -- what by_attribute asks, of the two values alone
  abbrev by_values : Bool → Touch → Bool
  by_values same (attribute n) = same_text n name && not same
  by_values same (id n) = same_text (codes "id") name && (not same && (has_id n before || has_id n now))
  by_values same (class n) = same_text (codes "class") name && not (beq (has_class_in n before) (has_class_in n now))
  by_values same touch = false

  abbrev id_part : Bool → List Touch
  id_part c = cond c (map id (ids_among before now)) []

  abbrev class_part : Bool → List Touch
  class_part c = cond c (map class (classes_between before now)) []

  no_id : (touch : Touch) → list_any (λ n. same_touch touch (id n)) (ids_among before now) ≡ false → (c : Bool) → list_any (same_touch touch) (id_part c) ≡ false
  no_id touch h true = any-map (same_touch touch) id (ids_among before now) ∙ h
  no_id touch h false = refl

  no_class : (touch : Touch) → list_any (λ n. same_touch touch (class n)) (classes_between before now) ≡ false → (c : Bool) → list_any (same_touch touch) (class_part c) ≡ false
  no_class touch h true = any-map (same_touch touch) class (classes_between before now) ∙ h
  no_class touch h false = refl

  in_ids : (n : Characters) (c : Bool) → list_any (same_touch (id n)) (id_part c) ≡ (c && (has_id n before || has_id n now))
  in_ids n true = any-map (same_touch (id n)) id (ids_among before now) ∙ any-ids n before now
  in_ids n false = refl

  in_classes : (n : Characters) (c : Bool) → list_any (same_touch (class n)) (class_part c) ≡ (c && not (beq (has_class_in n before) (has_class_in n now)))
  in_classes n true = any-map (same_touch (class n)) class (classes_between before now) ∙ any-classes n before now
  in_classes n false = refl

  abbrev is_id_name : Bool
  is_id_name = same_text (codes "id") name

  abbrev is_class_name : Bool
  is_class_name = same_text (codes "class") name

  abbrev parts : List Touch
  parts = id_part is_id_name ++ class_part is_class_name

  in_parts : (touch : Touch) (b c : Bool) → list_any (same_touch touch) (id_part is_id_name) ≡ b → list_any (same_touch touch) (class_part is_class_name) ≡ c → list_any (same_touch touch) parts ≡ (b || c)
  in_parts touch b c e f =
      list_any-append (same_touch touch) (id_part is_id_name) (class_part is_class_name)
      ∙ (ap (λ r. r || list_any (same_touch touch) (class_part is_class_name)) e ∙ ap (λ r. b || r) f)

  neither : (touch : Touch) → list_any (λ n. same_touch touch (id n)) (ids_among before now) ≡ false → list_any (λ n. same_touch touch (class n)) (classes_between before now) ≡ false → list_any (same_touch touch) parts ≡ false
  neither touch h k = in_parts touch false false (no_id touch h is_id_name) (no_class touch k is_class_name)

  where_same : same_optional before now ≡ true → (touch : Touch) → false ≡ by_values true touch
  where_same e (attribute n) = sym (and_right (same_text n name) false refl)
  where_same e (id n) = sym (and_right is_id_name false refl)
  where_same e (class n) =
      sym (and_right is_class_name _ (ap not ((booleans_Decides (has_class_in n before) (has_class_in n now)).1 (ap (has_class_in n) (both_options before now e)))))
  where_same e (state s) = refl
  where_same e positional = refl
  where_same e sibling = refl
  where_same e empty = refl

  where_other : (touch : Touch) → list_any (same_touch touch) (attribute name ∷ parts) ≡ by_values false touch
  where_other (attribute n) =
      ap (λ c. same_text n name || c) (neither (attribute n) (never (ids_among before now)) (never (classes_between before now)))
      ∙ (or-false (same_text n name) ∙ sym (and-true (same_text n name)))
  where_other (id n) =
      in_parts (id n) _ false (in_ids n is_id_name) (no_class (id n) (never (classes_between before now)) is_class_name)
      ∙ or-false _
  where_other (class n) =
      in_parts (class n) false _ (no_id (class n) (never (ids_among before now)) is_id_name) (in_classes n is_class_name)
  where_other (state s) = neither (state s) (never (ids_among before now)) (never (classes_between before now))
  where_other positional = neither positional (never (ids_among before now)) (never (classes_between before now))
  where_other sibling = neither sibling (never (ids_among before now)) (never (classes_between before now))
  where_other empty = neither empty (never (ids_among before now)) (never (classes_between before now))

  any-value : (touch : Touch) → list_any (same_touch touch) (value_touches name before now) ≡ by_values (same_optional before now) touch
  any-value touch = by (same_optional before now) refl
    where
      by : (c : Bool) → same_optional before now ≡ c → list_any (same_touch touch) (cond c [] (attribute name ∷ parts)) ≡ by_values c touch
      by true e = where_same e touch
      by false e = where_other touch

  distinct_ids : same_optional before now ≡ false → (c : Bool) → IsDistinct same_touch (id_part c)
  unfolding IsDistinct
  distinct_ids differ true = distinct-map same_text same_touch id (λ a b h. h) (ids_among before now) (distinct-ids before now differ)
  distinct_ids differ false = tt

  distinct_classes : (c : Bool) → IsDistinct same_touch (class_part c)
  unfolding IsDistinct
  distinct_classes true = distinct-map same_text same_touch class (λ a b h. h) (classes_between before now) (distinct-classes before now)
  distinct_classes false = tt

  each_id : (P : Touch → Type 0) → ((n : Characters) → P (id n)) → (c : Bool) → AllByRecursion P (id_part c)
  each_id P h true = each-map P id (ids_among before now) (each_any (λ n. P (id n)) h (ids_among before now))
  each_id P h false = tt

  distinct-value : IsDistinct same_touch (value_touches name before now)
  unfolding IsDistinct
  distinct-value = by (same_optional before now) refl
    where
      by : (c : Bool) → same_optional before now ≡ c → IsDistinct same_touch (cond c [] (attribute name ∷ parts))
      by true e = tt
      by false e =
          (each_apart (same_touch (attribute name)) parts (neither (attribute name) (never (ids_among before now)) (never (classes_between before now))), distinct-append same_touch (id_part is_id_name) (class_part is_class_name) (distinct_ids e is_id_name) (distinct_classes is_class_name) (each_id (λ touch. list_any (same_touch touch) (class_part is_class_name) ≡ false) (λ n. no_class (id n) (never (classes_between before now)) is_class_name) is_id_name))

-- at one element

module _ (x : ℕ) where
  any-at_element : (touch : Touch) (y : ℕ) (touches : List Touch) → list_any (same_pair (touch, y)) (at_element x touches) ≡ ((y == x) && list_any (same_touch touch) touches)
  any-at_element touch y [] = sym (and_right (y == x) false refl)
  any-at_element touch y (one ∷ rest) =
      ap (λ r. (same_touch touch one && (y == x)) || r) (any-at_element touch y rest)
      ∙ both (same_touch touch one) (y == x) (list_any (same_touch touch) rest)
    where
      both : (a b r : Bool) → ((a && b) || (b && r)) ≡ (b && (a || r))
      both true true r = refl
      both true false r = refl
      both false true r = refl
      both false false r = refl

  distinct-at_element : (touches : List Touch) → IsDistinct same_touch touches → IsDistinct same_pair (at_element x touches)
  distinct-at_element touches d =
      distinct-map same_touch same_pair (λ touch. (touch, x)) (λ a b h. and_left (same_touch a b) (x == x) h) touches d

by_attribute-values : (doc : List Element) (x : ℕ) (name : Characters) (now : Option Characters) (touch : Touch) → by_attribute doc x name now touch ≡ by_values name (attribute_of doc x name) now (same_optional (attribute_of doc x name) now) touch
by_attribute-values doc x name now (attribute n) = of_one (λ m. not (same_optional (attribute_of doc x m) now)) n name
by_attribute-values doc x name now (id n) =
    of_one (λ m. not (same_optional (attribute_of doc x m) now) && (has_id n (attribute_of doc x m) || has_id n now)) (codes "id") name
by_attribute-values doc x name now (class n) =
    of_one (λ m. not (beq (has_class_in n (attribute_of doc x m)) (has_class_in n now))) (codes "class") name
by_attribute-values doc x name now (state s) = refl
by_attribute-values doc x name now positional = refl
by_attribute-values doc x name now sibling = refl
by_attribute-values doc x name now empty = refl

any-attribute : (doc : List Element) (x : ℕ) (name : Characters) (now : Option Characters) (touch : Touch) (y : ℕ) → list_any (same_pair (touch, y)) (at_element x (value_touches name (attribute_of doc x name) now)) ≡ ((y == x) && by_attribute doc x name now touch)
any-attribute doc x name now touch y =
    any-at_element x touch y (value_touches name (attribute_of doc x name) now)
    ∙ ap (λ c. (y == x) && c) (any-value name (attribute_of doc x name) now touch ∙ sym (by_attribute-values doc x name now touch))

-- a state

state_pair : (t s : State) (f : State → Bool) → (same_touch (state t) (state s) && f s) ≡ (same_state t s && f t)
state_pair hover_state hover_state f = refl
state_pair hover_state active_state f = refl
state_pair hover_state focus_state f = refl
state_pair active_state hover_state f = refl
state_pair active_state active_state f = refl
state_pair active_state focus_state f = refl
state_pair focus_state hover_state f = refl
state_pair focus_state active_state f = refl
state_pair focus_state focus_state f = refl

one_state : (touch : Touch) (s : State) (c : Bool) → list_any (same_touch touch) (cond c [] (state s ∷ [])) ≡ (same_touch touch (state s) && not c)
one_state touch s true = sym (and_right (same_touch touch (state s)) false refl)
one_state touch s false = or_and (same_touch touch (state s))
  where
    or_and : (c : Bool) → (c || false) ≡ (c && true)
    or_and true = refl
    or_and false = refl

any-state : (doc : List Element) (x : ℕ) (s : State) (on : Bool) (touch : Touch) → list_any (same_touch touch) (state_touches s (state_of doc x s) on) ≡ by_state doc x s on touch
any-state doc x s on (state t) =
    one_state (state t) s (beq (state_of doc x s) on) ∙ state_pair t s (λ u. not (beq (state_of doc x u) on))
any-state doc x s on (attribute n) = one_state (attribute n) s (beq (state_of doc x s) on)
any-state doc x s on (id n) = one_state (id n) s (beq (state_of doc x s) on)
any-state doc x s on (class n) = one_state (class n) s (beq (state_of doc x s) on)
any-state doc x s on positional = one_state positional s (beq (state_of doc x s) on)
any-state doc x s on sibling = one_state sibling s (beq (state_of doc x s) on)
any-state doc x s on empty = one_state empty s (beq (state_of doc x s) on)

distinct-state : (s : State) (before now : Bool) → IsDistinct same_touch (state_touches s before now)
unfolding IsDistinct
distinct-state s before now = by (beq before now)
  where
    by : (c : Bool) → IsDistinct same_touch (cond c [] (state s ∷ []))
    by true = tt
    by false = (tt, tt)

-- the children of a parent

-- the touches of a child
abbrev of_child : Touch → Bool
of_child touch = same_touch touch positional || same_touch touch sibling

any-child : (touch : Touch) (y : ℕ) (cs : List ℕ) → list_any (same_pair (touch, y)) (flat_map child_pairs cs) ≡ (of_child touch && is_in y cs)
any-child touch y [] = sym (and_right (of_child touch) false refl)
any-child touch y (c ∷ cs) =
    ap (λ r. (same_touch touch positional && (y == c)) || ((same_touch touch sibling && (y == c)) || r)) (any-child touch y cs)
    ∙ (all (same_touch touch positional) (same_touch touch sibling) (y == c) (is_in y cs)
    ∙ ap (λ b. of_child touch && (b || is_in y cs)) (equal_turned y c))
  where
    all : (p s e r : Bool) → ((p && e) || ((s && e) || ((p || s) && r))) ≡ ((p || s) && (e || r))
    all true true true r = refl
    all true true false r = refl
    all true false true r = refl
    all true false false r = refl
    all false true true r = refl
    all false true false r = refl
    all false false e r = refl

none_of : (x : ℕ) (xs : List ℕ) → AllByRecursion (λ y. nat_eq x y ≡ false) xs → is_in x xs ≡ false
none_of x [] h = refl
none_of x (y ∷ ys) h = or_from (y == x) (is_in x ys) (equal_turned y x ∙ h.0) (none_of x ys h.1)

distinct-child : (cs : List ℕ) → IsDistinct nat_eq cs → IsDistinct same_pair (flat_map child_pairs cs)
unfolding IsDistinct
distinct-child [] d = tt
distinct-child (c ∷ cs) d =
    let rest = flat_map child_pairs cs in
    let absent = none_of c cs d.0 in
    ((refl, each_apart (same_pair (positional, c)) rest (any-child positional c cs ∙ absent)), (each_apart (same_pair (sibling, c)) rest (any-child sibling c cs ∙ absent), distinct-child cs d.1))

distinct-parent : (now : List Element) → IsValid now → (p : ℕ) → IsDistinct same_pair (parent_pairs now p)
unfolding IsDistinct
distinct-parent now v p =
    (each_apart (same_pair (empty, p)) (flat_map child_pairs (children now p)) (any-child empty p (children now p)), distinct-child (children now p) (distinct_children now v p))

-- so 2m + 1 pairs for m children
length-child : (cs : List ℕ) → length (flat_map child_pairs cs) ≡ 2 * length cs
length-child [] = refl
length-child (c ∷ cs) = omega (arith, length-child cs)

pub length-parent : (now : List Element) (p : ℕ) → length (parent_pairs now p) ≡ 2 * length (children now p) + 1
length-parent now p = omega (arith, length-child (children now p))

module _ (now : List Element) (v : IsValid now) where
  is_child : (p y : ℕ) → is_in y (children now p) ≡ option_map_or (λ q. p == q) (parent_of now y) false
  is_child p y = by (parent_of now y) refl
    where
      by_number : (q : ℕ) (c : Bool) → (p == q) ≡ c → parent_of now y ≡ Some q → is_in y (children now p) ≡ c
      by_number q true e f = child_in now v p y (f ∙ ap Some (sym (eqb-true p q e)))
      by_number q false e f =
          false_from_ne_true (is_in y (children now p)) (λ h.
          let same : Some q ≡ Some p = sym f ∙ in_child now v p y h in
          let is : q ≡ p = cc in
          false≢true (sym e ∙ (ap (λ z. p == z) is ∙ same_number p)))

      by : (o : Option ℕ) → parent_of now y ≡ o → is_in y (children now p) ≡ option_map_or (λ q. p == q) o false
      by None f =
          false_from_ne_true (is_in y (children now p)) (λ h. none-some p (sym f ∙ in_child now v p y h))
      by (Some q) f = by_number q (p == q) refl f

  under_one : (p : ℕ) (ps : List ℕ) (o : Option ℕ) → option_map_or (λ q. is_in q (p ∷ ps)) o false ≡ (option_map_or (λ q. p == q) o false || option_map_or (λ q. is_in q ps) o false)
  under_one p ps None = refl
  under_one p ps (Some q) = refl

  abbrev under_some : List ℕ → ℕ → Bool
  under_some ps y = option_map_or (λ q. is_in q ps) (parent_of now y) false

  any-parents : (touch : Touch) (y : ℕ) (ps : List ℕ) → list_any (same_pair (touch, y)) (flat_map (parent_pairs now) ps) ≡ ((same_touch touch empty && is_in y ps) || (of_child touch && under_some ps y))
  any-parents touch y [] =
      sym (or_from _ _ (and_right (same_touch touch empty) false refl) (and_right (of_child touch) (under_some [] y) (under_none (parent_of now y))))
    where
      under_none : (o : Option ℕ) → option_map_or (λ q. is_in q []) o false ≡ false
      under_none None = refl
      under_none (Some q) = refl
  any-parents touch y (p ∷ ps) =
      list_any-append (same_pair (touch, y)) (parent_pairs now p) (flat_map (parent_pairs now) ps)
      ∙ (ap (λ r. list_any (same_pair (touch, y)) (parent_pairs now p) || r) (any-parents touch y ps)
      ∙ (ap (λ r. ((same_touch touch empty && (y == p)) || r) || ((same_touch touch empty && is_in y ps) || (of_child touch && under_some ps y))) (any-child touch y (children now p) ∙ ap (λ b. of_child touch && b) (is_child p y))
      ∙ (ap (λ e. ((same_touch touch empty && e) || (of_child touch && option_map_or (λ q. p == q) (parent_of now y) false)) || ((same_touch touch empty && is_in y ps) || (of_child touch && under_some ps y))) (equal_turned y p)
      ∙ (joined (same_touch touch empty) (of_child touch) (p == y) (is_in y ps) (option_map_or (λ q. p == q) (parent_of now y) false) (under_some ps y)
      ∙ ap (λ t. (same_touch touch empty && is_in y (p ∷ ps)) || (of_child touch && t)) (sym (under_one p ps (parent_of now y)))))))
    where
      joined : (e f a r c t : Bool) → (((e && a) || (f && c)) || ((e && r) || (f && t))) ≡ ((e && (a || r)) || (f && (c || t)))
      joined false false a r c t = refl
      joined false true a r c t = refl
      joined true false true r c t = refl
      joined true false false r false t = refl
      joined true false false r true t = refl
      joined true true true r c t = refl
      joined true true false true true t = refl
      joined true true false false true t = refl
      joined true true false true false t = refl
      joined true true false false false t = refl

  any-lists : (ps : List ℕ) (touch : Touch) (y : ℕ) → list_any (same_pair (touch, y)) (flat_map (parent_pairs now) ps) ≡ by_lists ps now touch y
  any-lists ps (attribute n) y = any-parents (attribute n) y ps
  any-lists ps (id n) y = any-parents (id n) y ps
  any-lists ps (class n) y = any-parents (class n) y ps
  any-lists ps (state s) y = any-parents (state s) y ps
  any-lists ps positional y = any-parents positional y ps
  any-lists ps sibling y = any-parents sibling y ps
  any-lists ps empty y = any-parents empty y ps ∙ or-false (is_in y ps)

  -- the pairs of a parent that is not among others are none of theirs
  apart_from : (p : ℕ) (ps : List ℕ) → is_in p ps ≡ false → AllByRecursion (λ pair. list_any (same_pair pair) (flat_map (parent_pairs now) ps) ≡ false) (parent_pairs now p)
  apart_from p ps absent =
      (any-lists ps empty p ∙ absent, each-flat_map (λ pair. list_any (same_pair pair) (flat_map (parent_pairs now) ps) ≡ false) child_pairs (children now p) (each_weaker (λ c. parent_of now c ≡ Some p) (λ c. AllByRecursion (λ pair. list_any (same_pair pair) (flat_map (parent_pairs now) ps) ≡ false) (child_pairs c)) both (children now p) (each_child-parent now p v.distinct)))
    where
      both : (c : ℕ) → parent_of now c ≡ Some p → AllByRecursion (λ pair. list_any (same_pair pair) (flat_map (parent_pairs now) ps) ≡ false) (child_pairs c)
      both c e =
          let none = ap (λ o. option_map_or (λ q. is_in q ps) o false) e ∙ absent in
          (any-lists ps positional c ∙ none, (any-lists ps sibling c ∙ none, tt))

  distinct-lists : (ps : List ℕ) → IsDistinct nat_eq ps → IsDistinct same_pair (flat_map (parent_pairs now) ps)
  unfolding IsDistinct
  distinct-lists [] d = tt
  distinct-lists (p ∷ ps) d =
      distinct-append same_pair (parent_pairs now p) (flat_map (parent_pairs now) ps) (distinct-parent now v p) (distinct-lists ps d.1) (apart_from p ps (none_of p ps d.0))

-- each parent once

distinct-moved : (o : Option ℕ) (p : ℕ) → IsDistinct nat_eq (filter (λ q. not (q == p)) (option_to_list o) ++ p ∷ [])
unfolding IsDistinct
distinct-moved None p = (tt, tt)
distinct-moved (Some o) p = by (o == p) refl
  where
    by : (b : Bool) → (o == p) ≡ b → IsDistinct nat_eq (cond (not b) (o ∷ []) [] ++ p ∷ [])
    by true e = (tt, tt)
    by false e = ((e, tt), (tt, tt))

distinct-parents : (d : Document) (edit : DocEdit) → IsDistinct nat_eq (changed_parents d edit)
unfolding IsDistinct
distinct-parents d (insert p index nodes) = (tt, tt)
distinct-parents d (remove n) = by (parent_of d.elements n)
  where
    by : (o : Option ℕ) → IsDistinct nat_eq (option_to_list o)
    by None = tt
    by (Some o) = (tt, tt)
distinct-parents d (move n p index) = by (is_still d.elements (moved d n p index).elements n)
  where
    by : (b : Bool) → IsDistinct nat_eq (cond b [] (filter (λ q. not (q == p)) (option_to_list (parent_of d.elements n)) ++ p ∷ []))
    by true = tt
    by false = distinct-moved (parent_of d.elements n) p
distinct-parents d (set x name text) = tt
distinct-parents d (unset x name) = tt
distinct-parents d (set_state x s on) = tt

-- the list of an edit

any-touched_pairs : (d : Document) (edit : DocEdit) → IsValid (after d edit).elements → (touch : Touch) (y : ℕ) → list_any (same_pair (touch, y)) (touched_pairs d edit) ≡ is_touched_by d edit touch y
any-touched_pairs d (insert p index nodes) v touch y = any-lists (after d (insert p index nodes)).elements v (p ∷ []) touch y
any-touched_pairs d (remove n) v touch y =
    any-lists (after d (remove n)).elements v (changed_parents d (remove n)) touch y
any-touched_pairs d (move n p index) v touch y =
    any-lists (after d (move n p index)).elements v (changed_parents d (move n p index)) touch y
any-touched_pairs d (set x name text) v touch y = any-attribute d.elements x name (Some text) touch y
any-touched_pairs d (unset x name) v touch y = any-attribute d.elements x name None touch y
any-touched_pairs d (set_state x s on) v touch y =
    any-at_element x touch y (state_touches s (state_of d.elements x s) on)
    ∙ ap (λ c. (y == x) && c) (any-state d.elements x s on touch)

distinct-touched_pairs : (d : Document) (edit : DocEdit) → IsValid (after d edit).elements → IsDistinct same_pair (touched_pairs d edit)
distinct-touched_pairs d (insert p index nodes) v =
    distinct-lists (after d (insert p index nodes)).elements v (p ∷ []) (distinct-parents d (insert p index nodes))
distinct-touched_pairs d (remove n) v =
    distinct-lists (after d (remove n)).elements v (changed_parents d (remove n)) (distinct-parents d (remove n))
distinct-touched_pairs d (move n p index) v =
    distinct-lists (after d (move n p index)).elements v (changed_parents d (move n p index)) (distinct-parents d (move n p index))
distinct-touched_pairs d (set x name text) v =
    distinct-at_element x (value_touches name (attribute_of d.elements x name) (Some text)) (distinct-value name (attribute_of d.elements x name) (Some text))
distinct-touched_pairs d (unset x name) v =
    distinct-at_element x (value_touches name (attribute_of d.elements x name) None) (distinct-value name (attribute_of d.elements x name) None)
distinct-touched_pairs d (set_state x s on) v =
    distinct-at_element x (state_touches s (state_of d.elements x s) on) (distinct-state s (state_of d.elements x s) on)

-- the list of an edit of one element

pub pairs-set : (d : Document) (x : ℕ) (name text : Characters) → IsElement d.elements x → AreTouched d.elements (after d (set x name text)).elements (touched_pairs d (set x name text))
pairs-set d x name text there = record {
  exact = λ touch y. any-attribute d.elements x name (Some text) touch y ∙ sym (touched-set d x name text there touch y);
  once = distinct-at_element x (value_touches name (attribute_of d.elements x name) (Some text)) (distinct-value name (attribute_of d.elements x name) (Some text));
}

pub pairs-unset : (d : Document) (x : ℕ) (name : Characters) → IsElement d.elements x → AreTouched d.elements (after d (unset x name)).elements (touched_pairs d (unset x name))
pairs-unset d x name there = record {
  exact = λ touch y. any-attribute d.elements x name None touch y ∙ sym (touched-unset d x name there touch y);
  once = distinct-at_element x (value_touches name (attribute_of d.elements x name) None) (distinct-value name (attribute_of d.elements x name) None);
}

pub pairs-set_state : (d : Document) (x : ℕ) (s : State) (on : Bool) → IsElement d.elements x → AreTouched d.elements (after d (set_state x s on)).elements (touched_pairs d (set_state x s on))
pairs-set_state d x s on there = record {
  exact = λ touch y. any-at_element x touch y (state_touches s (state_of d.elements x s) on) ∙ (ap (λ c. (y == x) && c) (any-state d.elements x s on touch) ∙ sym (touched-set_state d x s on there touch y));
  once = distinct-at_element x (state_touches s (state_of d.elements x s) on) (distinct-state s (state_of d.elements x s) on);
}

pub touched-pairs : (d : Document) → IsSound d → (edit : DocEdit) → IsShaped edit → refusal d edit ≡ None → AreTouched d.elements (after d edit).elements (touched_pairs d edit)
touched-pairs d s edit w h =
    let v = (sound-after d s edit w h).valid in
    record {
      exact = λ touch y. any-touched_pairs d edit v touch y ∙ sym (touched-edit d s edit w h touch y);
      once = distinct-touched_pairs d edit v;
    }

-- so they tell whom an edit marks
pub marked-listed : (before now : List Element) → SameTags before now → (pairs : List (Touch × ℕ)) → AreTouched before now pairs → (selectors : List Selector) (x : ℕ) → is_marked before now selectors x ≡ is_marked_after (is_listed pairs) now selectors x
marked-listed before now tags pairs touched = is_marked_by before now tags (is_listed pairs) touched.exact

-- How many: 2m + 1 where the list of one parent changes, which has m children then.

one_list : (now : List Element) (ps : List ℕ) (p : ℕ) → ps ≡ p ∷ [] → length (flat_map (parent_pairs now) ps) ≡ 2 * length (children now p) + 1
one_list now ps p h = ap (λ l. length (flat_map (parent_pairs now) l)) h ∙ (ap length (append-nil (parent_pairs now p)) ∙ length-parent now p)

pub length-touched_pairs : (d : Document) (edit : DocEdit) (p : ℕ) → changed_parents d edit ≡ p ∷ [] → length (touched_pairs d edit) ≡ 2 * length (children (after d edit).elements p) + 1
length-touched_pairs d (insert q index nodes) p h = one_list (after d (insert q index nodes)).elements (q ∷ []) p h
length-touched_pairs d (remove n) p h =
    one_list (after d (remove n)).elements (changed_parents d (remove n)) p h
length-touched_pairs d (move n q index) p h =
    one_list (after d (move n q index)).elements (changed_parents d (move n q index)) p h
length-touched_pairs d (set x name text) p h = absurd (cc)
length-touched_pairs d (unset x name) p h = absurd (cc)
length-touched_pairs d (set_state x s on) p h = absurd (cc)
