-- What each edit touches.
use Rattle.std.proofs.Common.{◌≡◌, ℕ, ◌+◌, ◌≤◌, ◌==◌, nat_eq, List, [], ◌∷◌, ◌++◌, filter, take, drop, length, Bool, true, false, not, ◌&&◌, ◌||◌, cond, Option, Some, None, is_some, option_map, option_and_then, option_to_list, refl, sym, ap, ◌∙◌, subst, arith, take-append-drop, length-append, length-take-le}
use Rattle.std.specs.Prelude.{codes}
use Rattle.std.specs.Bool.{beq}
use Rattle.std.specs.Cmp.{booleans_Decides}
use Rattle.std.specs.Cmp.Lexicographic.{nat_list_cmp_total}
use Rattle.std.specs.FinMap as finmap
use Rattle.std.specs.List.{IsDistinct}
use Rattle.std.specs.Option.{option_map_or}
use Rattle.std.specs.Str.{bytes_eq}
use Rattle.std.proofs.lemmas.Bool.{and_left, and_from, and_parts, cond-true, cond-false, eqb-true, false_from_ne_true, false≢true, not-true}
use Rattle.std.proofs.lemmas.Map.Text.{is_eq-slice_cmp}
use Rattle.std.proofs.lemmas.Slice.Eq.{bytes_eq-Decides}
use Rattle.base_model.specs.Text.{Characters, same_text}
use Rattle.scene_model.specs.Element.{Element, State, hover_state, active_state, focus_state, States, has_state}
use Rattle.scene_model.specs.Lookups.{element_at, is_element, IsElement, parent_of, children, attribute_of, has_class, state_of, place_of}
use Rattle.scene_model.specs.Document.{Document}
use Rattle.scene_model.specs.Nodes.{Node}
use Rattle.scene_model.proofs.Found.{is_element-at}
use Rattle.scene_model.proofs.Numbers.{is_in, index_in, same_number, split_in}
use Rattle.selector_model.specs.Selector.{id_selector, Selector}
use Rattle.selector_model.specs.Holds.{passes}
use Rattle.change_model.specs.InPlace.{changed_at, IsInPlace, put_state}
use Rattle.change_model.specs.Sound.{is_below, without, IsSound}
use Rattle.change_model.specs.ChildLists.{under, inserted, removed, moved, CanInsert, CanRemove, CanMove}
use Rattle.change_model.specs.Fresh.{is_still}
use Rattle.change_model.proofs.InPlace.{here, IsInPlace-here, is_element-map, children-map, element_at-changed_at, IsInPlace-attribute, IsInPlace-no_attribute, IsInPlace-state}
use Rattle.change_model.proofs.Below.{parent_not_below}
use Rattle.change_model.proofs.Ends.{place_of_split, child_in, distinct_children}
use Rattle.change_model.proofs.Removed.{element_at-without, is_element-without, children-without, children-without_parent, its_parent}
use Rattle.change_model.proofs.Inserted.{element_at-inserted, is_element-inserted, children-inserted, children-inserted_parent}
use Rattle.change_model.proofs.Moved.{element_at-moved, is_element-moved, children-moved, children-moved_from, children-moved_to}
use Rattle.change_model.proofs.Orders.{is_still-moved}
use Rattle.change_model.proofs.Stays.{place_of-split, moved_in_place}
use Rattle.edit_model.specs.Edit.{DocEdit, insert, remove, move, set, unset, set_state, IsShaped}
use Rattle.edit_model.specs.Apply.{after, refusal}
use Rattle.edit_model.specs.Touched.{Touch, attribute, id, class, state, positional, sibling, empty, in_both, same_optional, list_changed, attribute_changed, is_touched}
use Rattle.edit_model.specs.TouchedBy.{same_state, value_differs, has_id, has_class_in, by_attribute, by_state, changed_parents, by_lists, is_touched_by}
use Rattle.edit_model.proofs.Accepted.{none_parts, passes_from, of_insert, of_remove, of_move, index_of_move, tags-after}
use Rattle.edit_model.proofs.AfterLemmas.{same_value_at, untouched, is_marked_by}
use Rattle.edit_model.specs.Marked.{is_marked}
use Rattle.edit_model.specs.MarkedAfter.{is_marked_after}

and_when : (i e : Bool) → (i ≡ true → e ≡ true) → (i && not e) ≡ false
and_when true e h = ap not (h refl)
and_when false e h = refl

beq_same : (p q : Bool) → p ≡ q → beq p q ≡ true
beq_same p q h = (booleans_Decides p q).1 h

-- what is equal in both documents is not touched

module _ (a b : List Element) (y : ℕ) where
  pub value_quiet : (name : Characters) → (in_both a b y ≡ true → attribute_of a y name ≡ attribute_of b y name) → attribute_changed a b name y ≡ false
  value_quiet name same =
      and_when (in_both a b y) (same_optional (attribute_of a y name) (attribute_of b y name)) (λ i. ap (same_optional (attribute_of a y name)) (sym (same i)) ∙ same_value_at (attribute_of a y name))

  pub class_quiet : (name : Characters) → (in_both a b y ≡ true → attribute_of a y (codes "class") ≡ attribute_of b y (codes "class")) → is_touched a b (class name) y ≡ false
  class_quiet name same =
      and_when (in_both a b y) (beq (has_class a y name) (has_class b y name)) (λ i. beq_same _ _ (ap (has_class_in name) (same i)))

  pub state_quiet : (s : State) → (in_both a b y ≡ true → state_of a y s ≡ state_of b y s) → is_touched a b (state s) y ≡ false
  state_quiet s same = and_when (in_both a b y) (beq (state_of a y s) (state_of b y s)) (λ i. beq_same _ _ (same i))

  pub list_quiet : (in_both a b y ≡ true → children a y ≡ children b y) → list_changed a b y ≡ false
  list_quiet same =
      and_when (in_both a b y) (bytes_eq (children a y) (children b y)) (λ i. (bytes_eq-Decides (children a y) (children b y)).1 (same i))

-- the same attributes and states
pub record SameAt (a b : List Element) (y : ℕ) : Type 0 where
  pub values : (name : Characters) → attribute_of a y name ≡ attribute_of b y name
  pub states : (s : State) → state_of a y s ≡ state_of b y s

pub SameAt-found : (a b : List Element) (y : ℕ) → element_at a y ≡ element_at b y → SameAt a b y
SameAt-found a b y e = record {
  values = λ name. ap (option_and_then (λ d. finmap.get d.attrs name)) e;
  states = λ s. ap (λ o. option_map_or (λ d. has_state d.states s) o false) e;
}

option_same : (f g : ℕ → Bool) → ((q : ℕ) → f q ≡ g q) → (o : Option ℕ) → option_map_or f o false ≡ option_map_or g o false
option_same f g h None = refl
option_same f g h (Some q) = h q

-- edits of child lists: attributes and states stay, and these parents alone have other children
module _ (a b : List Element) (parents : List ℕ) (same : (y : ℕ) → in_both a b y ≡ true → SameAt a b y) (lists : (q : ℕ) → list_changed a b q ≡ is_in q parents) where
  pub touched-lists : (touch : Touch) (y : ℕ) → is_touched a b touch y ≡ by_lists parents b touch y
  touched-lists (attribute name) y = value_quiet a b y name (λ i. (same y i).values name)
  touched-lists (id name) y = and_left _ _ (value_quiet a b y (codes "id") (λ i. (same y i).values (codes "id")))
  touched-lists (class name) y = class_quiet a b y name (λ i. (same y i).values (codes "class"))
  touched-lists (state s) y = state_quiet a b y s (λ i. (same y i).states s)
  touched-lists positional y = option_same (list_changed a b) (λ q. is_in q parents) lists (parent_of b y)
  touched-lists sibling y = option_same (list_changed a b) (λ q. is_in q parents) lists (parent_of b y)
  touched-lists empty y = lists y

-- an element changed in place

module _ (doc : List Element) (x : ℕ) (f : Element → Element) (k : IsInPlace f) where
  abbrev new : List Element
  new = changed_at x f doc

  other : (y : ℕ) → (y == x) ≡ false → element_at doc y ≡ element_at new y
  other y e = sym (element_at-changed_at x f k.number doc y ∙ cond-false (y == x) _ _ e)

  found : element_at new x ≡ option_map f (element_at doc x)
  found = element_at-changed_at x f k.number doc x ∙ cond-true (x == x) _ _ (same_number x)

  lists_quiet : (q : ℕ) → list_changed doc new q ≡ false
  lists_quiet q = list_quiet doc new q (λ i. sym (children-map (here x f) (IsInPlace-here x f k) doc q))

  none_at : (o : Option ℕ) → option_map_or (list_changed doc new) o false ≡ false
  none_at None = refl
  none_at (Some q) = lists_quiet q

  outside : (touch : Touch) (y : ℕ) → (y == x) ≡ false → is_touched doc new touch y ≡ false
  outside (attribute name) y e = value_quiet doc new y name (λ i. (SameAt-found doc new y (other y e)).values name)
  outside (id name) y e =
      and_left _ _ (value_quiet doc new y (codes "id") (λ i. (SameAt-found doc new y (other y e)).values (codes "id")))
  outside (class name) y e = class_quiet doc new y name (λ i. (SameAt-found doc new y (other y e)).values (codes "class"))
  outside (state s) y e = state_quiet doc new y s (λ i. (SameAt-found doc new y (other y e)).states s)
  outside positional y e = none_at (parent_of new y)
  outside sibling y e = none_at (parent_of new y)
  outside empty y e = lists_quiet y

  module _ (there : IsElement doc x) where
    both : in_both doc new x ≡ true
    both =
        and_from (is_element doc x) (is_element new x) there (is_element-map (here x f) (IsInPlace-here x f k).number doc x ∙ there)

    -- at the element and nowhere else
    at_one : (at : Touch → Bool) → ((touch : Touch) → is_touched doc new touch x ≡ at touch) → (touch : Touch) (y : ℕ) → is_touched doc new touch y ≡ ((y == x) && at touch)
    at_one at is touch y = by (y == x) refl
      where
        by : (c : Bool) → (y == x) ≡ c → is_touched doc new touch y ≡ (c && at touch)
        by true e = subst (λ z. is_touched doc new touch z ≡ at touch) (sym (eqb-true y x e)) (is touch)
        by false e = outside touch y e

    module _ (name : Characters) (given : Option Characters) (value : (n : Characters) → attribute_of new x n ≡ cond (same_text n name) given (attribute_of doc x n)) (states : (s : State) → state_of doc x s ≡ state_of new x s) where
      value_at : (n : Characters) (c : Bool) → same_text n name ≡ c → attribute_changed doc new n x ≡ (c && value_differs doc x n given)
      value_at n true e =
          ap (λ i. i && not (same_optional (attribute_of doc x n) (attribute_of new x n))) both
          ∙ ap (value_differs doc x n) (value n ∙ cond-true (same_text n name) _ _ e)
      value_at n false e = value_quiet doc new x n (λ i. sym (value n ∙ cond-false (same_text n name) _ _ e))

      id_at : (n : Characters) (c : Bool) → same_text (codes "id") name ≡ c → is_touched doc new (id n) x ≡ (c && (value_differs doc x (codes "id") given && (has_id n (attribute_of doc x (codes "id")) || has_id n given)))
      id_at n true e =
          ap (λ t. t && (passes doc (id_selector n) x || passes new (id_selector n) x)) (value_at (codes "id") true e)
          ∙ ap (λ o. value_differs doc x (codes "id") given && (has_id n (attribute_of doc x (codes "id")) || has_id n o)) (value (codes "id") ∙ cond-true (same_text (codes "id") name) _ _ e)
      id_at n false e = and_left _ _ (value_at (codes "id") false e)

      class_at : (n : Characters) (c : Bool) → same_text (codes "class") name ≡ c → is_touched doc new (class n) x ≡ (c && not (beq (has_class doc x n) (has_class_in n given)))
      class_at n true e =
          ap (λ i. i && not (beq (has_class doc x n) (has_class new x n))) both
          ∙ ap (λ o. not (beq (has_class doc x n) (has_class_in n o))) (value (codes "class") ∙ cond-true (same_text (codes "class") name) _ _ e)
      class_at n false e =
          class_quiet doc new x n (λ i. sym (value (codes "class") ∙ cond-false (same_text (codes "class") name) _ _ e))

      attribute_at : (touch : Touch) → is_touched doc new touch x ≡ by_attribute doc x name given touch
      attribute_at (attribute n) = value_at n (same_text n name) refl
      attribute_at (id n) = id_at n (same_text (codes "id") name) refl
      attribute_at (class n) = class_at n (same_text (codes "class") name) refl
      attribute_at (state s) = state_quiet doc new x s (λ i. states s)
      attribute_at positional = none_at (parent_of new x)
      attribute_at sibling = none_at (parent_of new x)
      attribute_at empty = lists_quiet x

      touched-attribute : (touch : Touch) (y : ℕ) → is_touched doc new touch y ≡ ((y == x) && by_attribute doc x name given touch)
      touched-attribute = at_one (by_attribute doc x name given) attribute_at

    module _ (s : State) (on : Bool) (values : (n : Characters) → attribute_of doc x n ≡ attribute_of new x n) (states : (t : State) → state_of new x t ≡ cond (same_state t s) on (state_of doc x t)) where
      one_state : (t : State) (c : Bool) → same_state t s ≡ c → is_touched doc new (state t) x ≡ (c && not (beq (state_of doc x t) on))
      one_state t true e =
          ap (λ i. i && not (beq (state_of doc x t) (state_of new x t))) both
          ∙ ap (λ v. not (beq (state_of doc x t) v)) (states t ∙ cond-true (same_state t s) _ _ e)
      one_state t false e = state_quiet doc new x t (λ i. sym (states t ∙ cond-false (same_state t s) _ _ e))

      state_at : (touch : Touch) → is_touched doc new touch x ≡ by_state doc x s on touch
      state_at (attribute n) = value_quiet doc new x n (λ i. values n)
      state_at (id n) = and_left _ _ (value_quiet doc new x (codes "id") (λ i. values (codes "id")))
      state_at (class n) = class_quiet doc new x n (λ i. values (codes "class"))
      state_at (state t) = one_state t (same_state t s) refl
      state_at positional = none_at (parent_of new x)
      state_at sibling = none_at (parent_of new x)
      state_at empty = lists_quiet x

      touched-state : (touch : Touch) (y : ℕ) → is_touched doc new touch y ≡ ((y == x) && by_state doc x s on touch)
      touched-state = at_one (by_state doc x s on) state_at

-- a value that is put into the attributes, or taken out

given_put : (name text n : Characters) (o : Option Element) → is_some o ≡ true → option_and_then (λ d. finmap.get d.attrs n) (option_map {T = Element} (λ e. record e { attrs = finmap.insert e.attrs name text }) o) ≡ cond (same_text n name) (Some text) (option_and_then (λ d. finmap.get d.attrs n) o)
given_put name text n None h = absurd (cc)
given_put name text n (Some e) h =
    finmap.get-insert nat_list_cmp_total e.attrs name text n ∙ ap (λ c. cond c (Some text) (finmap.get e.attrs n)) (is_eq-slice_cmp n name)

given_none : (name n : Characters) (o : Option Element) → is_some o ≡ true → option_and_then (λ d. finmap.get d.attrs n) (option_map {T = Element} (λ e. record e { attrs = finmap.remove e.attrs name }) o) ≡ cond (same_text n name) None (option_and_then (λ d. finmap.get d.attrs n) o)
given_none name n None h = absurd (cc)
given_none name n (Some e) h =
    finmap.get-remove nat_list_cmp_total e.attrs name n ∙ ap (λ c. cond c None (finmap.get e.attrs n)) (is_eq-slice_cmp n name)

put_read : (s t : State) (on : Bool) (states : States) → has_state (put_state s on states) t ≡ cond (same_state t s) on (has_state states t)
put_read hover_state hover_state on states = refl
put_read hover_state active_state on states = refl
put_read hover_state focus_state on states = refl
put_read active_state hover_state on states = refl
put_read active_state active_state on states = refl
put_read active_state focus_state on states = refl
put_read focus_state hover_state on states = refl
put_read focus_state active_state on states = refl
put_read focus_state focus_state on states = refl

state_read : (s t : State) (on : Bool) (o : Option Element) → is_some o ≡ true → option_map_or (λ d. has_state d.states t) (option_map {T = Element} (λ e. record e { states = put_state s on e.states }) o) false ≡ cond (same_state t s) on (option_map_or (λ d. has_state d.states t) o false)
state_read s t on None h = absurd (cc)
state_read s t on (Some e) h = put_read s t on e.states

states_kept : (g : Element → Element) → ((e : Element) → (g e).states ≡ e.states) → (t : State) (o : Option Element) → option_map_or (λ d. has_state d.states t) o false ≡ option_map_or (λ d. has_state d.states t) (option_map g o) false
states_kept g h t None = refl
states_kept g h t (Some e) = ap (λ s. has_state s t) (sym (h e))

values_kept : (g : Element → Element) → ((e : Element) → (g e).attrs ≡ e.attrs) → (n : Characters) (o : Option Element) → option_and_then (λ d. finmap.get d.attrs n) o ≡ option_and_then (λ d. finmap.get d.attrs n) (option_map g o)
values_kept g h n None = refl
values_kept g h n (Some e) = ap (λ m. finmap.get m n) (sym (h e))

-- a list with one more is another list

grown_differs : (l : List ℕ) (index x : ℕ) → bytes_eq l (take index l ++ x ∷ drop index l) ≡ false
grown_differs l index x =
    false_from_ne_true _ (λ e.
    let same : l ≡ take index l ++ x ∷ drop index l = (bytes_eq-Decides l (take index l ++ x ∷ drop index l)).0 e in
    let whole = ap length (take-append-drop index l) in
    absurd (omega (arith, ap length same, whole, length-append (take index l) (drop index l), length-append (take index l) (x ∷ drop index l))))

shrunk : (n y : ℕ) (ys : List ℕ) (c : Bool) → (y == n) ≡ c → is_in n (filter (λ z. not (z == n)) ys) ≡ false → is_in n (cond (not c) (y ∷ filter (λ z. not (z == n)) ys) (filter (λ z. not (z == n)) ys)) ≡ false
shrunk n y ys true e h = h
shrunk n y ys false e h = ap (λ c. c || is_in n (filter (λ z. not (z == n)) ys)) e ∙ h

taken_out : (n : ℕ) (xs : List ℕ) → is_in n (filter (λ z. not (z == n)) xs) ≡ false
taken_out n [] = refl
taken_out n (y ∷ ys) = shrunk n y ys (y == n) refl (taken_out n ys)

shrunk_differs : (n : ℕ) (l : List ℕ) → is_in n l ≡ true → bytes_eq l (filter (λ z. not (z == n)) l) ≡ false
shrunk_differs n l h =
    false_from_ne_true _ (λ e. false≢true (sym (taken_out n l) ∙ (ap (is_in n) (sym ((bytes_eq-Decides l (filter (λ z. not (z == n)) l)).0 e)) ∙ h)))

changed_list : (a b : List Element) (q : ℕ) → IsElement a q → IsElement b q → bytes_eq (children a q) (children b q) ≡ false → list_changed a b q ≡ true
changed_list a b q was now h =
    and_from (in_both a b q) (not (bytes_eq (children a q) (children b q))) (and_from (is_element a q) (is_element b q) was now) (ap not h)

not_equal : (p q : ℕ) → (p == q) ≡ false → q ≡ p → ⊥
not_equal p q e h = false≢true (sym e ∙ (ap (λ z. p == z) h ∙ same_number p))

-- nodes put in

module _ {d : Document} {p : ℕ} {nodes : List Node} (can : CanInsert d p nodes) (index : ℕ) where
  abbrev grown : List Element
  grown = (inserted d p index nodes).elements

  low : (q : ℕ) → in_both d.elements grown q ≡ true → q ≤ d.last
  low q i = (can.sound.given q (and_parts (is_element d.elements q) (is_element grown q) i).0).1

  insert_lists : (q : ℕ) → list_changed d.elements grown q ≡ ((p == q) || false)
  insert_lists q = by (p == q) refl
    where
      by : (c : Bool) → (p == q) ≡ c → list_changed d.elements grown q ≡ (c || false)
      by true e =
          subst (λ z. list_changed d.elements grown z ≡ true) (eqb-true p q e) (changed_list d.elements grown p can.there (is_element-inserted can index p (can.sound.given p can.there).1 ∙ can.there) (ap (bytes_eq (children d.elements p)) (children-inserted_parent can index) ∙ grown_differs (children d.elements p) index (d.last + 1)))
      by false e =
          list_quiet d.elements grown q (λ i. sym (children-inserted can index q (low q i) (not_equal p q e)))

  touched-insert : (touch : Touch) (y : ℕ) → is_touched d.elements grown touch y ≡ by_lists (p ∷ []) grown touch y
  touched-insert =
      touched-lists d.elements grown (p ∷ []) (λ y i. SameAt-found d.elements grown y (sym (element_at-inserted can index y (low y i)))) insert_lists

-- a subtree taken out

module _ {d : Document} {n o : ℕ} (can : CanRemove d n o) where
  abbrev rest : List Element
  rest = (removed d n).elements

  remaining : (q : ℕ) → in_both d.elements rest q ≡ true → is_below d.elements n q ≡ false
  remaining q i =
      not-true (is_below d.elements n q) (and_parts (not (is_below d.elements n q)) (is_element d.elements q) (sym (is_element-without (its_parent can) q) ∙ (and_parts (is_element d.elements q) (is_element rest q) i).1)).0

  parent_stays : IsElement rest o
  parent_stays =
      is_element-without (its_parent can) o ∙ (ap (λ b. not b && is_element d.elements o) (parent_not_below d.elements can.sound.valid n o can.parent) ∙ (can.sound.valid.parents n o can.parent).0)

  remove_lists : (q : ℕ) → list_changed d.elements rest q ≡ ((o == q) || false)
  remove_lists q = by (o == q) refl
    where
      by : (c : Bool) → (o == q) ≡ c → list_changed d.elements rest q ≡ (c || false)
      by true e =
          subst (λ z. list_changed d.elements rest z ≡ true) (eqb-true o q e) (changed_list d.elements rest o (can.sound.valid.parents n o can.parent).0 parent_stays (ap (bytes_eq (children d.elements o)) (children-without_parent (its_parent can)) ∙ shrunk_differs n (children d.elements o) (child_in d.elements can.sound.valid o n can.parent)))
      by false e =
          list_quiet d.elements rest q (λ i. sym (children-without (its_parent can) q (remaining q i) (not_equal o q e)))

  touched-remove : (touch : Touch) (y : ℕ) → is_touched d.elements rest touch y ≡ by_lists (o ∷ []) rest touch y
  touched-remove =
      touched-lists d.elements rest (o ∷ []) (λ y i. SameAt-found d.elements rest y (sym (element_at-without (its_parent can) y (remaining y i)))) remove_lists

-- a subtree moved

module _ {d : Document} {n o p : ℕ} (can : CanMove d n o p) (index : ℕ) (fits : index ≤ length (children (without d.elements n) p)) where
  gone : CanRemove d n o
  gone = record { sound = can.sound; parent = can.parent }

  abbrev turned : List Element
  turned = (moved d n p index).elements

  values_moved : (name : Characters) (c : Bool) (e : Option Element) → option_and_then (λ d. finmap.get d.attrs name) e ≡ option_and_then (λ d. finmap.get d.attrs name) (cond c (option_map (under p) e) e)
  values_moved name true e = values_kept (under p) (λ e. refl) name e
  values_moved name false e = refl

  states_moved : (t : State) (c : Bool) (e : Option Element) → option_map_or (λ d. has_state d.states t) e false ≡ option_map_or (λ d. has_state d.states t) (cond c (option_map (under p) e) e) false
  states_moved t true e = states_kept (under p) (λ e. refl) t e
  states_moved t false e = refl

  all_same : (y : ℕ) → SameAt d.elements turned y
  all_same y =
      let is = sym (element_at-moved can index y) in
      record {
        values = λ name. values_moved name (y == n) (element_at d.elements y) ∙ ap (option_and_then (λ e. finmap.get e.attrs name)) is;
        states = λ t. states_moved t (y == n) (element_at d.elements y) ∙ ap (λ e. option_map_or (λ e. has_state e.states t) e false) is;
      }

  stays : (q : ℕ) → IsElement d.elements q → IsElement turned q
  stays q h = is_element-moved can index q ∙ h

  from_changed : (o == p) ≡ false → list_changed d.elements turned o ≡ true
  from_changed h =
      let parent = (can.sound.valid.parents n o can.parent).0 in
      changed_list d.elements turned o parent (stays o parent) (ap (bytes_eq (children d.elements o)) (children-moved_from can index (λ e. not_equal o p h (sym e))) ∙ shrunk_differs n (children d.elements o) (child_in d.elements can.sound.valid o n can.parent))

  to_changed : (o == p) ≡ false → list_changed d.elements turned p ≡ true
  to_changed h =
      let same = children-without (its_parent gone) p can.apart (not_equal o p h) in
      changed_list d.elements turned p can.there (stays p can.there) (ap (bytes_eq (children d.elements p)) (children-moved_to can index ∙ ap (λ l. take index l ++ n ∷ drop index l) same) ∙ grown_differs (children d.elements p) index n)

  module _ (not_still : is_still d.elements turned n ≡ false) where
    -- within one parent: an equal list would have n where it was
    place_kept : o ≡ p → children d.elements p ≡ children turned p → index ≡ place_of d.elements n
    place_kept same equal =
        let (xs, ys, is) = split_in n (children d.elements o) (child_in d.elements can.sound.valid o n can.parent) in
        let r : List ℕ = children (without d.elements n) p in
        let now : children d.elements p ≡ take index r ++ n ∷ drop index r = equal ∙ children-moved_to can index in
        let place = place_of-split (its_parent gone) can.sound.runs xs ys is in
        let before = ap (λ l. index_in l n) is ∙ place_of_split n xs ys (subst (IsDistinct nat_eq) is (distinct_children d.elements can.sound.valid o)) in
        let behind = ap (λ l. index_in l n) now ∙ place_of_split n (take index r) (drop index r) (subst (IsDistinct nat_eq) now (distinct_children d.elements can.sound.valid p)) in
        let one = ap (λ q. index_in (children d.elements q) n) same in
        omega (arith, place, before, behind, one, length-take-le index r fits)

    within_changed : o ≡ p → list_changed d.elements turned p ≡ true
    within_changed same =
        changed_list d.elements turned p can.there (stays p can.there) (false_from_ne_true _ (λ e.
        let at = place_kept same ((bytes_eq-Decides (children d.elements p) (children turned p)).0 e) in
        let whole : moved d n p index ≡ d = ap (moved d n p) at ∙ (ap (λ q. moved d n q (place_of d.elements n)) (sym same) ∙ moved_in_place gone) in
        false≢true (sym not_still ∙ (is_still-moved can index).1 whole)))

    old_parent : (c : Bool) → (o == p) ≡ c → list_changed d.elements turned o ≡ true
    old_parent true e = subst (λ q. list_changed d.elements turned q ≡ true) (sym (eqb-true o p e)) (within_changed (eqb-true o p e))
    old_parent false e = from_changed e

    move_lists : (q : ℕ) → list_changed d.elements turned q ≡ ((o == q) || ((p == q) || false))
    move_lists q = by (o == q) (p == q) refl refl
      where
        by : (b c : Bool) → (o == q) ≡ b → (p == q) ≡ c → list_changed d.elements turned q ≡ (b || (c || false))
        by true c e f = subst (λ z. list_changed d.elements turned z ≡ true) (eqb-true o q e) (old_parent (o == p) refl)
        by false true e f =
            let same = eqb-true p q f in
            subst (λ z. list_changed d.elements turned z ≡ true) same (to_changed (ap (λ z. o == z) same ∙ e))
        by false false e f =
            list_quiet d.elements turned q (λ i. sym (children-moved can index q (not_equal p q f) (not_equal o q e)))

    -- the same parents, each once
    once_lists : (q : ℕ) → list_changed d.elements turned q ≡ is_in q (filter (λ z. not (z == p)) (o ∷ []) ++ p ∷ [])
    once_lists q = by (o == p) refl
      where
        twice : (c : Bool) → (c || (c || false)) ≡ (c || false)
        twice true = refl
        twice false = refl

        by : (b : Bool) → (o == p) ≡ b → list_changed d.elements turned q ≡ is_in q (cond (not b) (o ∷ []) [] ++ p ∷ [])
        by true e = move_lists q ∙ (ap (λ z. (z == q) || ((p == q) || false)) (eqb-true o p e) ∙ twice (p == q))
        by false e = move_lists q

  none_in : (a : Option ℕ) → option_map_or (λ q. is_in q []) a false ≡ false
  none_in None = refl
  none_in (Some q) = refl

  none_lists : (touch : Touch) (y : ℕ) → by_lists [] turned touch y ≡ false
  none_lists (attribute name) y = refl
  none_lists (id name) y = refl
  none_lists (class name) y = refl
  none_lists (state t) y = refl
  none_lists positional y = none_in (parent_of turned y)
  none_lists sibling y = none_in (parent_of turned y)
  none_lists empty y = refl

  touched-move : (touch : Touch) (y : ℕ) → is_touched d.elements turned touch y ≡ by_lists (changed_parents d (move n p index)) turned touch y
  touched-move touch y = by (is_still d.elements turned n) refl
    where
      by : (b : Bool) → is_still d.elements turned n ≡ b → is_touched d.elements turned touch y ≡ by_lists (cond b [] (filter (λ z. not (z == p)) (option_to_list (parent_of d.elements n)) ++ p ∷ [])) turned touch y
      by true e =
          let whole : moved d n p index ≡ d = (is_still-moved can index).0 e in
          ap (λ (c : Document). is_touched d.elements c.elements touch y) whole ∙ (untouched d.elements touch y ∙ sym (none_lists touch y))
      by false e =
          touched-lists d.elements turned (filter (λ z. not (z == p)) (o ∷ []) ++ p ∷ []) (λ z i. all_same z) (once_lists e) touch y
          ∙ ap (λ a. by_lists (filter (λ z. not (z == p)) (option_to_list a) ++ p ∷ []) turned touch y) (sym can.parent)

-- the pairs of each edit of one element

pub touched-set : (d : Document) (x : ℕ) (name text : Characters) → IsElement d.elements x → (touch : Touch) (y : ℕ) → is_touched d.elements (after d (set x name text)).elements touch y ≡ is_touched_by d (set x name text) touch y
touched-set d x name text there =
    let f : Element → Element = λ e. record e { attrs = finmap.insert e.attrs name text } in
    let k : IsInPlace f = IsInPlace-attribute name text in
    let is_there = sym (is_element-at d.elements x) ∙ there in
    touched-attribute d.elements x f k there name (Some text) (λ n. ap (option_and_then (λ e. finmap.get e.attrs n)) (found d.elements x f k) ∙ given_put name text n (element_at d.elements x) is_there) (λ t. states_kept f (λ e. refl) t (element_at d.elements x) ∙ ap (λ o. option_map_or (λ e. has_state e.states t) o false) (sym (found d.elements x f k)))

pub touched-unset : (d : Document) (x : ℕ) (name : Characters) → IsElement d.elements x → (touch : Touch) (y : ℕ) → is_touched d.elements (after d (unset x name)).elements touch y ≡ is_touched_by d (unset x name) touch y
touched-unset d x name there =
    let f : Element → Element = λ e. record e { attrs = finmap.remove e.attrs name } in
    let k : IsInPlace f = IsInPlace-no_attribute name in
    let is_there = sym (is_element-at d.elements x) ∙ there in
    touched-attribute d.elements x f k there name None (λ n. ap (option_and_then (λ e. finmap.get e.attrs n)) (found d.elements x f k) ∙ given_none name n (element_at d.elements x) is_there) (λ t. states_kept f (λ e. refl) t (element_at d.elements x) ∙ ap (λ o. option_map_or (λ e. has_state e.states t) o false) (sym (found d.elements x f k)))

pub touched-set_state : (d : Document) (x : ℕ) (t : State) (on : Bool) → IsElement d.elements x → (touch : Touch) (y : ℕ) → is_touched d.elements (after d (set_state x t on)).elements touch y ≡ is_touched_by d (set_state x t on) touch y
touched-set_state d x t on there =
    let f : Element → Element = λ e. record e { states = put_state t on e.states } in
    let k : IsInPlace f = IsInPlace-state t on in
    let is_there = sym (is_element-at d.elements x) ∙ there in
    touched-state d.elements x f k there t on (λ n. values_kept f (λ e. refl) n (element_at d.elements x) ∙ ap (option_and_then (λ e. finmap.get e.attrs n)) (sym (found d.elements x f k))) (λ u. ap (λ o. option_map_or (λ e. has_state e.states u) o false) (found d.elements x f k) ∙ state_read t u on (element_at d.elements x) is_there)

-- the pairs of each accepted edit
pub touched-edit : (d : Document) → IsSound d → (edit : DocEdit) → IsShaped edit → refusal d edit ≡ None → (touch : Touch) (y : ℕ) → is_touched d.elements (after d edit).elements touch y ≡ is_touched_by d edit touch y
touched-edit d s (insert p index nodes) w h = touched-insert (of_insert d s p index nodes w h) index
touched-edit d s (remove n) w h =
    let (o, can) = of_remove d s n h in
    λ touch y. touched-remove can touch y
    ∙ ap (λ a. by_lists (option_to_list a) (removed d n).elements touch y) (sym can.parent)
touched-edit d s (move n p index) w h =
    touched-move (of_move d s n p index h).1 index (index_of_move d n p index h)
touched-edit d s (set x name text) w h = touched-set d x name text (passes_from _ _ (none_parts _ _ h).0)
touched-edit d s (unset x name) w h = touched-unset d x name (passes_from _ _ (none_parts _ _ h).0)
touched-edit d s (set_state x t on) w h = touched-set_state d x t on (passes_from _ _ (none_parts _ _ h).0)

-- so whom an edit marks is told from what it touches and the document after it
pub marked-edit : (d : Document) → IsSound d → (edit : DocEdit) → IsShaped edit → refusal d edit ≡ None → (selectors : List Selector) (x : ℕ) → is_marked d.elements (after d edit).elements selectors x ≡ is_marked_after (is_touched_by d edit) (after d edit).elements selectors x
marked-edit d s edit w h =
    is_marked_by d.elements (after d edit).elements (tags-after d s edit w h) (is_touched_by d edit) (λ touch y. sym (touched-edit d s edit w h touch y))
