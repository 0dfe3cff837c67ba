-- For `Walk::cascade`: what a walk in tree order knows of the elements that it has met stays right as it goes on.
use Rattle.std.proofs.Common.{◌≡◌, ℕ, ℤ, zero, suc, ◌+◌, ◌<◌, ◌≤◌, ◌==◌, List, [], ◌∷◌, ◌++◌, map, filter, length, take, drop, set, get_or, replicate, slice_get, Bool, true, false, cond, not}
use Rattle.std.proofs.Common.{◌&&◌, ◌||◌, Option, Some, None, refl, sym, ap, subst, ◌∙◌, add-one, arith}
use Rattle.std.specs.Prelude.{IsSome}
use Rattle.std.specs.List.{IsDistinct}
use Rattle.std.specs.Option.{option_map_or}
use Rattle.std.proofs.lemmas.Bool.{cond-false, or_left, or_right, eqb-true, eqb-false, false≢true}
use Rattle.std.proofs.lemmas.Bool.Decides.{same_from_decides}
use Rattle.std.proofs.lemmas.List.{append-nil, drop_more, get_or-set_other, get_or-set_same, map-append, nil_from_length, take-append-drop, take_all, take_more}
use Rattle.std.proofs.lemmas.List.Elements.{filter-append}
use Rattle.std.proofs.lemmas.List.Folds.{list_any-append}
use Rattle.std.proofs.Math.Bool.{or_assoc}
use Rattle.std.proofs.lemmas.Option.{none-some, same_Some}
use Rattle.scene_model.specs.Element.{Element}
use Rattle.scene_model.specs.Lookups.{numbers, children, is_element, IsElement, parent_of}
use Rattle.scene_model.specs.Numbers.{is_in}
use Rattle.scene_model.specs.Valid.{IsValid}
use Rattle.scene_model.specs.Scene.{elements_of}
use Rattle.scene_model.proofs.Any.{in_middle}
use Rattle.scene_model.proofs.Found.{copies-children, each_child-parent, is_element-numbers, parent_of-element, position_of-numbers}
use Rattle.scene_model.proofs.Numbers.{differs, each_is_in, in_copied, index_in, same_number}
use Rattle.scene_model.proofs.ParentBefore.{parent_before}
use Rattle.value_model.specs.Style.{Style}
use Rattle.cascade_model.specs.StyleOf.{root_of}
use Rattle.invalidation_map.proofs.SetLemmas.{one_added}
use Rattle.invalidation_map.specs.Members.{AreBelow, Members, added}
use Rattle.invalidation_map.specs.Steps.{HasRoom}
use Rattle.session_model.specs.Standing.{Standing, has_size, is_cascaded, is_matched, is_style, kept_at, parent_differs, root_size_differs, root_size_in, style_in}
use Rattle.session_model.specs.Walk.{Styled, results}
use Rattle.scene_model.proofs.Lists.{each_weaker}
use Rattle.session_model.proofs.KeepsLemmas.{is_style-own}
use Rattle.element_styler.proofs.CacheLemmas.{kept_at as kept_in}
use Rattle.style_session.specs.Answers.{styled_seen}
use Rattle.style_session.specs.Laws.{styled_now}
use Rattle.style_session.specs.FirstWalking.{unknown}
use Rattle.style_session.specs.Lent.{KeepsTable}
use Rattle.style_session.specs.Walking.{known_at, some_style, HandsOn, HasMet, IsBare, IsMet, IsParentMet, IsWalk, Learns, Meets, Widens}
use Rattle.style_session.specs.declared.derived.StyleCache.{StyleCache}
use Rattle.style_session.specs.declared.walk.Walk.{Walk}

-- only the root, which is first, has no parent

not_first : (b : Bool) (n : ℕ) → b ≡ false → cond (not b) (1 + n) 0 ≡ 0 → ⊥
not_first true n h e = cc
not_first false n h e = omega (arith, e)

has_parent : (doc : List Element) → IsValid doc → (first : ℕ) (front : List ℕ) (x : ℕ) (after : List ℕ) → numbers doc ≡ (first ∷ front) ++ x ∷ after → IsElement doc x → IsSome (parent_of doc x)
unfolding IsDistinct
has_parent doc v first front x after order there = by (parent_of doc x) refl
  where
    apart : (first == x) ≡ false
    apart = each_is_in (λ y. (first == y) ≡ false) x (front ++ x ∷ after) (subst (IsDistinct ◌==◌) order v.distinct).0 (in_middle x front after)

    by : (o : Option ℕ) → parent_of doc x ≡ o → IsSome o
    by (Some p) is = refl
    by None is =
        absurd (not_first (first == x) (index_in (front ++ x ∷ after) x) apart (sym (position_of-numbers doc x ∙ ap (λ l. index_in l x) order) ∙ v.root x there is))

-- the children of an element

is_child : (doc : List Element) → IsValid doc → (x y : ℕ) → parent_of doc y ≡ Some x → is_in y (children doc x) ≡ true
is_child doc v x y hangs = in_copied y (children doc x) [] (copies-children doc x y v.distinct hangs)

child_of : (doc : List Element) → IsValid doc → (x y : ℕ) → is_in y (children doc x) ≡ true → parent_of doc y ≡ Some x
child_of doc v x y h = each_is_in (λ z. parent_of doc z ≡ Some x) y (children doc x) (each_child-parent doc x v.distinct) h

pub children-below : (doc : List Element) (room x : ℕ) → IsValid doc → HasRoom doc room → AreBelow room (children doc x)
children-below doc room x v has =
    each_weaker (λ y. parent_of doc y ≡ Some x) (λ y. y < room) (λ y e. has y (parent_of-element doc y x e)) (children doc x) (each_child-parent doc x v.distinct)

pub all-below : (doc : List Element) (room : ℕ) (xs : List ℕ) → HasRoom doc room → xs ≡ numbers doc → AreBelow room xs
all-below doc room xs has is = by xs (λ y h. has y (is_element-numbers doc y ∙ (ap (is_in y) (sym is) ∙ h)))
  where
    by : (ys : List ℕ) → ((y : ℕ) → is_in y ys ≡ true → y < room) → AreBelow room ys
    by [] h = tt
    by (y ∷ ys) h = (h y (or_left (y == y) (is_in y ys) (same_number y)), by ys (λ z e. h z (or_right (y == z) (is_in z ys) e)))

-- what is matched is cascaded, and once the root's font size is another one all are
pub cascaded-matched : (st : Standing) (x : ℕ) → is_matched st x ≡ true → is_cascaded st x ≡ true
cascaded-matched st x h = or_left (is_matched st x) _ h

cascaded-size : (st : Standing) (x : ℕ) → root_size_differs st ≡ true → is_cascaded st x ≡ true
cascaded-size st x h = or_right (is_matched st x) _ (or_right (parent_differs st x) (root_size_differs st) h)

-- it is known whether an element is cascaded whose parent was met

pub due-cascaded : (st : Standing) (cache : StyleCache) (walk : Walk) (x : ℕ) → IsElement (elements_of st.scene) x → IsWalk st cache walk → IsParentMet st walk x
    → is_in x walk.due.items ≡ is_cascaded st x
due-cascaded st cache walk x there w met =
    let known = by (is_matched st x) (root_size_differs st) (parent_differs st x) refl refl refl in
    same_from_decides {P = is_cascaded st x ≡ true} (is_in x walk.due.items) (is_cascaded st x) (w.due x there, known) (λ h. h, λ h. h)
  where
    by_parent : (o : Option ℕ) → parent_of (elements_of st.scene) x ≡ o → option_map_or (λ p. not (is_style (style_in st.scene p) (kept_at st p))) o false ≡ true → is_in x walk.due.items ≡ true
    by_parent None is h = absurd (false≢true h)
    by_parent (Some p) is h = (met p is).below x is h

    by : (m r d : Bool) → is_matched st x ≡ m → root_size_differs st ≡ r → parent_differs st x ≡ d → is_cascaded st x ≡ true → is_in x walk.due.items ≡ true
    by true r d em er ed h = w.all x there (or_left (is_matched st x) (root_size_differs st) em)
    by false true d em er ed h = w.all x there (or_right (is_matched st x) (root_size_differs st) er)
    by false false true em er ed h = by_parent (parent_of (elements_of st.scene) x) refl ed
    by false false false em er ed h =
        absurd (false≢true (sym (ap (λ m. m || (parent_differs st x || root_size_differs st)) em ∙ (ap (λ d. d || root_size_differs st) ed ∙ er)) ∙ h))

-- the elements of a list, which come to a set one by one

pub in_more : (list : List ℕ) (i y : ℕ) → i < length list → is_in y (take (i + 1) list) ≡ (is_in y (take i list) || is_in y (get_or list i 0 ∷ []))
in_more list i y below =
    ap (is_in y) (take_more list i 0 below) ∙ list_any-append (λ z. z == y) (take i list) (get_or list i 0 ∷ [])

module _ (doc : List Element) (was : ℕ → Bool) (list : List ℕ) (i : ℕ) (below : i < length list) where
  pub elements-more : (old new : Members) → ((y : ℕ) → IsElement doc y → is_in y old.items ≡ (was y || is_in y (take i list))) → new ≡ added old (get_or list i 0) → (y : ℕ) → IsElement doc y
      → is_in y new.items ≡ (was y || is_in y (take (i + 1) list))
  elements-more old new same e y there =
      ap (λ (m : Members). is_in y m.items) e
      ∙ ((one_added old (get_or list i 0)).each y
      ∙ (ap (λ b. b || is_in y (get_or list i 0 ∷ [])) (same y there)
      ∙ (or_assoc (was y) (is_in y (take i list)) (is_in y (get_or list i 0 ∷ []))
      ∙ ap (λ b. was y || b) (sym (in_more list i y below)))))

  -- one that is no element is passed over
  pub elements-passed : (items : List ℕ) → ((y : ℕ) → IsElement doc y → is_in y items ≡ (was y || is_in y (take i list))) → is_element doc (get_or list i 0) ≡ false → (y : ℕ) → IsElement doc y
      → is_in y items ≡ (was y || is_in y (take (i + 1) list))
  elements-passed items same none y there =
      same y there ∙ ap (λ b. was y || b) (sym (no_more (is_in y (take i list)) (get_or list i 0 == y) refl) ∙ sym (in_more list i y below))
    where
      no_more : (a b : Bool) → (get_or list i 0 == y) ≡ b → (a || (b || false)) ≡ a
      no_more a true e = absurd (false≢true (sym none ∙ (ap (is_element doc) (eqb-true (get_or list i 0) y e) ∙ there)))
      no_more true false e = refl
      no_more false false e = refl

-- one more is known

by_number : (x y new n : ℕ) (o : Option ℕ) (P : ℕ → ℕ → Type 0) (b : Bool) → (x == y) ≡ b → cond b (Some new) o ≡ Some n → P x new → (o ≡ Some n → P y n) → P y n
by_number x y new n o P true e is own other = subst (λ z. P z n) (eqb-true x y e) (subst (P x) (same_Some new n is) own)
by_number x y new n o P false e is own other = other is

pub walk-learns : (st : Standing) (cache : StyleCache) (x style : ℕ) (was now : Walk) → IsWalk st cache was → Learns x style was now
    → slice_get cache.styler.table style ≡ Some (style_in st.scene x) → IsWalk st cache now
walk-learns st cache x style was now w learns at = record {
  room = λ y there. subst (λ n. y < n) (sym learns.room) (w.room y there);
  due_room = λ y there. subst (λ (m : Members). y < m.room) (sym learns.due) (w.due_room y there);
  known = λ y n is. by_number x y style n (known_at was.known.items y) (λ z m. slice_get cache.styler.table m ≡ Some (style_in st.scene z)) (x == y) refl (sym (learns.known y) ∙ is) at (w.known y n);
  due = λ y there h. w.due y there (ap (λ (m : Members). is_in y m.items) (sym learns.due) ∙ h);
  all = λ y there h. ap (λ (m : Members). is_in y m.items) learns.due ∙ w.all y there h;
  size = w.size;
}

-- more is known to be cascaded, and it is

pub walk-widens : (st : Standing) (cache : StyleCache) (xs : List ℕ) (b : Bool) (was now : Walk) → IsWalk st cache was → Widens xs b was now
    → ((y : ℕ) → IsElement (elements_of st.scene) y → b ≡ true → is_in y xs ≡ true → is_cascaded st y ≡ true) → IsWalk st cache now
walk-widens st cache xs b was now w widens new = record {
  room = λ y there. subst (λ n. y < n) (sym (ap (λ v. length v.items) widens.known)) (w.room y there);
  due_room = λ y there. subst (λ n. y < n) (sym widens.room) (w.due_room y there);
  known = λ y n is. w.known y n (sym (ap (λ v. known_at v.items y) widens.known) ∙ is);
  due = λ y there h. by y there (is_in y was.due.items) b (is_in y xs) refl refl refl (sym (widens.due y) ∙ h);
  all = λ y there h. widens.due y ∙ or_left (is_in y was.due.items) (b && is_in y xs) (w.all y there h);
  size = w.size;
}
  where
    by : (y : ℕ) → IsElement (elements_of st.scene) y → (p d q : Bool) → is_in y was.due.items ≡ p → b ≡ d → is_in y xs ≡ q → (p || (d && q)) ≡ true → is_cascaded st y ≡ true
    by y there true d q ep ed eq h = w.due y there ep
    by y there false true true ep ed eq h = new y there ed eq
    by y there false true false ep ed eq h = absurd (false≢true h)
    by y there false false q ep ed eq h = absurd (false≢true h)

-- the children of an element whose style is another one than the kept one are cascaded
pub child-cascaded : (st : Standing) (x y : ℕ) (b : Bool) → IsValid (elements_of st.scene) → b ≡ not (is_style (style_in st.scene x) (kept_at st x)) → b ≡ true
    → is_in y (children (elements_of st.scene) x) ≡ true → is_cascaded st y ≡ true
child-cascaded st x y b v is h there =
    or_right (is_matched st y) _ (or_left (parent_differs st y) (root_size_differs st)
    (ap (λ o. option_map_or (λ p. not (is_style (style_in st.scene p) (kept_at st p))) o false) (child_of (elements_of st.scene) v x y there) ∙ (sym is ∙ h)))

pub walk-meets : (st : Standing) (cache : StyleCache) (x style : ℕ) (b : Bool) (was now : Walk) → IsValid (elements_of st.scene) → IsWalk st cache was
    → Meets (elements_of st.scene) x style b was now → slice_get cache.styler.table style ≡ Some (style_in st.scene x)
    → b ≡ not (is_style (style_in st.scene x) (kept_at st x)) → IsWalk st cache now
walk-meets st cache x style b was now v w meets at is =
    walk-learns st cache x style meets.mid now
    (walk-widens st cache (children (elements_of st.scene) x) b was meets.mid w meets.widens (λ y there h k. child-cascaded st x y b v is h k))
    meets.learns at

no_new : (b : Bool) (new : ℕ) (o : Option ℕ) → cond b (Some new) o ≡ None → (b ≡ false) × (o ≡ None)
no_new true new o h = cc
no_new false new o h = (refl, h)

met-learns : (st : Standing) (x style : ℕ) (was now : Walk) → Learns x style was now → (y : ℕ) → IsMet st was y → IsMet st now y
met-learns st x style was now learns y met = record {
  there = met.there;
  style = λ none. met.style (no_new (x == y) style (known_at was.known.items y) (sym (learns.known y) ∙ none)).1;
  below = λ z hangs h. ap (λ (m : Members). is_in z m.items) learns.due ∙ met.below z hangs h;
}

met-widens : (st : Standing) (xs : List ℕ) (b : Bool) (was now : Walk) → Widens xs b was now → (y : ℕ) → IsMet st was y → IsMet st now y
met-widens st xs b was now widens y met = record {
  there = met.there;
  style = λ none. met.style (sym (ap (λ v. known_at v.items y) widens.known) ∙ none);
  below = λ z hangs h. widens.due z ∙ or_left (is_in z was.due.items) (b && is_in z xs) (met.below z hangs h);
}

met-meets : (st : Standing) (x style : ℕ) (b : Bool) (was now : Walk) → Meets (elements_of st.scene) x style b was now → (y : ℕ) → IsMet st was y → IsMet st now y
met-meets st x style b was now meets y met =
    met-learns st x style meets.mid now meets.learns y (met-widens st (children (elements_of st.scene) x) b was meets.mid meets.widens y met)

met-own : (st : Standing) (x style : ℕ) (b : Bool) (was now : Walk) → IsValid (elements_of st.scene) → IsElement (elements_of st.scene) x
    → Meets (elements_of st.scene) x style b was now
    → b ≡ not (is_style (style_in st.scene x) (kept_at st x)) → IsMet st now x
met-own st x style b was now v there meets is = record {
  there = there;
  style = λ none. absurd (false≢true (sym (no_new (x == x) style (known_at meets.mid.known.items x) (sym (meets.learns.known x) ∙ none)).0 ∙ same_number x));
  below = λ y hangs h.
      let own : (b && is_in y (children (elements_of st.scene) x)) ≡ true = ap (λ c. c && is_in y (children (elements_of st.scene) x)) (is ∙ h) ∙ is_child (elements_of st.scene) v x y hangs in
      ap (λ (m : Members). is_in y m.items) meets.learns.due
      ∙ (meets.widens.due y ∙ or_right (is_in y was.due.items) (b && is_in y (children (elements_of st.scene) x)) own);
}

-- it keeps its style
pub has_met-learns : (st : Standing) (front : List ℕ) (x style : ℕ) (was now : Walk) → Learns x style was now → HasMet st front was → HasMet st front now
has_met-learns st front x style was now learns has = record {
  met = λ y h. met-learns st x style was now learns y (has.met y h);
  styled = ap (λ v. map styled_seen v.items) learns.styled ∙ has.styled;
}

-- a table that has grown

pub walk-grown : (st : Standing) (was now : StyleCache) (walk : Walk) → take (length was.styler.table) now.styler.table ≡ was.styler.table → now.size ≡ was.size
    → IsWalk st was walk → IsWalk st now walk
walk-grown st was now walk kept size w = record {
  room = w.room;
  due_room = w.due_room;
  known = λ x style is. kept_in was.styler.table now.styler.table style (style_in st.scene x) kept (w.known x style is);
  due = w.due;
  all = w.all;
  size = size ∙ w.size;
}

-- the same table
pub walk-same : (st : Standing) (was now : StyleCache) (walk : Walk) → KeepsTable was now → IsWalk st was walk → IsWalk st now walk
walk-same st was now walk same w = record {
  room = w.room;
  due_room = w.due_room;
  known = λ x style is. ap (λ l. slice_get l style) same.table ∙ w.known x style is;
  due = w.due;
  all = w.all;
  size = same.size ∙ w.size;
}

-- what was handed on changes nothing of it

pub walk-handed : (st : Standing) (cache : StyleCache) (one : Styled) (was now : Walk) → HandsOn one was now → IsWalk st cache was → IsWalk st cache now
walk-handed st cache one was now handed w = record {
  room = λ y there. subst (λ n. y < n) (sym (ap (λ v. length v.items) handed.known)) (w.room y there);
  due_room = λ y there. subst (λ (m : Members). y < m.room) (sym handed.due) (w.due_room y there);
  known = λ y n is. w.known y n (sym (ap (λ v. known_at v.items y) handed.known) ∙ is);
  due = λ y there h. w.due y there (ap (λ (m : Members). is_in y m.items) (sym handed.due) ∙ h);
  all = λ y there h. ap (λ (m : Members). is_in y m.items) handed.due ∙ w.all y there h;
  size = w.size;
}

met-handed : (st : Standing) (one : Styled) (was now : Walk) → HandsOn one was now → (y : ℕ) → IsMet st was y → IsMet st now y
met-handed st one was now handed y met = record {
  there = met.there;
  style = λ none. met.style (sym (ap (λ v. known_at v.items y) handed.known) ∙ none);
  below = λ z hangs h. ap (λ (m : Members). is_in z m.items) handed.due ∙ met.below z hangs h;
}

-- one more was met

pub in_last : (P : ℕ → Type 0) (x y : ℕ) (a b : Bool) → (x == y) ≡ b → (a || (b || false)) ≡ true → P x → (a ≡ true → P y) → P y
in_last P x y true b e h own others = others refl
in_last P x y false true e h own others = subst P (eqb-true x y e) own
in_last P x y false false e h own others = cc

met-more : (st : Standing) (front : List ℕ) (x : ℕ) (was now : Walk) → IsMet st now x → ((y : ℕ) → IsMet st was y → IsMet st now y)
    → map styled_seen now.styled.items ≡ map styled_seen was.styled.items ++ map (styled_now st) (filter (is_cascaded st) (x ∷ [])) → HasMet st front was → HasMet st (front ++ x ∷ []) now
met-more st front x was now own others styled has = record {
  met = λ y h. in_last (IsMet st now) x y (is_in y front) (x == y) refl (sym (list_any-append (λ z. z == y) front (x ∷ [])) ∙ h) own (λ before. others y (has.met y before));
  styled = styled
      ∙ (ap (λ l. l ++ map (styled_now st) (filter (is_cascaded st) (x ∷ []))) has.styled
      ∙ (sym (map-append (styled_now st) (filter (is_cascaded st) front) (filter (is_cascaded st) (x ∷ [])))
      ∙ ap (map (styled_now st)) (sym (filter-append (is_cascaded st) front (x ∷ [])))));
}

-- where an element keeps its style, none of its children is cascaded for it
kept-met : (st : Standing) (walk : Walk) (x : ℕ) → IsElement (elements_of st.scene) x → kept_at st x ≡ Some (style_in st.scene x) → IsMet st walk x
kept-met st walk x there kept = record {
  there = there;
  style = λ _. kept;
  below = λ y hangs h. absurd (false≢true (sym (ap not (is_style-own (style_in st.scene x) (kept_at st x) kept)) ∙ h));
}

-- it is not cascaded, so its kept style is the one that it has
pub met-passed : (st : Standing) (front : List ℕ) (x : ℕ) (walk : Walk) → IsElement (elements_of st.scene) x → kept_at st x ≡ Some (style_in st.scene x)
    → is_cascaded st x ≡ false → HasMet st front walk → HasMet st (front ++ x ∷ []) walk
met-passed st front x walk there kept h has =
    met-more st front x walk walk (kept-met st walk x there kept) (λ y met. met)
    (sym (append-nil (map styled_seen walk.styled.items)) ∙ ap (λ b. map styled_seen walk.styled.items ++ map (styled_now st) (cond b (x ∷ []) [])) (sym h))
    has

-- it is cascaded, and was handed on
pub met-cascaded : (st : Standing) (front : List ℕ) (x style : ℕ) (b : Bool) (one : Styled) (was mid now : Walk) → IsValid (elements_of st.scene)
    → IsElement (elements_of st.scene) x → is_cascaded st x ≡ true → one ≡ styled_now st x → b ≡ not (is_style (style_in st.scene x) (kept_at st x)) → Meets (elements_of st.scene) x style b was mid
    → HandsOn one mid now → HasMet st front was → HasMet st (front ++ x ∷ []) now
met-cascaded st front x style b one was mid now v there h own is meets handed has =
    met-more st front x was now
    (met-handed st one mid now handed x (met-own st x style b was mid v there meets is))
    (λ y met. met-handed st one mid now handed y (met-meets st x style b was mid meets y met))
    (handed.styled
    ∙ (ap (λ v. map styled_seen v.items ++ one ∷ []) (meets.learns.styled ∙ meets.widens.styled)
    ∙ (ap (λ s. map styled_seen was.styled.items ++ s ∷ []) own
    ∙ ap (λ b. map styled_seen was.styled.items ++ map (styled_now st) (cond b (x ∷ []) [])) (sym h))))
    has

-- at the start and at the end

pub met-none : (st : Standing) (walk : Walk) → walk.styled.items ≡ [] → HasMet st [] walk
met-none st walk none = record {
  met = λ y h. cc;
  styled = ap (map styled_seen) none;
}

pub has_met-widens : (st : Standing) (xs : List ℕ) (b : Bool) (was now : Walk) → Widens xs b was now → was.styled.items ≡ [] → HasMet st [] now
has_met-widens st xs b was now widens none = met-none st now (ap (λ v. v.items) widens.styled ∙ none)

matched_alone : (m r : Bool) → r ≡ false → (m || r) ≡ true → m ≡ true
matched_alone true r e h = refl
matched_alone false true e h = sym e
matched_alone false false e h = h

-- the font size of the root is the kept one
pub walk-bare : (st : Standing) (cache : StyleCache) (walk : Walk) → IsBare st walk → cache.size ≡ root_size_in st.scene → root_size_differs st ≡ false → IsWalk st cache walk
walk-bare st cache walk bare size same = record {
  room = bare.room;
  due_room = bare.due_room;
  known = λ x style is. absurd (none-some style (sym (bare.known x) ∙ is));
  due = λ x there h. cascaded-matched st x (sym (bare.due x there) ∙ h);
  all = λ x there h. bare.due x there ∙ matched_alone (is_matched st x) (root_size_differs st) same h;
  size = size;
}

-- it is told whether it is another, and then all are cascaded
pub walk-begun : (st : Standing) (cache : StyleCache) (b : Bool) (was now : Walk) → IsBare st was → cache.size ≡ root_size_in st.scene → b ≡ root_size_differs st
    → Widens (numbers (elements_of st.scene)) b was now → IsWalk st cache now
walk-begun st cache b was now bare size is widens = record {
  room = λ y there. subst (λ n. y < n) (sym (ap (λ v. length v.items) widens.known)) (bare.room y there);
  due_room = λ y there. subst (λ n. y < n) (sym widens.room) (bare.due_room y there);
  known = λ x style e. absurd (none-some style (sym (ap (λ v. known_at v.items x) widens.known ∙ bare.known x) ∙ e));
  due = λ x there h. by x (is_matched st x) b refl refl (sym (told x there) ∙ h);
  all = λ x there h. told x there ∙ (ap (λ c. is_matched st x || c) is ∙ h);
  size = size;
}
  where
    all_there : (x : ℕ) → IsElement (elements_of st.scene) x → (c : Bool) → (c && is_in x (numbers (elements_of st.scene))) ≡ c
    all_there x there true = sym (is_element-numbers (elements_of st.scene) x) ∙ there
    all_there x there false = refl

    told : (x : ℕ) → IsElement (elements_of st.scene) x → is_in x now.due.items ≡ (is_matched st x || b)
    told x there =
        widens.due x
        ∙ (ap (λ c. c || (b && is_in x (numbers (elements_of st.scene)))) (bare.due x there)
        ∙ ap (λ c. is_matched st x || c) (all_there x there b))

    by : (x : ℕ) (m c : Bool) → is_matched st x ≡ m → b ≡ c → (is_matched st x || b) ≡ true → is_cascaded st x ≡ true
    by x true c em ec h = cascaded-matched st x em
    by x false true em ec h = cascaded-size st x (sym is ∙ ec)
    by x false false em ec h = absurd (false≢true (sym (ap (λ m. m || b) em ∙ ec) ∙ h))

pub size_differs-root : (st : Standing) (r : ℕ) (size : ℤ) (o : Option Style) → root_of (elements_of st.scene) ≡ Some r → size ≡ root_size_in st.scene → kept_at st r ≡ o
    → not (has_size size o) ≡ root_size_differs st
size_differs-root st r size o is same kept =
    ap (λ z. not (has_size z o)) same
    ∙ (ap (λ k. not (has_size (root_size_in st.scene) k)) (sym kept)
    ∙ sym (ap (λ q. option_map_or (λ y. not (has_size (root_size_in st.scene) (kept_at st y))) q false) is))

-- what the definition's walk hands on are the cascaded elements
abbrev pub AreCascaded : Standing → Type 0
AreCascaded st = results st ≡ map (styled_now st) (filter (is_cascaded st) (numbers (elements_of st.scene)))

met-all : (st : Standing) (walk : Walk) → AreCascaded st → HasMet st (numbers (elements_of st.scene)) walk → map styled_seen walk.styled.items ≡ results st
met-all st walk are has = has.styled ∙ sym are

-- what is known where one more is set, and where nothing is

a_style : (n : ℕ) → n < unknown → some_style n ≡ Some n
a_style n below = cond-false (n == unknown) None (Some n) (differs n unknown (λ same. omega (arith, below, same)))

pub known-set : (known : List ℕ) (x new : ℕ) → x < length known → new < unknown → (y : ℕ) → known_at (set known x new) y ≡ cond (x == y) (Some new) (known_at known y)
known-set known x new within below y = by (x == y) refl
  where
    by : (b : Bool) → (x == y) ≡ b → known_at (set known x new) y ≡ cond b (Some new) (known_at known y)
    by true e = ap (known_at (set known x new)) (sym (eqb-true x y e)) ∙ (ap some_style (get_or-set_same known x new unknown within) ∙ a_style new below)
    by false e = ap some_style (get_or-set_other known x y new unknown (λ same. eqb-false x y e (sym same)))

pub known-replicate : (n y : ℕ) → known_at (replicate n unknown) y ≡ None
known-replicate zero y = refl
known-replicate (suc n) zero = refl
known-replicate (suc n) (suc y) = known-replicate n y

-- one step over the order of the elements, after the first

module _ (doc : List Element) (first : ℕ) (rest : List ℕ) (k : ℕ) (is : numbers doc ≡ first ∷ rest) where
  front_is : (n : ℕ) → take (n + 1) (numbers doc) ≡ first ∷ take n rest
  front_is n = ap (take (n + 1)) is ∙ ap (λ m. take m (first ∷ rest)) (add-one n)

  module _ (below : k < length rest) where
    split_order : numbers doc ≡ (first ∷ take k rest) ++ get_or rest k 0 ∷ drop (k + 1) rest
    split_order =
        is ∙ ap (λ l. first ∷ l) (sym (take-append-drop k rest) ∙ ap (λ l. take k rest ++ l) (drop_more rest k 0 below))

    pub next-there : IsElement doc (get_or rest k 0)
    next-there =
        is_element-numbers doc (get_or rest k 0)
        ∙ (ap (is_in (get_or rest k 0)) split_order ∙ in_middle (get_or rest k 0) (first ∷ take k rest) (drop (k + 1) rest))

    pub next-child : IsValid doc → IsSome (parent_of doc (get_or rest k 0))
    next-child v = has_parent doc v first (take k rest) (get_or rest k 0) (drop (k + 1) rest) split_order next-there

    -- its parent is among those before it
    pub next-below : IsValid doc → (p : ℕ) → parent_of doc (get_or rest k 0) ≡ Some p → is_in p (take (k + 1) (numbers doc)) ≡ true
    next-below v p at =
        ap (is_in p) (front_is k) ∙ parent_before doc (first ∷ take k rest) (get_or rest k 0) (drop (k + 1) rest) p v split_order at

    pub next-front : take (k + 1) (numbers doc) ++ get_or rest k 0 ∷ [] ≡ take (k + 1 + 1) (numbers doc)
    next-front =
        ap (λ l. l ++ get_or rest k 0 ∷ []) (front_is k)
        ∙ (ap (λ l. first ∷ l) (sym (take_more rest k 0 below)) ∙ sym (front_is (k + 1)))

pub next-parent : (st : Standing) (walk : Walk) (first : ℕ) (rest : List ℕ) (k : ℕ) → IsValid (elements_of st.scene) → numbers (elements_of st.scene) ≡ first ∷ rest
    → k < length rest → HasMet st (take (k + 1) (numbers (elements_of st.scene))) walk → IsParentMet st walk (get_or rest k 0)
next-parent st walk first rest k v is below has p at =
    has.met p (next-below (elements_of st.scene) first rest k is below v p at)

pub next-met : (st : Standing) (walk : Walk) (first : ℕ) (rest : List ℕ) (k : ℕ) → numbers (elements_of st.scene) ≡ first ∷ rest → k < length rest
    → HasMet st (take (k + 1) (numbers (elements_of st.scene)) ++ get_or rest k 0 ∷ []) walk → HasMet st (take (k + 1 + 1) (numbers (elements_of st.scene))) walk
next-met st walk first rest k is below has =
    subst (λ l. HasMet st l walk) (next-front (elements_of st.scene) first rest k is below) has

-- at the end

pub met-order : (st : Standing) (walk : Walk) (first : ℕ) (rest : List ℕ) (k : ℕ) → AreCascaded st → numbers (elements_of st.scene) ≡ first ∷ rest
    → length rest ≤ k → HasMet st (take (k + 1) (numbers (elements_of st.scene))) walk → map styled_seen walk.styled.items ≡ results st
met-order st walk first rest k are is past has =
    met-all st walk are (subst (λ l. HasMet st l walk) (take_all (k + 1) (numbers (elements_of st.scene)) (omega (arith, ap length is, past))) has)

pub no-results : (st : Standing) (order : List ℕ) → AreCascaded st → order ≡ numbers (elements_of st.scene) → length order ≡ 0 → [] ≡ results st
no-results st order are is none =
    let nothing : numbers (elements_of st.scene) ≡ [] = sym is ∙ nil_from_length order none in
    sym (are ∙ ap (λ l. map (styled_now st) (filter (is_cascaded st) l)) nothing)
