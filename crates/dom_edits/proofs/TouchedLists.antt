-- What is touched where lists of children change, as it is kept.
use Rattle.std.proofs.Common.{◌≡◌, ℕ, ◌<◌, ◌≤◌, ◌==◌, ◌||◌, ◌&&◌, Bool, true, false, List, [], ◌∷◌, ◌++◌, map, length, refl, sym, ap, ◌∙◌, subst, arith, append-nil, append_assoc}
use Rattle.std.specs.List.{flat_map, list_any}
use Rattle.std.specs.List.Sorted.{IsPermutation}
use Rattle.std.proofs.lemmas.List.Folds.{list_any-append}
use Rattle.std.proofs.lemmas.List.Sorted.{IsPermutation-refl, IsPermutation-trans, IsPermutation-cons, IsPermutation-append_left, IsPermutation-append_right, IsPermutation-append_comm}
use Rattle.scene_model.specs.Element.{Element}
use Rattle.scene_model.specs.Lookups.{children}
use Rattle.scene_model.specs.Numbers.{is_in}
use Rattle.edit_model.proofs.Lists.{equal_turned}
use Rattle.edit_model.specs.Touched as model
use Rattle.edit_model.specs.TouchedBy.{same_touch, same_pair, is_listed}
use Rattle.edit_model.specs.TouchedPairs.{child_pairs, parent_pairs}
use Rattle.stylo_base.specs.declared.state.State.{State}
use Rattle.stylo_base.specs.declared.state.State.TheVariants as states
use Rattle.dom_edits.specs.declared.touch.Touch.{Touch}
use Rattle.dom_edits.specs.declared.touch.Touch.TheVariants as kinds
use Rattle.dom_edits.specs.TouchView.{AreAllTouches, pairs_at, touch_seen}
use Rattle.dom_edits.specs.TouchedView.{AreOfOneKind, list_pairs, list_touches, touched_seen}
use Rattle.dom_edits.proofs.TouchLemmas.{listed_at}

-- the pairs of the model, in another order

abbrev at_parents : List ℕ → List (model.Touch × ℕ)
at_parents ps = map (λ p. (model.empty, p)) ps

abbrev at_children : List ℕ → List (model.Touch × ℕ)
at_children cs = flat_map child_pairs cs

children-append : (xs ys : List ℕ) → at_children (xs ++ ys) ≡ at_children xs ++ at_children ys
children-append [] ys = refl
children-append (x ∷ xs) ys = ap (λ l. (model.positional, x) ∷ (model.sibling, x) ∷ l) (children-append xs ys)

pub lists_moved : (now : List Element) (ps : List ℕ) → IsPermutation (flat_map (parent_pairs now) ps) (list_pairs ps (flat_map (children now) ps))
lists_moved now [] = IsPermutation-refl []
lists_moved now (p ∷ ps) =
    let own : List (model.Touch × ℕ) = at_children (children now p) in
    let others : List (model.Touch × ℕ) = flat_map (parent_pairs now) ps in
    let parents : List (model.Touch × ℕ) = at_parents ps in
    let rest : List (model.Touch × ℕ) = at_children (flat_map (children now) ps) in
    let first : IsPermutation (own ++ others) (own ++ (parents ++ rest)) = IsPermutation-append_right own others (parents ++ rest) (lists_moved now ps) in
    let second : IsPermutation ((own ++ parents) ++ rest) ((parents ++ own) ++ rest) = IsPermutation-append_left rest (own ++ parents) (parents ++ own) (IsPermutation-append_comm own parents) in
    IsPermutation-cons (model.empty, p) (own ++ others) (parents ++ at_children (children now p ++ flat_map (children now) ps))
    (IsPermutation-trans (own ++ others) (own ++ (parents ++ rest)) (parents ++ at_children (children now p ++ flat_map (children now) ps)) first
    (subst (λ (l : List (model.Touch × ℕ)). IsPermutation (own ++ (parents ++ rest)) l) (append_assoc parents own rest ∙ ap (λ l. parents ++ l) (sym (children-append (children now p) (flat_map (children now) ps))))
    (subst (λ (l : List (model.Touch × ℕ)). IsPermutation l ((parents ++ own) ++ rest)) (append_assoc own parents rest) second)))

-- so those of some lists, as they are kept
pub lists_told : (now : List Element) (qs ps kids : List ℕ) (told : List (model.Touch × ℕ)) → qs ≡ ps → kids ≡ flat_map (children now) qs → told ≡ list_pairs ps kids → IsPermutation (flat_map (parent_pairs now) qs) told
lists_told now qs ps kids told same are is =
    subst (λ (l : List (model.Touch × ℕ)). IsPermutation (flat_map (parent_pairs now) qs) l) (sym (is ∙ (λ i. list_pairs (sym same i) (are i)))) (lists_moved now qs)

-- what is listed

or_no : (b : Bool) → (b || false) ≡ b
or_no true = refl
or_no false = refl

parents_listed : (k : model.Touch) (y : ℕ) (ps : List ℕ) → is_listed (at_parents ps) k y ≡ (same_touch k model.empty && is_in y ps)
parents_listed k y [] = none (same_touch k model.empty)
  where
    none : (b : Bool) → false ≡ (b && false)
    none true = refl
    none false = refl
parents_listed k y (p ∷ ps) =
    ap (λ b. (same_touch k model.empty && (y == p)) || b) (parents_listed k y ps)
    ∙ (both (same_touch k model.empty) (y == p) (is_in y ps) ∙ ap (λ b. same_touch k model.empty && (b || is_in y ps)) (equal_turned y p))
  where
    both : (a b c : Bool) → ((a && b) || (a && c)) ≡ (a && (b || c))
    both true b c = refl
    both false b c = refl

children_listed : (k : model.Touch) (y : ℕ) (cs : List ℕ) → is_listed (at_children cs) k y ≡ ((same_touch k model.positional || same_touch k model.sibling) && is_in y cs)
children_listed k y [] = none (same_touch k model.positional || same_touch k model.sibling)
  where
    none : (b : Bool) → false ≡ (b && false)
    none true = refl
    none false = refl
children_listed k y (c ∷ cs) =
    ap (λ r. (same_touch k model.positional && (y == c)) || ((same_touch k model.sibling && (y == c)) || r)) (children_listed k y cs)
    ∙ (all (same_touch k model.positional) (same_touch k model.sibling) (y == c) (is_in y cs)
    ∙ ap (λ b. (same_touch k model.positional || same_touch k model.sibling) && (b || is_in y cs)) (equal_turned y c))
  where
    all : (p s e r : Bool) → ((p && e) || ((s && e) || ((p || s) && r))) ≡ ((p || s) && (e || r))
    all true true true r = refl
    all true true false r = refl
    all true false true r = refl
    all true false false r = refl
    all false true true r = refl
    all false true false r = refl
    all false false e r = refl

-- of lists alone
lists_listed : (k : model.Touch) (y : ℕ) (ps cs : List ℕ) → is_listed (list_pairs ps cs) k y ≡ ((same_touch k model.empty && is_in y ps) || ((same_touch k model.positional || same_touch k model.sibling) && is_in y cs))
lists_listed k y ps cs =
    list_any-append (same_pair (k, y)) (at_parents ps) (at_children cs) ∙ (λ i. parents_listed k y ps i || children_listed k y cs i)

module _ (touches : List Touch) (elements parents kids : List ℕ) (now : List (model.Touch × ℕ)) (view : touched_seen touches elements parents kids ≡ now) (k : model.Touch) where
  parts_listed : (y : ℕ) → is_listed now k y ≡ ((list_any (same_touch k) (map touch_seen touches) && is_in y elements) || is_listed (list_pairs parents kids) k y)
  parts_listed y =
      ap (λ pairs. is_listed pairs k y) (sym view)
      ∙ (list_any-append (same_pair (k, y)) (pairs_at (map touch_seen touches) elements) (list_pairs parents kids)
      ∙ ap (λ b. b || is_listed (list_pairs parents kids) k y) (listed_at k y (map touch_seen touches) elements))

  some_touch : (list : List Touch) → list_any (same_touch k) (map touch_seen list) ≡ true → 0 < length list
  some_touch [] h = absurd (cc)
  some_touch (touch ∷ list) h = omega arith

  -- where the touch is among those of the elements
  pub at_elements : AreOfOneKind touches parents kids → list_any (same_touch k) (map touch_seen touches) ≡ true → (y : ℕ) → is_in y elements ≡ is_listed now k y
  at_elements kind has y =
      let none = kind (some_touch touches has) in
      sym (parts_listed y
      ∙ ((λ i. (has i && is_in y elements) || is_listed (list_pairs (none.0 i) (none.1 i)) k y) ∙ or_no (is_in y elements)))

  -- and where it is not
  pub at_lists : list_any (same_touch k) (map touch_seen touches) ≡ false → (y : ℕ) → ((same_touch k model.empty && is_in y parents) || ((same_touch k model.positional || same_touch k model.sibling) && is_in y kids)) ≡ is_listed now k y
  at_lists none y =
      sym (parts_listed y ∙ (ap (λ b. (b && is_in y elements) || is_listed (list_pairs parents kids) k y) none ∙ lists_listed k y parents kids))

-- by the touch

module _ (touches : List Touch) (elements parents kids : List ℕ) (now : List (model.Touch × ℕ)) (view : touched_seen touches elements parents kids ≡ now) (touch : Touch)
    (none : list_any (same_touch (touch_seen touch)) (map touch_seen touches) ≡ false) where
  abbrev by_touch : Touch → ℕ → Bool
  by_touch t y =
      (same_touch (touch_seen t) model.empty && is_in y parents) || ((same_touch (touch_seen t) model.positional || same_touch (touch_seen t) model.sibling) && is_in y kids)

  told : (y : ℕ) → by_touch touch y ≡ is_listed now (touch_seen touch) y
  told y = at_lists touches elements parents kids now view (touch_seen touch) none y

  pub at_parents_of : touch ≡ kinds.Empty → (y : ℕ) → is_in y parents ≡ is_listed now (touch_seen touch) y
  at_parents_of is y = sym (or_no (is_in y parents)) ∙ (sym (ap (λ t. by_touch t y) is) ∙ told y)

  pub at_places_of : touch ≡ kinds.Positional → (y : ℕ) → is_in y kids ≡ is_listed now (touch_seen touch) y
  at_places_of is y = sym (ap (λ t. by_touch t y) is) ∙ told y

  pub at_neighbours_of : touch ≡ kinds.Sibling → (y : ℕ) → is_in y kids ≡ is_listed now (touch_seen touch) y
  at_neighbours_of is y = sym (ap (λ t. by_touch t y) is) ∙ told y

  no_other : (t : Touch) → (t ≡ kinds.Empty → ⊥) → (t ≡ kinds.Positional → ⊥) → (t ≡ kinds.Sibling → ⊥) → (y : ℕ) → by_touch t y ≡ false
  no_other (kinds.Attribute name) a b c y = refl
  no_other (kinds.Id name) a b c y = refl
  no_other (kinds.Class name) a b c y = refl
  no_other (kinds.State s) a b c y = by s
    where
      by : (s : State) → by_touch (kinds.State s) y ≡ false
      by states.Hover = refl
      by states.Active = refl
      by states.Focus = refl
  no_other kinds.Empty a b c y = absurd (a refl)
  no_other kinds.Positional a b c y = absurd (b refl)
  no_other kinds.Sibling a b c y = absurd (c refl)

  pub at_none : (touch ≡ kinds.Empty → ⊥) → (touch ≡ kinds.Positional → ⊥) → (touch ≡ kinds.Sibling → ⊥) → (y : ℕ) → false ≡ is_listed now (touch_seen touch) y
  at_none a b c y = sym (no_other touch a b c y) ∙ told y

-- where no list changed
pub lists_none : (touches : List Touch) (elements parents kids : List ℕ) → parents ≡ [] → kids ≡ [] → touched_seen touches elements parents kids ≡ pairs_at (map touch_seen touches) elements
lists_none touches elements parents kids e f =
    (λ i. pairs_at (map touch_seen touches) elements ++ list_pairs (e i) (f i)) ∙ append-nil (pairs_at (map touch_seen touches) elements)

-- no others, where no elements are touched
pub all_lists : (touches : List Touch) (elements parents kids : List ℕ) (now : List (model.Touch × ℕ)) → touched_seen touches elements parents kids ≡ now → length touches ≡ 0 → AreAllTouches list_touches now
all_lists [] elements parents kids now view few touch y h =
    by (same_touch touch model.empty) (same_touch touch model.positional) (same_touch touch model.sibling) (is_in y parents) (is_in y kids)
    (at_lists [] elements parents kids now view touch refl y ∙ h)
  where
    by : (e p s a b : Bool) → ((e && a) || ((p || s) && b)) ≡ true → (e || (p || (s || false))) ≡ true
    by true p s a b h = refl
    by false true s a b h = refl
    by false false true a b h = refl
    by false false false a b h = h
all_lists (t ∷ touches) elements parents kids now view few touch y h = absurd (omega (arith, few))

-- where some are, lists are none
pub no_lists : (touches : List Touch) (elements parents kids : List ℕ) (now : List (model.Touch × ℕ)) → touched_seen touches elements parents kids ≡ now → AreOfOneKind touches parents kids → 0 < length touches → now ≡ pairs_at (map touch_seen touches) elements
no_lists touches elements parents kids now view kind some =
    let none = kind some in
    sym view
    ∙ ((λ i. pairs_at (map touch_seen touches) elements ++ list_pairs (none.0 i) (none.1 i)) ∙ append-nil (pairs_at (map touch_seen touches) elements))
