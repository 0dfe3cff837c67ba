-- Depths, by climbing and along a subtree.
use Rattle.std.proofs.Common.{◌≡◌, ◌≢◌, ℕ, zero, suc, ◌+◌, ◌-◌, ◌<◌, ◌≤◌, ◌||◌, ◌&&◌, Bool, true, false, List, [], ◌∷◌, ◌++◌}
use Rattle.std.proofs.Common.{length, take, drop, get_or, nat_eq, Option, Some, None, slice_get, nat_le, sym, ap, ◌∙◌, subst, refl, inl, inr, arith, append_assoc, length-append}
use Rattle.std.specs.List.{IsDistinct, list_all}
use Rattle.std.proofs.lemmas.Bool.{le-leb, leb-true, leb-false, lt-leb}
use Rattle.std.proofs.lemmas.List.{get_or-drop, get_or-take, length-map, length-take-le, take_all}
use Rattle.std.proofs.lemmas.List.Folds.{list_all-map, list_all_more}
use Rattle.std.proofs.lemmas.Option.{slice_get_within}
use Rattle.scene_model.specs.Document.{Document}
use Rattle.scene_model.specs.Ancestors.{position_of, up, climb, ancestors, depth_of}
use Rattle.scene_model.specs.Element.{Element}
use Rattle.scene_model.specs.Lookups.{IsElement, has_number, numbers, parent_of}
use Rattle.scene_model.specs.Valid.{IsValid}
use Rattle.scene_model.proofs.Climbing.{parent-before}
use Rattle.scene_model.proofs.Found.{is_element-numbers, position_of-numbers}
use Rattle.scene_model.proofs.Lists.{split_at}
use Rattle.scene_model.proofs.Numbers.{differs, index_in, split_in}
use Rattle.change_model.specs.Sound.{IsSound, is_below, subtree_of}
use Rattle.change_model.proofs.Below.{below-child, below-root, below_cases, below_itself, below_parent}
use Rattle.change_model.proofs.Ends.{place_of_split}
use Rattle.change_model.proofs.Orders.{at_seam, numbers-subtree}
use Rattle.change_model.proofs.PlaceOfIndex.{get_in}
use Rattle.change_model.proofs.Places.{place_within}
use Rattle.change_model.proofs.Spots.{subtree_ends, subtree_within}

one_longer : (above : ℕ → List ℕ) (n : ℕ) (o : Option ℕ) → ((p : ℕ) → length (above p) ≤ n) → length (up above o) ≤ suc n
one_longer above n None h = omega arith
one_longer above n (Some p) h = omega (arith, h p)

short : (doc : List Element) (n x : ℕ) → length (climb doc n x) ≤ n
short doc zero x = omega arith
short doc (suc n) x = one_longer (climb doc n) n (parent_of doc x) (λ p. short doc n p)

-- no element is deeper than there are elements
pub depth_within : (doc : List Element) (x : ℕ) → IsElement doc x → depth_of doc x ≤ length doc
unfolding ancestors
depth_within doc x there = omega (arith, short doc (position_of doc x) x, place_within (has_number x) doc there)

-- below a parent, or not
pub below_next : (doc : List Element) → IsValid doc → (top at p : ℕ) → at ≢ top → parent_of doc at ≡ Some p → is_below doc top p ≡ is_below doc top at
below_next doc v top at p other e = sym (below-child doc v top at p e ∙ ap (λ b. b || is_below doc top p) (differs at top other))

pub below_none : (doc : List Element) → IsValid doc → (top at : ℕ) → at ≢ top → parent_of doc at ≡ None → false ≡ is_below doc top at
below_none doc v top at other e = sym (below-root doc v top at e ∙ ap (λ b. b || false) (differs at top other))

-- what is below an element, but not it, has a parent that is below it
pub parent_next : (doc : List Element) → IsValid doc → (p top : ℕ) → top ≢ p → is_below doc p top ≡ true → (q : ℕ) × (parent_of doc top ≡ Some q) × (is_below doc p q ≡ true)
parent_next doc v p top other h = elim (below_cases doc v p top h) [
  | inl same ↦ absurd (other (sym same))
  | inr found ↦ found
]

-- along a subtree

get_is : (xs : List ℕ) (k : ℕ) → k < length xs → slice_get xs k ≡ Some (get_or xs k 0)
get_is [] k h = absurd (omega (arith, h))
get_is (x ∷ xs) zero h = refl
get_is (x ∷ xs) (suc k) h = get_is xs k (omega (arith, h))

pub get_any : (xs : List ℕ) (k : ℕ) → k < length xs → get_or xs k 0 ≡ get_or xs k (get_or xs k 0)
get_any xs k h = by xs k (get_or xs k 0) h
  where
    by : (xs : List ℕ) (k d : ℕ) → k < length xs → get_or xs k 0 ≡ get_or xs k d
    by [] k d h = absurd (omega (arith, h))
    by (x ∷ xs) zero d h = refl
    by (x ∷ xs) (suc k) d h = by xs k d (omega (arith, h))

length-take-le_any : (n : ℕ) (xs : List ℕ) → length (take n xs) ≤ n
length-take-le_any zero xs = omega arith
length-take-le_any (suc n) [] = omega arith
length-take-le_any (suc n) (x ∷ xs) = omega (arith, length-take-le_any n xs)

nat_le_later : (most later depth n : ℕ) → most ≤ later → depth ≤ later → (most ≤ n → depth ≤ n → later ≤ n) → nat_le later n ≡ (nat_le most n && nat_le depth n)
nat_le_later most later depth n l k least = by (nat_le most n) (nat_le depth n) refl refl
  where
    by : (b c : Bool) → nat_le most n ≡ b → nat_le depth n ≡ c → nat_le later n ≡ (b && c)
    by true true e f = le-leb later n (least (leb-true most n e) (leb-true depth n f))
    by true false e f = lt-leb later n (omega (arith, leb-false depth n f, k))
    by false c e f = lt-leb later n (omega (arith, leb-false most n e, l))

and_more : (a b c : Bool) → ((a && b) && c) ≡ (a && (b && c))
and_more true b c = refl
and_more false b c = refl

-- the greatest of some numbers, and of one more
pub one_deeper : {X : Type 0} (amount : X → ℕ) (first : Bool) (xs : List X) (i : ℕ) (x : X) (most later n : ℕ) → i < length xs → x ≡ get_or xs i x → most ≤ later → amount x ≤ later
    → (most ≤ n → amount x ≤ n → later ≤ n)
    → nat_le most n ≡ (first && list_all (λ y. nat_le (amount y) n) (take i xs)) → nat_le later n ≡ (first && list_all (λ y. nat_le (amount y) n) (take (i + 1) xs))
one_deeper amount first xs i x most later n within is l k least so_far =
    nat_le_later most later (amount x) n l k least
    ∙ (ap (λ b. b && nat_le (amount x) n) so_far
    ∙ (and_more first (list_all (λ y. nat_le (amount y) n) (take i xs)) (nat_le (amount x) n)
    ∙ ap (λ b. first && b) (ap (λ y. list_all (λ z. nat_le (amount z) n) (take i xs) && nat_le (amount y) n) is ∙ sym (list_all_more (λ y. nat_le (amount y) n) xs i x within))))

module _ {d : Document} (sound : IsSound d) where
  abbrev doc : List Element
  doc = d.elements

  -- an element by its position
  pub at_position : {order : List ℕ} (k y : ℕ) → order ≡ numbers doc → slice_get order k ≡ Some y → IsElement doc y × (position_of doc y ≡ k)
  at_position {order} k y same at =
      let there : slice_get (numbers doc) k ≡ Some y = ap (λ l. slice_get l k) (sym same) ∙ at in
      let split = split_at (numbers doc) k y there in
      let within : k < length (numbers doc) = slice_get_within (numbers doc) k y there in (
        is_element-numbers doc y ∙ get_in (numbers doc) k y there,
        position_of-numbers doc y ∙ (ap (λ l. index_in l y) split
            ∙ (place_of_split y (take k (numbers doc)) (drop (suc k) (numbers doc)) (subst (IsDistinct nat_eq) split sound.valid.distinct) ∙ length-take-le k (numbers doc) (omega (arith, within)))),
      )

  -- a parent is above what is right before its child
  pub above_last : (last y k : ℕ) → position_of doc last ≡ k → IsElement doc y → position_of doc y ≡ k + 1 → (p : ℕ) → parent_of doc y ≡ Some p → is_below doc p last ≡ true
  above_last last y k at there next p e =
      sound.runs p last y there (below_parent doc sound.valid p y p e (below_itself doc p)) (omega (arith, at, next, parent-before doc sound.valid y p e)) (omega (arith, at, next))

  module _ (x : ℕ) (there : IsElement doc x) where
    abbrev size : ℕ
    size = length (subtree_of doc x)

    pub some : 0 < size
    some = omega (arith, subtree_ends doc sound.valid sound.runs x there x there (below_itself doc x))

    pub inside : position_of doc x + size ≤ length doc
    inside = subtree_within doc sound.valid sound.runs x there

    -- the numbers of a subtree: its top, and those behind it
    module _ {below : List ℕ} (is : below ≡ take (size - 1) (drop (position_of doc x + 1) (numbers doc))) where
      pub top_first : numbers (subtree_of doc x) ≡ x ∷ below
      top_first =
          let start : ℕ = position_of doc x in
          let (before, behind, split) = split_in x (numbers doc) (sym (is_element-numbers doc x) ∙ there) in
          let front : start ≡ length before = position_of-numbers doc x ∙ (ap (λ l. index_in l x) split ∙ place_of_split x before behind (subst (IsDistinct nat_eq) split sound.valid.distinct)) in
          let one = (at_seam start before (x ∷ behind) (numbers doc) split front).1 in
          let more = (at_seam (start + 1) (before ++ x ∷ []) behind (numbers doc) (split ∙ sym (append_assoc before (x ∷ []) behind)) (omega (arith, front, length-append before (x ∷ [])))).1 in
          let so_many : size ≡ suc (size - 1) = omega (arith, some) in
          numbers-subtree doc sound.valid sound.runs x there
          ∙ (ap (take size) one ∙ (ap (λ n. take n (x ∷ behind)) so_many ∙ ap (λ l. x ∷ l) (sym (is ∙ ap (take (size - 1)) more))))

      -- so a test of each element of a subtree
      pub each_below : (p : ℕ → Bool) (i : ℕ) → length below ≤ i → (p x && list_all p (take i below)) ≡ list_all (λ e. p e.number) (subtree_of doc x)
      each_below p i all =
          ap (λ l. p x && list_all p l) (take_all i below all)
          ∙ (ap (list_all p) (sym top_first) ∙ list_all-map p (λ (e : Element). e.number) (subtree_of doc x))

      -- the positions of those behind the top
      pub below_at : (i : ℕ) → i < length below → IsElement doc (get_or below i 0) × (position_of doc (get_or below i 0) ≡ position_of doc x + (i + 1))
      below_at i l =
          let start : ℕ = position_of doc x in
          let short : length below ≤ size - 1 = omega (arith, ap length is, length-take-le_any (size - 1) (drop (start + 1) (numbers doc))) in
          let long : start + 1 + i < length (numbers doc) = omega (arith, l, short, inside, some, length-map doc (λ (e : Element). e.number)) in
          let same : get_or below i 0 ≡ get_or (numbers doc) (start + 1 + i) 0 = ap (λ l. get_or l i 0) is
          ∙ (get_or-take (size - 1) (drop (start + 1) (numbers doc)) i 0 (omega (arith, l, short)) ∙ get_or-drop (start + 1) (numbers doc) i 0) in
          let found = at_position {order = numbers doc} (start + 1 + i) (get_or below i 0) refl (get_is (numbers doc) (start + 1 + i) long ∙ ap Some (sym same)) in
          (found.0, found.1 ∙ omega arith)
