-- For `add_later_siblings`: what the loops keep that take a step of a path.
use Rattle.std.proofs.Common.{◌≡◌, ℕ, zero, suc, ◌+◌, ◌<◌, ◌≢◌, ◌==◌, ◌||◌, nat_eq, Bool, true, false, List, [], ◌∷◌, ◌++◌, length, take, drop, get_or, refl, sym, ap, ◌∙◌, subst, inl, inr, arith}
use Rattle.std.specs.Cmp.{both_ways}
use Rattle.std.specs.List.{AllByRecursion, IsDistinct, list_any}
use Rattle.std.proofs.lemmas.Bool.{false≢true, or_left, or_right, or_cases, or_from, eqb-true}
use Rattle.std.proofs.lemmas.List.{take_more}
use Rattle.std.proofs.lemmas.List.Folds.{list_any-append}
use Rattle.std.proofs.lemmas.Option.{slice_get-get_or}
use Rattle.scene_model.specs.Element.{Element}
use Rattle.scene_model.specs.Lookups.{IsElement, siblings, right_of}
use Rattle.scene_model.specs.Valid.{IsValid}
use Rattle.scene_model.proofs.Any.{any_in, in_any, in_middle}
use Rattle.scene_model.proofs.Lists.{each_weaker, split_at}
use Rattle.scene_model.proofs.Numbers.{copies, copies_distinct, differs, each_is_in}
use Rattle.scene_model.proofs.Siblings.{once_before}
use Rattle.selector_model.specs.Holds.{is_in_relation}
use Rattle.selector_model.specs.Selector.{later_sibling}
use Rattle.scene_model.specs.Numbers.{is_in}
use Rattle.invalidation_map.specs.Members.{Members, AreBelow, AreAdded}
use Rattle.invalidation_map.specs.Steps.{AreElements, AreLed, CanStep, HasRoom, IsClosed}
use Rattle.std.proofs.Math.Bool.{or_assoc}
use Rattle.invalidation_map.proofs.SetLemmas.{front_front, or_no}
use Rattle.invalidation_map.proofs.LeadLemmas.{later_led, distinct_siblings, same_siblings}
use Rattle.invalidation_map.proofs.OnwardLemmas.{parted, right_has, right_in, right_later, right_of_right}

pub each_get : (P : ℕ → Type 0) (xs : List ℕ) (i : ℕ) → AllByRecursion P xs → i < length xs → P (get_or xs i 0)
each_get P [] i h l = absurd (omega arith)
each_get P (x ∷ xs) zero h l = h.0
each_get P (x ∷ xs) (suc i) h l = each_get P xs i h.1 (omega arith)

pub below_all : (doc : List Element) (room : ℕ) (xs : List ℕ) → HasRoom doc room → AreElements doc xs → AreBelow room xs
below_all doc room xs h k = each_weaker (IsElement doc) (λ x. x < room) h xs k

-- also into a set that was cleared
pub can_cleared : (doc : List Element) (from : List ℕ) (old cleared : Members) → cleared.room ≡ old.room → CanStep doc from old → CanStep doc from cleared
can_cleared doc from old cleared same can = record { elements = can.elements; room = subst (HasRoom doc) (sym same) can.room }

any_last : (p : ℕ → Bool) (xs : List ℕ) (y : ℕ) → list_any p (xs ++ y ∷ []) ≡ (list_any p xs || p y)
any_last p xs y = list_any-append p xs (y ∷ []) ∙ ap (λ b. list_any p xs || b) (sym (or_no (p y)))

-- one more of the list
pub led_next : (f : ℕ → ℕ → Bool) (from ys : List ℕ) (i : ℕ) (m n o : Members) → i < length from → AreLed f (take i from) m n → AreAdded ys n o → ((x : ℕ) → is_in x ys ≡ f (get_or from i 0) x)
    → AreLed f (take (i + 1) from) m o
led_next f from ys i m n o l led more same = record {
  room = more.room ∙ led.room;
  each = λ x.
      more.each x ∙ (ap (λ b. b || is_in x ys) (led.each x) ∙ (or_assoc (is_in x m.items) (list_any (λ y. f y x) (take i from)) (is_in x ys)
      ∙ ap (λ b. is_in x m.items || b) (ap (λ b. list_any (λ y. f y x) (take i from) || b) (same x)
      ∙ (sym (any_last (λ y. f y x) (take i from) (get_or from i 0)) ∙ ap (list_any (λ y. f y x)) (sym (take_more from i 0 l))))));
  front = front_front m.items n.items o.items led.front more.front;
}

-- later siblings: a set in which each one's are is closed
pub closed_now : (doc : List Element) → IsValid doc → (xs : List ℕ) (old now : Members) (x : ℕ) → AreElements doc xs → old.items ≡ [] → AreLed (is_in_relation doc later_sibling) xs old now
    → IsClosed (right_of x (siblings doc x)) now.items
closed_now doc v xs old now x are none led n z h k =
    let (y, (i, t)) = any_in (λ y. is_in_relation doc later_sibling y n) xs (sym (led.each n ∙ ap (λ l. is_in n l || list_any (λ y. is_in_relation doc later_sibling y n) xs) none) ∙ h) in
    let element : IsElement doc y = each_is_in (IsElement doc) y xs are i in
    let first : is_in n (right_of y (siblings doc y)) ≡ true = later_led doc v y n element ∙ t in
    let then : is_in z (right_of n (siblings doc x)) ≡ true = right_of_right n x z (siblings doc x) k in
    let same : siblings doc x ≡ siblings doc y =
    same_siblings doc v x n (right_has n z (siblings doc x) (distinct_siblings doc v x) then) ∙ sym (same_siblings doc v y n (in_after y n (siblings doc y) first)) in
    let after : is_in z (right_of y (siblings doc y)) ≡ true =
    right_later y n z (siblings doc y) (distinct_siblings doc v y) first (ap (λ l. is_in z (right_of n l)) (sym same) ∙ then) in
    led.each z ∙ or_right (is_in z old.items) (list_any (λ y. is_in_relation doc later_sibling y z) xs)
    (in_any (λ y. is_in_relation doc later_sibling y z) y xs i (sym (later_led doc v y z element) ∙ after))
  where
    in_after : (y n : ℕ) (zs : List ℕ) → is_in n (right_of y zs) ≡ true → is_in n zs ≡ true
    in_after y n zs h = right_in zs y n h

none_same : (n : ℕ) (xs : List ℕ) → AllByRecursion (λ y. y ≢ n) xs → is_in n xs ≡ false
none_same n [] h = refl
none_same n (x ∷ xs) h = or_from (x == n) (is_in n xs) (differs x n h.0) (none_same n xs h.1)

-- the first that is met is in the set, and so are all after it
pub met : (numbers : List ℕ) (i : ℕ) (old now : Members) → i < length numbers → IsDistinct nat_eq numbers → IsClosed numbers old.items → AreAdded (take i numbers) old now
    → is_in (get_or numbers i 0) now.items ≡ true → AreAdded numbers old now
met numbers i old now l d closed added here = record {
  room = added.room;
  each = λ x. added.each x
      ∙ both_ways (is_in x old.items || is_in x (take i numbers)) (is_in x old.items || is_in x numbers) (there x) (back x);
  front = added.front;
}
  where
    n : ℕ
    n = get_or numbers i 0

    whole : numbers ≡ take i numbers ++ n ∷ drop (suc i) numbers
    whole = split_at numbers i n (slice_get-get_or numbers i 0 l)

    inside : is_in n numbers ≡ true
    inside = ap (λ l. is_in n l) whole ∙ in_middle n (take i numbers) (drop (suc i) numbers)

    unmet : is_in n (take i numbers) ≡ false
    unmet = none_same n (take i numbers) (once_before n (take i numbers) (drop (suc i) numbers) (ap (copies n) (sym whole) ∙ copies_distinct n numbers d inside))

    before : is_in n old.items ≡ true
    before = elim (or_cases (is_in n old.items) (is_in n (take i numbers)) (sym (added.each n) ∙ here)) [
      | inl h ↦ h
      | inr h ↦ absurd (false≢true (sym unmet ∙ h))
    ]

    has_whole : (x : ℕ) → is_in x numbers ≡ (is_in x (take i numbers) || ((n == x) || is_in x (drop (suc i) numbers)))
    has_whole x = ap (λ l. is_in x l) whole ∙ list_any-append (λ z. z == x) (take i numbers) (n ∷ drop (suc i) numbers)

    there : (x : ℕ) → (is_in x old.items || is_in x (take i numbers)) ≡ true → (is_in x old.items || is_in x numbers) ≡ true
    there x h = elim (or_cases (is_in x old.items) (is_in x (take i numbers)) h) [
      | inl k ↦ or_left (is_in x old.items) (is_in x numbers) k
      | inr k ↦ or_right (is_in x old.items) (is_in x numbers) (has_whole x ∙ or_left (is_in x (take i numbers)) ((n == x) || is_in x (drop (suc i) numbers)) k)
    ]

    after : (x : ℕ) → ((n == x) || is_in x (drop (suc i) numbers)) ≡ true → is_in x old.items ≡ true
    after x h = elim (or_cases (n == x) (is_in x (drop (suc i) numbers)) h) [
      | inl k ↦ subst (λ z. is_in z old.items ≡ true) (eqb-true n x k) before
      | inr k ↦ closed n x before (ap (λ l. is_in x l) (parted numbers d n (take i numbers) (drop (suc i) numbers) inside whole).1 ∙ k)
    ]

    back : (x : ℕ) → (is_in x old.items || is_in x numbers) ≡ true → (is_in x old.items || is_in x (take i numbers)) ≡ true
    back x h = elim (or_cases (is_in x old.items) (is_in x numbers) h) [
      | inl k ↦ or_left (is_in x old.items) (is_in x (take i numbers)) k
      | inr k ↦ elim (or_cases (is_in x (take i numbers)) ((n == x) || is_in x (drop (suc i) numbers)) (sym (has_whole x) ∙ k)) [
        | inl m ↦ or_right (is_in x old.items) (is_in x (take i numbers)) m
        | inr m ↦ or_left (is_in x old.items) (is_in x (take i numbers)) (after x m)
      ]
    ]
