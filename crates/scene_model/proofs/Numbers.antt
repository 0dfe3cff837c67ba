-- Lemmas on lists of numbers: which are in them, and how often.
use Rattle.std.proofs.Common.{◌≡◌, ◌≢◌, ℕ, zero, suc, ◌+◌, ◌<◌, ◌≤◌, ◌==◌, nat_eq, List, [], ◌∷◌, ◌++◌, filter, flat_map, length, take, Bool, true, false, cond, not, ◌||◌, refl, sym, ap, ◌∙◌, subst, one-add, arith}
use Rattle.std.specs.List.{AllByRecursion, list_any, IsDistinct, range_with_len, prefix_len, position_or_len}
use Rattle.std.proofs.lemmas.Bool.Decides.{nat_tests}
use Rattle.std.proofs.lemmas.Bool.{cond-true, eq-eqb, ne_eqb, eqb-true, false_from_ne_true, false≢true}
use Rattle.std.proofs.lemmas.List.Folds.{list_any-append}
use Rattle.std.proofs.lemmas.List.Filters.{length-filter_both}
use Rattle.scene_model.specs.Lookups.{left_of}
pub use Rattle.scene_model.specs.Numbers.{is_in}
use Rattle.scene_model.proofs.Lists.{filter_nothing, filter-filter, each_weaker, each-filter}

-- where a number is first, or the length
abbrev pub index_in : List ℕ → ℕ → ℕ
index_in xs x = position_or_len (λ y. y == x) xs

-- the number as often as it is in the list
abbrev pub copies : ℕ → List ℕ → List ℕ
copies x xs = filter (λ y. y == x) xs

pub same_number : (x : ℕ) → (x == x) ≡ true
same_number x = eq-eqb x x refl

pub differs : (x y : ℕ) → x ≢ y → (x == y) ≡ false
differs x y h = ne_eqb x y h

pub differs_turned : (x y : ℕ) → (x == y) ≡ false → (y == x) ≡ false
differs_turned x y h = grind (arith, nat_tests)

-- not in the list

pub copies_absent : (x : ℕ) (xs : List ℕ) → AllByRecursion (λ y. x ≢ y) xs → copies x xs ≡ []
copies_absent x xs h = filter_nothing (λ y. y == x) xs (each_weaker (λ y. x ≢ y) (λ y. (y == x) ≡ false) (λ y k. differs y x (λ e. k (sym e))) xs h)

each_at : (P : ℕ → Type 0) (x y : ℕ) (xs : List ℕ) (b : Bool) → (y == x) ≡ b → P y → (is_in x xs ≡ true → P x) → (b || is_in x xs) ≡ true → P x
each_at P x y xs true e h r k = subst P (eqb-true y x e) h
each_at P x y xs false e h r k = r k

-- what holds of each holds of one
pub each_is_in : (P : ℕ → Type 0) (x : ℕ) (xs : List ℕ) → AllByRecursion P xs → is_in x xs ≡ true → P x
each_is_in P x [] h k = absurd (cc)
each_is_in P x (y ∷ xs) h k = each_at P x y xs (y == x) refl h.0 (each_is_in P x xs h.1) k

-- what a test finds, a filter by it keeps
kept_any : {X : Type 0} (p : X → Bool) (b : Bool) (x : X) (xs : List X) → p x ≡ b → list_any p (filter p xs) ≡ list_any p xs → list_any p (cond b (x ∷ filter p xs) (filter p xs)) ≡ (b || list_any p xs)
kept_any p true x xs e h = rw e
kept_any p false x xs e h = h

pub any-filter : {X : Type 0} (p : X → Bool) (xs : List X) → list_any p (filter p xs) ≡ list_any p xs
any-filter p [] = refl
any-filter p (x ∷ xs) = kept_any p (p x) x xs refl (any-filter p xs)

pub is_in-copies : (x : ℕ) (xs : List ℕ) → is_in x (copies x xs) ≡ is_in x xs
is_in-copies x xs = any-filter (λ y. y == x) xs

pub in_copied : (x : ℕ) (xs ys : List ℕ) → copies x xs ≡ x ∷ ys → is_in x xs ≡ true
in_copied x xs ys h = sym (is_in-copies x xs) ∙ (ap (is_in x) h ∙ ap (λ b. b || is_in x ys) (same_number x))

wider_kept : {X : Type 0} (p q : X → Bool) (b : Bool) (x : X) (xs : List X) → q x ≡ b → (p x ≡ true → b ≡ true) → list_any p (filter q xs) ≡ list_any p xs → list_any p (cond b (x ∷ filter q xs) (filter q xs)) ≡ (p x || list_any p xs)
wider_kept p q true x xs e w h = ap (λ b. p x || b) h
wider_kept p q false x xs e w h = h ∙ ap (λ b. b || list_any p xs) (sym (false_from_ne_true (p x) (λ k. false≢true (w k))))

-- a wider filter keeps what a test finds
pub any-filter_wider : {X : Type 0} (p q : X → Bool) → ((x : X) → p x ≡ true → q x ≡ true) → (xs : List X) → list_any p (filter q xs) ≡ list_any p xs
any-filter_wider p q w [] = refl
any-filter_wider p q w (x ∷ xs) = wider_kept p q (q x) x xs refl (w x) (any-filter_wider p q w xs)

split_here : (x y : ℕ) (xs : List ℕ) (b : Bool) → (y == x) ≡ b → (b || is_in x xs) ≡ true → (is_in x xs ≡ true → (before : List ℕ) × (behind : List ℕ) × (xs ≡ before ++ x ∷ behind)) → (before : List ℕ) × (behind : List ℕ) × (y ∷ xs ≡ before ++ x ∷ behind)
split_here x y xs true e h r = ([], xs, ap (λ z. z ∷ xs) (eqb-true y x e))
split_here x y xs false e h r = let (before, behind, f) = r h in (y ∷ before, behind, ap (λ l. y ∷ l) f)

-- a number in a list, with what is before it and after it
pub split_in : (x : ℕ) (xs : List ℕ) → is_in x xs ≡ true → (before : List ℕ) × (behind : List ℕ) × (xs ≡ before ++ x ∷ behind)
split_in x [] h = absurd (cc)
split_in x (y ∷ xs) h = split_here x y xs (y == x) refl h (split_in x xs)

at_copies : (c : ℕ → List ℕ) (y p z : ℕ) (xs : List ℕ) (b : Bool) → (z == p) ≡ b → is_in y (c p) ≡ true → is_in y (flat_map c (copies p xs)) ≡ is_in p xs → is_in y (flat_map c (cond b (z ∷ copies p xs) (copies p xs))) ≡ (b || is_in p xs)
at_copies c y p z xs true e k h =
    list_any-append (λ w. w == y) (c z) (flat_map c (copies p xs)) ∙ ap (λ b. b || is_in y (flat_map c (copies p xs))) (ap (λ w. is_in y (c w)) (eqb-true z p e) ∙ k)
at_copies c y p z xs false e k h = h

pub is_in-flat_map_copies : (c : ℕ → List ℕ) (y p : ℕ) (xs : List ℕ) → is_in y (c p) ≡ true → is_in y (flat_map c (copies p xs)) ≡ is_in p xs
is_in-flat_map_copies c y p [] k = refl
is_in-flat_map_copies c y p (z ∷ xs) k = at_copies c y p z xs (z == p) refl k (is_in-flat_map_copies c y p xs k)

none_kept : {X : Type 0} (p : X → Bool) (b : Bool) (x : X) (xs : List X) → (b || list_any p xs) ≡ false → (list_any p xs ≡ false → filter p xs ≡ []) → cond b (x ∷ filter p xs) (filter p xs) ≡ []
none_kept p true x xs e h = cc
none_kept p false x xs e h = h e

pub filter_none : {X : Type 0} (p : X → Bool) (xs : List X) → list_any p xs ≡ false → filter p xs ≡ []
filter_none p [] h = refl
filter_none p (x ∷ xs) h = none_kept p (p x) x xs h (filter_none p xs)

none_failed : {X : Type 0} (p : X → Bool) (b : Bool) (x : X) (xs : List X) → cond b (x ∷ filter p xs) (filter p xs) ≡ [] → p x ≡ b → (filter p xs ≡ [] → AllByRecursion (λ y. p y ≡ false) xs) → AllByRecursion (λ y. p y ≡ false) (x ∷ xs)
none_failed p true x xs e f h = absurd (cc)
none_failed p false x xs e f h = (f, h e)

pub each_failed : {X : Type 0} (p : X → Bool) (xs : List X) → filter p xs ≡ [] → AllByRecursion (λ y. p y ≡ false) xs
each_failed p [] h = tt
each_failed p (x ∷ xs) h = none_failed p (p x) x xs h refl (each_failed p xs)

-- each number at most once

copies_one : (x : ℕ) (xs : List ℕ) → copies x (x ∷ xs) ≡ x ∷ copies x xs
copies_one x xs = cond-true (x == x) (x ∷ copies x xs) (copies x xs) (same_number x)

copies_more : (x y : ℕ) (xs : List ℕ) → length (copies x xs) ≤ length (copies x (y ∷ xs))
copies_more x y xs = grind arith

empty : {X : Type 0} (xs : List X) → length xs ≤ 0 → xs ≡ []
empty [] h = refl
empty (x ∷ xs) h = absurd (omega arith)

pub distinct_from_copies : (xs : List ℕ) → ((x : ℕ) → length (copies x xs) ≤ 1) → IsDistinct nat_eq xs
unfolding IsDistinct
distinct_from_copies [] h = tt
distinct_from_copies (x ∷ xs) h =
    let none : copies x xs ≡ [] = empty (copies x xs) (omega (arith, h x, ap length (copies_one x xs))) in
    (each_weaker (λ y. (y == x) ≡ false) (λ y. (x == y) ≡ false) (λ y. differs_turned y x) xs (each_failed (λ y. y == x) xs none), distinct_from_copies xs (λ z. omega (arith, h z, copies_more z x xs)))

once : (x y : ℕ) (b : Bool) (xs : List ℕ) → (y == x) ≡ b → AllByRecursion (λ z. (y == z) ≡ false) xs → (b || is_in x xs) ≡ true → (is_in x xs ≡ true → copies x xs ≡ x ∷ []) → cond b (y ∷ copies x xs) (copies x xs) ≡ x ∷ []
once x y true xs e d h r =
    let same : y ≡ x = eqb-true y x e in
    let none : copies x xs ≡ [] = filter_nothing (λ z. z == x) xs (each_weaker (λ z. (y == z) ≡ false) (λ z. (z == x) ≡ false) (λ z k. differs_turned x z (rw same at k)) xs d) in
    cc
once x y false xs e d h r = r h

pub copies_distinct : (x : ℕ) (xs : List ℕ) → IsDistinct nat_eq xs → is_in x xs ≡ true → copies x xs ≡ x ∷ []
unfolding IsDistinct
copies_distinct x [] d h = absurd (cc)
copies_distinct x (y ∷ xs) d h = once x y (y == x) xs refl d.0 h (copies_distinct x xs d.1)

-- the numbers from a on, so many of them

pub each-range : (a n : ℕ) → AllByRecursion (λ y. (a ≤ y) × (y < a + n)) (range_with_len a n)
each-range a zero = tt
each-range a (suc n) =
    ((omega arith, omega arith), each_weaker (λ y. (a + 1 ≤ y) × (y < a + 1 + n)) (λ y. (a ≤ y) × (y < a + suc n)) (λ y h. (omega arith, omega arith)) (range_with_len (a + 1) n) (each-range (a + 1) n))

pub distinct-range : (a n : ℕ) → IsDistinct nat_eq (range_with_len a n)
unfolding IsDistinct
distinct-range a zero = tt
distinct-range a (suc n) =
    (each_weaker (λ y. (a + 1 ≤ y) × (y < a + 1 + n)) (λ y. (a == y) ≡ false) (λ y h. differs a y (omega arith)) (range_with_len (a + 1) n) (each-range (a + 1) n), distinct-range (a + 1) n)

in_range : (x a n : ℕ) → (a ≤ x) → (x < a + suc n) → (a + 1 ≤ x → is_in x (range_with_len (a + 1) n) ≡ true) → ((a == x) || is_in x (range_with_len (a + 1) n)) ≡ true
in_range x a n h k r = grind (arith, nat_tests)

pub is_in-range : (x a n : ℕ) → a ≤ x → x < a + n → is_in x (range_with_len a n) ≡ true
is_in-range x a zero h k = absurd (omega arith)
is_in-range x a (suc n) h k = in_range x a n h k (λ l. is_in-range x (a + 1) n l (omega arith))

not_last : (y n : ℕ) → not (y == suc n) ≡ true → y ≤ suc n → y ≤ n
not_last y n e h = grind (arith, nat_tests)

not_past : (x y n : ℕ) → (y == x) ≡ true → x ≤ n → not (y == suc n) ≡ true
not_past x y n e h = grind (arith, nat_tests)

-- what has each number from 1 to n once, and no other, has n elements
pub length_from_copies : (n : ℕ) (xs : List ℕ) → AllByRecursion (λ y. (0 < y) × (y ≤ n)) xs → ((x : ℕ) → 0 < x → x ≤ n → copies x xs ≡ x ∷ []) → length xs ≡ n
length_from_copies zero [] h c = refl
length_from_copies zero (x ∷ xs) h c = let k : (0 < x) × (x ≤ 0) = h.0 in absurd (omega arith)
length_from_copies (suc n) xs h c =
    let rest : List ℕ = filter (λ y. not (y == suc n)) xs in
    let below : AllByRecursion (λ y. (0 < y) × (y ≤ n)) rest =
    each-filter (λ y. (0 < y) × (y ≤ suc n)) (λ y. (0 < y) × (y ≤ n)) (λ y. not (y == suc n)) (λ y e k. (k.0, not_last y n e k.1)) xs h in
    let one : length (copies (suc n) xs) ≡ 1 = ap length (c (suc n) (omega arith) (omega arith)) in
    let others : length rest ≡ n = length_from_copies n rest below (λ x k l. filter-filter (λ y. y == x) (λ y. not (y == suc n)) (λ y e. not_past x y n e l) xs ∙ c x k (omega arith)) in
    omega (arith, length-filter_both (λ y. y == suc n) (λ y. not (y == suc n)) (λ _. refl) xs)

-- what is left of a number

pub left_on : (x y : ℕ) (xs : List ℕ) → (y == x) ≡ false → left_of x (y ∷ xs) ≡ y ∷ left_of x xs
left_on x y xs h = rw h (ap (λ n. take n (y ∷ xs)) (one-add (prefix_len (λ z. not (z == x)) xs)))

pub left_of_split : (x : ℕ) (xs ys : List ℕ) → AllByRecursion (λ y. y ≢ x) xs → left_of x (xs ++ x ∷ ys) ≡ xs
left_of_split x [] ys h = ap (λ b. take (cond (not b) (1 + prefix_len (λ y. not (y == x)) ys) 0) (x ∷ ys)) (same_number x)
left_of_split x (y ∷ xs) ys h = left_on x y (xs ++ x ∷ ys) (differs y x h.0) ∙ ap (λ l. y ∷ l) (left_of_split x xs ys h.1)
