-- For `ElementSet::add`: flags, and a list of the numbers whose flags are set.
use Rattle.std.proofs.Common.{◌≡◌, ℕ, zero, suc, ◌+◌, ◌<◌, ◌≤◌, ◌==◌, ◌||◌, ◌&&◌, nat_eq, Bool, true, false, not, cond, List, [], ◌∷◌, ◌++◌, length, take, get_or, slice_set, refl}
use Rattle.std.proofs.Common.{sym, ap, ◌∙◌, subst, inl, inr, arith}
use Rattle.std.specs.List.{IsDistinct}
use Rattle.std.proofs.Math.ListN.{replicate}
use Rattle.std.proofs.lemmas.Bool.{cases_eq, cond-true, cond-false, eq-eqb, eqb-true, or_parts, true≢false}
use Rattle.std.proofs.lemmas.List.{get_or-set_same, get_or-set_other, length-replicate, length-set, length-take, length-take-le, take_more_set, take-append-le}
use Rattle.std.proofs.Math.Seq.{take-length}
use Rattle.std.proofs.lemmas.List.Folds.{list_any-append}
use Rattle.base_model.proofs.Lists.{each-append}
use Rattle.scene_model.proofs.Numbers.{differs}
use Rattle.scene_model.specs.Numbers.{is_in}
use Rattle.invalidation_map.specs.Members.{Members, AreBelow, set_flags, AreFlags, added, AreAdded, AreUnset}

-- one flag

pub flag_set : (flags : List Bool) (x y : ℕ) (b : Bool) → x < length flags → get_or (slice_set flags x b) y false ≡ cond (x == y) b (get_or flags y false)
flag_set flags x y b l = elim (cases_eq y x) [
  | inl same ↦ ap (λ z. get_or (slice_set flags x b) z false) same ∙ (get_or-set_same flags x b false l ∙ sym (cond-true (x == y) b (get_or flags y false) (eq-eqb x y (sym same))))
  | inr other ↦ get_or-set_other flags x y b false other ∙ sym (cond-false (x == y) b (get_or flags y false) (differs x y (λ e. other (sym e))))
]

few_set : (flags : List Bool) → set_flags flags ≤ length flags
few_set [] = omega arith
few_set (true ∷ flags) = omega (arith, few_set flags)
few_set (false ∷ flags) = omega (arith, few_set flags)

-- a flag that is not set leaves room
pub set_one : (flags : List Bool) (x : ℕ) → x < length flags → get_or flags x false ≡ false → (set_flags (slice_set flags x true) ≡ set_flags flags + 1) × (set_flags flags < length flags)
set_one [] x l e = absurd (omega arith)
set_one (true ∷ flags) zero l e = absurd (true≢false e)
set_one (false ∷ flags) zero l e = (omega arith, omega (arith, few_set flags))
set_one (true ∷ flags) (suc x) l e = let more = set_one flags x (omega arith) e in (omega (arith, more.0), omega (arith, more.1))
set_one (false ∷ flags) (suc x) l e = let more = set_one flags x (omega arith) e in (omega (arith, more.0), omega (arith, more.1))

pub none_set : (flags : List Bool) → ((k : ℕ) → get_or flags k false ≡ false) → set_flags flags ≡ 0
none_set [] h = refl
none_set (true ∷ flags) h = absurd (true≢false (h 0))
none_set (false ∷ flags) h = omega (arith, none_set flags (λ k. h (suc k)))

pub count_fits : (flags : List Bool) (list : List ℕ) (count : ℕ) → AreFlags flags list count → count ≤ length list
count_fits flags list count are = omega (arith, few_set flags, are.count_is, are.room)

pub used : (flags : List Bool) (list shown : List ℕ) (count : ℕ) → AreFlags flags list count → shown ≡ list → count ≡ length (take count shown)
used flags list shown count are e = sym (length-take-le count shown (omega (arith, ap length e, count_fits flags list count are)))

-- one number

or_cond : (c h : Bool) → cond c true h ≡ (h || (c || false))
or_cond true true = refl
or_cond true false = refl
or_cond false true = refl
or_cond false false = refl

has_last : (xs : List ℕ) (x y : ℕ) → is_in y (xs ++ x ∷ []) ≡ (is_in y xs || ((x == y) || false))
has_last xs x y = list_any-append (λ z. z == y) xs (x ∷ [])

distinct_last : (xs : List ℕ) (x : ℕ) → IsDistinct nat_eq xs → is_in x xs ≡ false → IsDistinct nat_eq (xs ++ x ∷ [])
unfolding IsDistinct
distinct_last [] x d h = (tt, tt)
distinct_last (y ∷ ys) x d h =
    let parts = or_parts (y == x) (is_in x ys) h in
    (each-append (λ z. (y == z) ≡ false) ys (x ∷ []) d.0 (parts.0, tt), distinct_last ys x d.1 parts.1)

abbrev pub members : List ℕ → ℕ → Members
members items room = record { items = items; room = room }

abbrev shown : List Bool → List ℕ → ℕ → Members
shown flags list count = members (take count list) (length flags)

module _ (flags : List Bool) (list : List ℕ) (count x : ℕ) (are : AreFlags flags list count) (l : x < length flags) (unset : get_or flags x false ≡ false) where
  pub has_room : count < length list
  has_room = omega (arith, (set_one flags x l unset).1, are.count_is, are.room)

  more : take (count + 1) (slice_set list count x) ≡ take count list ++ x ∷ []
  more = take_more_set list count x has_room

  flags_next : (y : ℕ) → get_or (slice_set flags x true) y false ≡ is_in y (take (count + 1) (slice_set list count x))
  flags_next y =
      flag_set flags x y true l ∙ (ap (cond (x == y) true) (are.each y)
      ∙ (or_cond (x == y) (is_in y (take count list)) ∙ (sym (has_last (take count list) x y) ∙ ap (λ items. is_in y items) (sym more))))

  pub flags_added : AreFlags (slice_set flags x true) (slice_set list count x) (count + 1)
  flags_added = record {
    room = length-set list count x ∙ (are.room ∙ sym (length-set flags x true));
    count_is = omega (arith, (set_one flags x l unset).0, are.count_is);
    each = flags_next;
    below = subst (λ n. AreBelow n (take (count + 1) (slice_set list count x))) (sym (length-set flags x true))
        (subst (AreBelow (length flags)) (sym more) (each-append (λ y. y < length flags) (take count list) (x ∷ []) are.below (l, tt)));
    once = subst (IsDistinct nat_eq) (sym more) (distinct_last (take count list) x are.once (sym (are.each x) ∙ unset));
  }

  pub shown_added : (m : Members) → shown flags list count ≡ m → shown (slice_set flags x true) (slice_set list count x) (count + 1) ≡ added m x
  shown_added m e =
      ap (λ items. members items (length (slice_set flags x true))) more
      ∙ (ap (members (take count list ++ x ∷ [])) (length-set flags x true)
      ∙ (sym (cond-false (is_in x (take count list)) (shown flags list count) (members (take count list ++ x ∷ []) (length flags)) (sym (are.each x) ∙ unset))
      ∙ ap (λ n. added n x) e))

pub none_there : (n k : ℕ) → get_or (replicate n false) k false ≡ false
none_there zero k = refl
none_there (suc n) zero = refl
none_there (suc n) (suc k) = none_there n k

-- what the value of a place is does not rest on the default
pub read_flag : (flags : List Bool) (x : ℕ) (r b : Bool) → r ≡ get_or flags x r → r ≡ b → get_or flags x b ≡ b
read_flag flags x r b h e = sym (subst (λ z. z ≡ get_or flags x z) e h)

pub no_flags : (flags : List Bool) (list : List ℕ) (n : ℕ) → flags ≡ replicate n false → list ≡ replicate n 0 → AreFlags flags list 0
unfolding IsDistinct
no_flags flags list n e f = record {
  room = ap length f ∙ (length-replicate n 0 ∙ (sym (length-replicate n false) ∙ ap length (sym e)));
  count_is = sym (none_set flags unset);
  each = λ x. unset x;
  below = tt;
  once = tt;
}
  where
    unset : (k : ℕ) → get_or flags k false ≡ false
    unset k = ap (λ l. get_or l k false) e ∙ none_there n k

-- several numbers

pub or_no : (b : Bool) → b ≡ (b || false)
or_no true = refl
or_no false = refl

-- one more, that may be there

or_there : (c h : Bool) → (c ≡ true → h ≡ true) → h ≡ (h || (c || false))
or_there true h k = k refl ∙ sym (ap (λ b. b || true) (k refl))
or_there false true k = refl
or_there false false k = refl

added_by : (m : Members) (x : ℕ) (b : Bool) → is_in x m.items ≡ b → AreAdded (x ∷ []) m (cond b m (members (m.items ++ x ∷ []) m.room))
added_by m x true h = record {
  room = refl;
  each = λ y. or_there (x == y) (is_in y m.items) (λ e. subst (λ z. is_in z m.items ≡ true) (eqb-true x y e) h);
  front = take-length m.items;
}
added_by m x false h = record {
  room = refl;
  each = has_last m.items x;
  front = take-append-le (length m.items) m.items (x ∷ []) (omega arith) ∙ take-length m.items;
}

pub one_added : (m : Members) (x : ℕ) → AreAdded (x ∷ []) m (added m x)
one_added m x = added_by m x (is_in x m.items) refl

pub take_take : {X : Type 0} (i j : ℕ) (l : List X) → i ≤ j → take i (take j l) ≡ take i l
take_take zero j l h = refl
take_take (suc i) zero l h = absurd (omega arith)
take_take (suc i) (suc j) [] h = refl
take_take (suc i) (suc j) (x ∷ xs) h = ap (λ ys. x ∷ ys) (take_take i j xs (omega arith))

pub front_front : (xs bs cs : List ℕ) → take (length xs) bs ≡ xs → take (length bs) cs ≡ bs → take (length xs) cs ≡ xs
front_front xs bs cs h k =
    let fits : length xs ≤ length bs = omega (arith, ap length h, length-take (length xs) bs) in
    sym (take_take (length xs) (length bs) cs fits) ∙ (ap (take (length xs)) k ∙ h)

-- cleared

pub cleared : (old new : List Bool) (list : List ℕ) (count : ℕ) → AreFlags old list count → AreUnset (take count list) old new → AreFlags new list 0
unfolding IsDistinct
cleared old new list count are un = record {
  room = are.room ∙ sym un.room;
  count_is = sym (none_set new none);
  each = none;
  below = tt;
  once = tt;
}
  where
    and_not : (b : Bool) → (b && not b) ≡ false
    and_not true = refl
    and_not false = refl

    none : (x : ℕ) → get_or new x false ≡ false
    none x = un.each x ∙ (ap (λ b. b && not (is_in x (take count list))) (are.each x) ∙ and_not (is_in x (take count list)))
