-- For `raised` and `lowered`: counters count one name more and one less.
use Rattle.std.proofs.Common.{◌≡◌, ◌≢◌, ℕ, ◌+◌, ◌-◌, ◌<◌, ◌==◌, nat_lt, List, [], ◌∷◌, ◌++◌, length, flat_map, slice_set, Bool, true, false, cond, ◌&&◌, ◌||◌, ◌⊎◌}
use Rattle.std.proofs.Common.{refl, sym, ap, ◌∙◌, subst, arith, inl, inr}
use Rattle.std.specs.List.{list_any}
use Rattle.std.proofs.lemmas.Bool.{cases_eq, cases_lt, cond-true, cond-false, eq-eqb, ne_eqb, lt-ltb, and_from, and_right, le-ltb}
use Rattle.std.proofs.lemmas.List.{length-replicate, get_or-replicate, length-set, get_or-set_same, get_or-set_other}
use Rattle.base_model.specs.Text.{Characters}
use Rattle.ancestor_model.specs.Counts.{slot_count, full, counter_at, raised, lowered, all_at, times, IsCount, Counts, all_raised, all_lowered, StandsFor, pushed, popped}

-- a counter that can be raised, and one that can be lowered
abbrev is_raised : ℕ → List ℕ → Bool
is_raised s counters = nat_lt (counter_at counters s) full

abbrev is_lowered : ℕ → List ℕ → Bool
is_lowered s counters = nat_lt 0 (counter_at counters s) && is_raised s counters

-- the counters with that one more, and one less
abbrev one_more : ℕ → List ℕ → List ℕ
one_more s counters = slice_set counters s (counter_at counters s + 1)

abbrev one_less : ℕ → List ℕ → List ℕ
one_less s counters = slice_set counters s (counter_at counters s - 1)

length-raised : (s : ℕ) (counters : List ℕ) → length (raised s counters) ≡ length counters
length-raised s counters =
    elim (is_raised s counters) as (λ b. length (cond b (one_more s counters) counters) ≡ length counters) [
      | true ↦ length-set counters s (counter_at counters s + 1)
      | false ↦ refl
    ]

length-lowered : (s : ℕ) (counters : List ℕ) → length (lowered s counters) ≡ length counters
length-lowered s counters =
    elim (is_lowered s counters) as (λ b. length (cond b (one_less s counters) counters) ≡ length counters) [
      | true ↦ length-set counters s (counter_at counters s - 1)
      | false ↦ refl
    ]

-- one counter

raised_other : (s t : ℕ) (counters : List ℕ) → t ≢ s → counter_at (raised s counters) t ≡ counter_at counters t
raised_other s t counters h =
    elim (is_raised s counters) as (λ b. counter_at (cond b (one_more s counters) counters) t ≡ counter_at counters t) [
      | true ↦ get_or-set_other counters s t (counter_at counters s + 1) 0 h
      | false ↦ refl
    ]

lowered_other : (s t : ℕ) (counters : List ℕ) → t ≢ s → counter_at (lowered s counters) t ≡ counter_at counters t
lowered_other s t counters h =
    elim (is_lowered s counters) as (λ b. counter_at (cond b (one_less s counters) counters) t ≡ counter_at counters t) [
      | true ↦ get_or-set_other counters s t (counter_at counters s - 1) 0 h
      | false ↦ refl
    ]

raised_here : (s : ℕ) (counters : List ℕ) → s < length counters → counter_at counters s < full → counter_at (raised s counters) s ≡ counter_at counters s + 1
raised_here s counters l h =
    ap (λ c. counter_at c s) (cond-true (is_raised s counters) (one_more s counters) counters (lt-ltb (counter_at counters s) full h))
    ∙ get_or-set_same counters s (counter_at counters s + 1) 0 l

raised_full : (s : ℕ) (counters : List ℕ) → counter_at counters s ≡ full → counter_at (raised s counters) s ≡ full
raised_full s counters h =
    let stays : is_raised s counters ≡ false = le-ltb (counter_at counters s) full (omega (arith, h)) in
    ap (λ c. counter_at c s) (cond-false (is_raised s counters) (one_more s counters) counters stays) ∙ h

lowered_here : (s : ℕ) (counters : List ℕ) → s < length counters → 0 < counter_at counters s → counter_at counters s < full → counter_at (lowered s counters) s ≡ counter_at counters s - 1
lowered_here s counters l h k =
    let some : nat_lt 0 (counter_at counters s) ≡ true = lt-ltb 0 (counter_at counters s) h in
    let below : is_raised s counters ≡ true = lt-ltb (counter_at counters s) full k in
    let falls : is_lowered s counters ≡ true = and_from (nat_lt 0 (counter_at counters s)) (is_raised s counters) some below in
    ap (λ c. counter_at c s) (cond-true (is_lowered s counters) (one_less s counters) counters falls)
    ∙ get_or-set_same counters s (counter_at counters s - 1) 0 l

lowered_full : (s : ℕ) (counters : List ℕ) → counter_at counters s ≡ full → counter_at (lowered s counters) s ≡ full
lowered_full s counters h =
    let full_one : is_raised s counters ≡ false = le-ltb (counter_at counters s) full (omega (arith, h)) in
    let stays : is_lowered s counters ≡ false = and_right (nat_lt 0 (counter_at counters s)) (is_raised s counters) full_one in
    ap (λ c. counter_at c s) (cond-false (is_lowered s counters) (one_less s counters) counters stays) ∙ h

module _ (slot : Characters → ℕ) where
  times_here : (name : Characters) (names : List Characters) → times slot (slot name) (name ∷ names) ≡ 1 + times slot (slot name) names
  times_here name names = cond-true (slot name == slot name) (1 + times slot (slot name) names) (times slot (slot name) names) (eq-eqb (slot name) (slot name) refl)

  times_other : (s : ℕ) (name : Characters) (names : List Characters) → s ≢ slot name → times slot s (name ∷ names) ≡ times slot s names
  times_other s name names h = cond-false (slot name == s) (1 + times slot s names) (times slot s names) (ne_eqb (slot name) s (λ e. h (sym e)))

  -- what both counts tell of one slot
  count_same : (names others : List Characters) (old new : List ℕ) (s : ℕ) → counter_at new s ≡ counter_at old s → times slot s others ≡ times slot s names
      → IsCount slot names old s → IsCount slot others new s
  count_same names others old new s e f (inl all) = inl (e ∙ all)
  count_same names others old new s e f (inr less) = inr (omega (arith, e, less.0), e ∙ (less.1 ∙ sym f))

  count_more : (c d n m : ℕ) → c < full → d ≡ c + 1 → c ≡ n → m ≡ 1 + n → (d ≡ full) ⊎ ((d < full) × (d ≡ m))
  count_more c d n m h e f g = elim (cases_lt (c + 1) full) [
    | inl l ↦ inr (omega (arith, e, l), omega (arith, e, f, g))
    | inr l ↦ inl (omega (arith, e, h, l))
  ]

  raised_count : (name : Characters) (names : List Characters) (old : List ℕ) → slot name < length old → IsCount slot names old (slot name)
      → IsCount slot (name ∷ names) (raised (slot name) old) (slot name)
  raised_count name names old l (inl all) = inl (raised_full (slot name) old all)
  raised_count name names old l (inr less) =
      let s : ℕ = slot name in
      count_more (counter_at old s) (counter_at (raised s old) s) (times slot s names) (times slot s (name ∷ names))
      less.0 (raised_here s old l less.0) less.1 (times_here name names)

  lowered_count : (name : Characters) (names : List Characters) (old : List ℕ) → slot name < length old → IsCount slot (name ∷ names) old (slot name)
      → IsCount slot names (lowered (slot name) old) (slot name)
  lowered_count name names old l (inl all) = inl (lowered_full (slot name) old all)
  lowered_count name names old l (inr less) =
      let one : times slot (slot name) (name ∷ names) ≡ 1 + times slot (slot name) names = times_here name names in
      let some : 0 < counter_at old (slot name) = omega (arith, less.1, one) in
      let here : counter_at (lowered (slot name) old) (slot name) ≡ counter_at old (slot name) - 1 = lowered_here (slot name) old l some less.0 in
      inr (omega (arith, here, less.0), omega (arith, here, less.1, one))

  -- what is so of the slot of a name is so of each slot that is equal
  at_slot : (name : Characters) (P : ℕ → Type 0) (s : ℕ) → s < slot_count → (slot name < slot_count → P (slot name)) → s ≡ slot name → P s
  at_slot name P s l h e = subst P (sym e) (h (omega (arith, l, e)))

  -- one name more
  pub raise : (name : Characters) (names : List Characters) (old : List ℕ) → Counts slot names old → Counts slot (name ∷ names) (raised (slot name) old)
  raise name names old c = record {
    length_is = length-raised (slot name) old ∙ c.length_is;
    each = λ s l. elim (cases_eq s (slot name)) [
      | inl e ↦ at_slot name (IsCount slot (name ∷ names) (raised (slot name) old)) s l (λ k. raised_count name names old (omega (arith, k, c.length_is)) (c.each (slot name) k)) e
      | inr h ↦ count_same names (name ∷ names) old (raised (slot name) old) s (raised_other (slot name) s old h) (times_other s name names h) (c.each s l)
    ];
  }

  -- one less
  pub lower : (name : Characters) (names : List Characters) (old : List ℕ) → Counts slot (name ∷ names) old → Counts slot names (lowered (slot name) old)
  lower name names old c = record {
    length_is = length-lowered (slot name) old ∙ c.length_is;
    each = λ s l. elim (cases_eq s (slot name)) [
      | inl e ↦ at_slot name (IsCount slot names (lowered (slot name) old)) s l (λ k. lowered_count name names old (omega (arith, k, c.length_is)) (c.each (slot name) k)) e
      | inr h ↦ count_same (name ∷ names) names old (lowered (slot name) old) s (lowered_other (slot name) s old h) (sym (times_other s name names h)) (c.each s l)
    ];
  }

  pub lower_all : (names others : List Characters) (old : List ℕ) → Counts slot (names ++ others) old → Counts slot others (all_lowered slot names old)
  lower_all [] others old c = c
  lower_all (name ∷ names) others old c = lower_all names others (lowered (slot name) old) (lower name (names ++ others) old c)

  -- of no name, and of any names
  pub counts_nothing : Counts slot [] (all_at 0)
  counts_nothing = record {
    length_is = length-replicate {A = ℕ} slot_count 0;
    each = λ s l. let here : counter_at (all_at 0) s ≡ 0 = get_or-replicate {A = ℕ} slot_count s 0 0 l in inr (omega (arith, here), here);
  }

  pub counts_any : (names : List Characters) → Counts slot names (all_at full)
  counts_any names = record { length_is = length-replicate {A = ℕ} slot_count full; each = λ s l. inl (get_or-replicate {A = ℕ} slot_count s full 0 l) }

  -- the order of the names makes no difference
  times_middle : (s : ℕ) (name : Characters) (names others : List Characters) → times slot s (names ++ name ∷ others) ≡ times slot s (name ∷ names ++ others)
  times_middle s name [] others = refl
  times_middle s name (first ∷ names) others =
      ap (λ n. cond (slot first == s) (1 + n) n) (times_middle s name names others)
      ∙ turned (slot first == s) (slot name == s) (times slot s (names ++ others))
    where
      turned : (b c : Bool) (n : ℕ) → cond b (1 + cond c (1 + n) n) (cond c (1 + n) n) ≡ cond c (1 + cond b (1 + n) n) (cond b (1 + n) n)
      turned true true n = refl
      turned true false n = refl
      turned false true n = refl
      turned false false n = refl

  pub count_middle : (name : Characters) (names others : List Characters) (counters : List ℕ) → Counts slot (names ++ name ∷ others) counters → Counts slot (name ∷ names ++ others) counters
  count_middle name names others counters c = record {
    length_is = c.length_is;
    each = λ s l. count_same (names ++ name ∷ others) (name ∷ names ++ others) counters counters s refl (sym (times_middle s name names others)) (c.each s l);
  }

  -- names more, one after another
  pub raise_all : (names others : List Characters) (old : List ℕ) → Counts slot others old → Counts slot (names ++ others) (all_raised slot names old)
  raise_all [] others old c = c
  raise_all (name ∷ names) others old c =
      count_middle name names others (all_raised slot names (raised (slot name) old)) (raise_all names (name ∷ others) (raised (slot name) old) (raise name others old c))

  -- a counter of 0 tells that no name has its slot

  no_times : (s : ℕ) (names : List Characters) → times slot s names ≡ 0 → list_any (λ name. slot name == s) names ≡ false
  no_times s [] h = refl
  no_times s (name ∷ names) h = first_none (slot name == s) (times slot s names) (list_any (λ other. slot other == s) names) h (no_times s names)
    where
      first_none : (b : Bool) (n : ℕ) (rest : Bool) → cond b (1 + n) n ≡ 0 → (n ≡ 0 → rest ≡ false) → (b || rest) ≡ false
      first_none true n rest e f = absurd (omega (arith, e))
      first_none false n rest e f = f e

  pub none_counted : (names : List Characters) (counters : List ℕ) (s : ℕ) → Counts slot names counters → s < slot_count → counter_at counters s ≡ 0 → list_any (λ name. slot name == s) names ≡ false
  none_counted names counters s c l e = no_times s names (counted (c.each s l))
    where
      counted : IsCount slot names counters s → times slot s names ≡ 0
      counted (inl all) = absurd (omega (arith, e, all))
      counted (inr less) = sym less.1 ∙ e

  module _ (names_of : ℕ → List Characters) where
    pub push : (x : ℕ) (elements : List ℕ) (old : List ℕ) → StandsFor slot names_of elements old → StandsFor slot names_of (x ∷ elements) (pushed slot names_of x old)
    push x elements old c = raise_all (names_of x) (flat_map names_of elements) old c

    pub pop : (x : ℕ) (elements : List ℕ) (old : List ℕ) → StandsFor slot names_of (x ∷ elements) old → StandsFor slot names_of elements (popped slot names_of x old)
    pop x elements old c = lower_all (names_of x) (flat_map names_of elements) old c
