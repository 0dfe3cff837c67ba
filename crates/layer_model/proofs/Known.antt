-- Which names are in a list, and lists in which no name stands twice.
use Rattle.std.proofs.Common.{◌≡◌, ℕ, zero, suc, ◌+◌, Bool, true, false, cond, ◌||◌, List, [], ◌∷◌, ◌++◌, ◌⊎◌, inl, inr, Some, None, not, nat_lt, filter, flat_map, length, slice_get, refl, sym, ap, ◌∙◌, subst, arith, append_assoc, append-nil}
use Rattle.std.proofs.lemmas.Bool.{false≢true, false_from_ne_true, cond-true, cond-false, or_cases, or_right, or_left}
use Rattle.std.proofs.lemmas.Bool.Decides.{nat_tests}
use Rattle.std.specs.List.{position, prefix_len}
use Rattle.std.proofs.lemmas.List.Folds.{list_any-append}
use Rattle.layer_model.specs.Name.{LayerName, same_name}
use Rattle.layer_model.specs.Order.{is_known, with_names, place_in, rank_in}
use Rattle.layer_model.proofs.Names.{same_name-Decides, same_name-refl, same_name_equiv}

-- the first of a list is in it
pub known-first : (name : LayerName) (names : List LayerName) → is_known (name ∷ names) name ≡ true
known-first name names = or_left (same_name name name) (is_known names name) (same_name-refl name)

pub known-later : (other name : LayerName) (names : List LayerName) → is_known names name ≡ true → is_known (other ∷ names) name ≡ true
known-later other name names h = or_right (same_name name other) (is_known names name) h

-- what is in a list is its first, or among the rest
pub known-cases : (other name : LayerName) (names : List LayerName) → is_known (other ∷ names) name ≡ true → (name ≡ other) ⊎ (is_known names name ≡ true)
known-cases other name names h =
    elim (or_cases (same_name name other) (is_known names name) h) [
      | inl e ↦ inl ((same_name-Decides name other).0 e)
      | inr k ↦ inr k
    ]

pub known-one : (other name : LayerName) → is_known (other ∷ []) name ≡ true → name ≡ other
known-one other name h =
    elim (known-cases other name [] h) [ inl e ↦ e | inr k ↦ absurd (false≢true k) ]

-- in two lists together

pub known-left : (xs ys : List LayerName) (name : LayerName) → is_known xs name ≡ true → is_known (xs ++ ys) name ≡ true
known-left xs ys name h = list_any-append (same_name name) xs ys ∙ or_left (is_known xs name) (is_known ys name) h

pub known-right : (xs ys : List LayerName) (name : LayerName) → is_known ys name ≡ true → is_known (xs ++ ys) name ≡ true
known-right xs ys name h = list_any-append (same_name name) xs ys ∙ or_right (is_known xs name) (is_known ys name) h

pub known-either : (xs ys : List LayerName) (name : LayerName) → is_known (xs ++ ys) name ≡ true → (is_known xs name ≡ true) ⊎ (is_known ys name ≡ true)
known-either xs ys name h = or_cases (is_known xs name) (is_known ys name) (sym (list_any-append (same_name name) xs ys) ∙ h)

-- in the lists of a list of names

pub known-flat : (f : LayerName → List LayerName) (cs : List LayerName) (c name : LayerName) → is_known cs c ≡ true → is_known (f c) name ≡ true → is_known (flat_map f cs) name ≡ true
known-flat f [] c name h k = absurd (false≢true h)
known-flat f (d ∷ cs) c name h k =
    elim (known-cases d c cs h) [
      | inl e ↦ known-left (f d) (flat_map f cs) name (ap (λ x. is_known (f x) name) (sym e) ∙ k)
      | inr r ↦ known-right (f d) (flat_map f cs) name (known-flat f cs c name r k)
    ]

-- of which name's list it is
pub record IsOf (f : LayerName → List LayerName) (cs : List LayerName) (name : LayerName) : Type 0 where
  pub by : LayerName
  pub there : is_known cs by ≡ true
  pub known : is_known (f by) name ≡ true

pub flat-known : (f : LayerName → List LayerName) (cs : List LayerName) (name : LayerName) → is_known (flat_map f cs) name ≡ true → IsOf f cs name
flat-known f [] name h = absurd (false≢true h)
flat-known f (c ∷ cs) name h =
    elim (known-either (f c) (flat_map f cs) name h) [
      | inl k ↦ record { by = c; there = known-first c cs; known = k }
      | inr k ↦ let r = flat-known f cs name k in record { by = r.by; there = known-later c r.by cs r.there; known = r.known }
    ]

-- among those that pass a test

pub known-filter : (p : LayerName → Bool) (xs : List LayerName) (name : LayerName) → is_known (filter p xs) name ≡ true → (is_known xs name ≡ true) × (p name ≡ true)
known-filter p [] name h = absurd (false≢true h)
known-filter p (x ∷ xs) name h = by (known-filter p xs name) (p x) refl h
  where
    by : (is_known (filter p xs) name ≡ true → (is_known xs name ≡ true) × (p name ≡ true)) → (b : Bool) → p x ≡ b → is_known (cond b (x ∷ filter p xs) (filter p xs)) name ≡ true → (is_known (x ∷ xs) name ≡ true) × (p name ≡ true)
    by rest true e k =
        elim (known-cases x name (filter p xs) k) [
          | inl s ↦ (ap (is_known (x ∷ xs)) s ∙ known-first x xs, ap p s ∙ e)
          | inr r ↦ (known-later x name xs (rest r).0, (rest r).1)
        ]
    by rest false e k = (known-later x name xs (rest k).0, (rest k).1)

pub filter-known : (p : LayerName → Bool) (xs : List LayerName) (name : LayerName) → is_known xs name ≡ true → p name ≡ true → is_known (filter p xs) name ≡ true
filter-known p [] name h t = absurd (false≢true h)
filter-known p (x ∷ xs) name h t = by (λ r. filter-known p xs name r t) (p x) refl
  where
    by : (is_known xs name ≡ true → is_known (filter p xs) name ≡ true) → (b : Bool) → p x ≡ b → is_known (cond b (x ∷ filter p xs) (filter p xs)) name ≡ true
    by rest true e =
        elim (known-cases x name xs h) [
          | inl s ↦ ap (is_known (x ∷ filter p xs)) s ∙ known-first x (filter p xs)
          | inr r ↦ known-later x name (filter p xs) (rest r)
        ]
    by rest false e =
        elim (known-cases x name xs h) [
          | inl s ↦ absurd (false≢true (sym e ∙ (ap p (sym s) ∙ t)))
          | inr r ↦ rest r
        ]

-- no name stands twice
abbrev pub StandOnce : List LayerName → Type 0
StandOnce [] = Unit {0}
StandOnce (name ∷ names) = (is_known names name ≡ false) × StandOnce names

pub StandOnce-append : (xs ys : List LayerName) → StandOnce xs → StandOnce ys → ((name : LayerName) → is_known xs name ≡ true → is_known ys name ≡ true → ⊥) → StandOnce (xs ++ ys)
StandOnce-append [] ys a b apart = b
StandOnce-append (x ∷ xs) ys a b apart =
    let only_here = λ (h : is_known (xs ++ ys) x ≡ true). elim (known-either xs ys x h) as (λ _. ⊥) [
      | inl k ↦ false≢true (sym a.0 ∙ k)
      | inr k ↦ apart x (known-first x xs) k
    ] in
    (false_from_ne_true (is_known (xs ++ ys) x) only_here, StandOnce-append xs ys a.1 b (λ name k. apart name (known-later x name xs k)))

pub StandOnce-push : (xs : List LayerName) (name : LayerName) → StandOnce xs → is_known xs name ≡ false → StandOnce (xs ++ name ∷ [])
StandOnce-push xs name a new =
    StandOnce-append xs (name ∷ []) a (refl, tt) (λ other k one. false≢true (sym new ∙ (ap (is_known xs) (sym (known-one name other one)) ∙ k)))

pub StandOnce-filter : (p : LayerName → Bool) (xs : List LayerName) → StandOnce xs → StandOnce (filter p xs)
StandOnce-filter p [] a = tt
StandOnce-filter p (x ∷ xs) a = by (StandOnce-filter p xs a.1) (p x)
  where
    by : StandOnce (filter p xs) → (b : Bool) → StandOnce (cond b (x ∷ filter p xs) (filter p xs))
    by rest true = (false_from_ne_true (is_known (filter p xs) x) (λ h. false≢true (sym a.0 ∙ (known-filter p xs x h).0)), rest)
    by rest false = rest

-- a name at some place is in the list
pub known-at : (names : List LayerName) (i : ℕ) (name : LayerName) → slice_get names i ≡ Some name → is_known names name ≡ true
known-at [] i name h = absurd (cc)
known-at (x ∷ xs) zero name h = let e : x ≡ name = cc in ap (is_known (x ∷ xs)) (sym e) ∙ known-first x xs
known-at (x ∷ xs) (suc i) name h = known-later x name xs (known-at xs i name h)

-- and where none stands twice, that is its place
pub place-at : (names : List LayerName) → StandOnce names → (i : ℕ) (name : LayerName) → slice_get names i ≡ Some name → place_in names name ≡ i
place-at [] once i name h = absurd (cc)
place-at (x ∷ xs) once zero name h =
    let e : x ≡ name = cc in
    cond-true (same_name x name) 0 (place_in xs name + 1) ((same_name-Decides x name).1 e)
place-at (x ∷ xs) once (suc i) name h =
    let other = false_from_ne_true (same_name x name) (λ s. false≢true (sym once.0 ∙ (ap (is_known xs) ((same_name-Decides x name).0 s) ∙ known-at xs i name h))) in
    cond-false (same_name x name) 0 (place_in xs name + 1) other ∙ omega (arith, place-at xs once.1 i name h)

pub rank-at : (names : List LayerName) → StandOnce names → (i : ℕ) (name : LayerName) → slice_get names i ≡ Some name → rank_in names name ≡ i
unfolding rank_in
rank-at names once i name h =
    cond-true (is_known names name) _ _ (known-at names i name h) ∙ place-at names once i name h

-- two places of one name are one
pub one_place : (names : List LayerName) → StandOnce names → (i j : ℕ) (name : LayerName) → slice_get names i ≡ Some name → slice_get names j ≡ Some name → i ≡ j
one_place names once i j name a b = sym (place-at names once i name a) ∙ place-at names once j name b

-- the place of a new last name is how many are before it
pub place-last : (xs : List LayerName) (name : LayerName) → is_known xs name ≡ false → place_in (xs ++ name ∷ []) name ≡ length xs
place-last [] name new = cond-true (same_name name name) 0 1 (same_name-refl name)
place-last (x ∷ xs) name new =
    let here = false_from_ne_true (same_name x name) (λ s. false≢true (sym new ∙ (ap (is_known (x ∷ xs)) (sym ((same_name-Decides x name).0 s)) ∙ known-first x xs))) in
    let later = false_from_ne_true (is_known xs name) (λ k. false≢true (sym new ∙ known-later x name xs k)) in
    cond-false (same_name x name) 0 _ here ∙ omega (arith, place-last xs name later)

-- the place of a name that is there
pub at-place : (names : List LayerName) (name : LayerName) → is_known names name ≡ true → slice_get names (place_in names name) ≡ Some name
at-place [] name h = absurd (false≢true h)
at-place (x ∷ xs) name h = by (at-place xs name) (same_name x name) refl
  where
    by : (is_known xs name ≡ true → slice_get xs (place_in xs name) ≡ Some name) → (b : Bool) → same_name x name ≡ b → slice_get (x ∷ xs) (cond b 0 (place_in xs name + 1)) ≡ Some name
    by rest true e = ap Some ((same_name-Decides x name).0 e)
    by rest false e =
        let next : place_in xs name + 1 ≡ suc (place_in xs name) = omega arith in
        elim (known-cases x name xs h) [
          | inl s ↦ absurd (false≢true (sym e ∙ (same_name-Decides x name).1 (sym s)))
          | inr r ↦ ap (slice_get (x ∷ xs)) next ∙ rest r
        ]

-- a search for a name finds its place
pub position-place : (names : List LayerName) (name : LayerName) → position (same_name name) names ≡ cond (is_known names name) (Some (place_in names name)) None
position-place names name =
    let n = prefix_len (λ k. not (same_name name k)) names in
    ap (λ b. cond b (Some n) None) (known-before names name) ∙ ap (λ p. cond (is_known names name) (Some p) None) (sym (place-prefix names name))
  where
    one_more : (b : Bool) (n m : ℕ) → m ≡ n → cond b 0 (m + 1) ≡ cond (not b) (1 + n) 0
    one_more true n m e = refl
    one_more false n m e = omega arith

    place-prefix : (names : List LayerName) (name : LayerName) → place_in names name ≡ prefix_len (λ k. not (same_name name k)) names
    place-prefix [] name = refl
    place-prefix (x ∷ xs) name =
        ap (λ b. cond b 0 (place_in xs name + 1)) (same_name_equiv.symm x name)
        ∙ one_more (same_name name x) _ _ (place-prefix xs name)

    any_step : (b r : Bool) (n l : ℕ) → nat_lt n l ≡ r → nat_lt (cond (not b) (1 + n) 0) (suc l) ≡ (b || r)
    any_step true r n l h = grind (arith, nat_tests)
    any_step false r n l h = rw (← h) (grind (arith, nat_tests))

    known-before : (names : List LayerName) (name : LayerName) → nat_lt (prefix_len (λ k. not (same_name name k)) names) (length names) ≡ is_known names name
    known-before [] name = refl
    known-before (x ∷ xs) name = any_step (same_name name x) (is_known xs name) _ (length xs) (known-before xs name)

pub position-known : (names : List LayerName) (name : LayerName) → is_known names name ≡ true → position (same_name name) names ≡ Some (place_in names name)
position-known names name h = position-place names name ∙ cond-true (is_known names name) (Some (place_in names name)) None h

pub position-new : (names : List LayerName) (name : LayerName) → is_known names name ≡ false → position (same_name name) names ≡ None
position-new names name h = position-place names name ∙ cond-false (is_known names name) (Some (place_in names name)) None h

-- a name that stands once is not among those before it
before_once : (xs : List LayerName) (name : LayerName) (ys : List LayerName) → StandOnce (xs ++ name ∷ ys) → is_known xs name ≡ false
before_once [] name ys once = refl
before_once (x ∷ xs) name ys once =
    false_from_ne_true (is_known (x ∷ xs) name) (λ h. elim (known-cases x name xs h) as (λ _. ⊥) [
      | inl e ↦ false≢true (sym once.0 ∙ known-right xs (name ∷ ys) x (ap (is_known (name ∷ ys)) (sym e) ∙ known-first name ys))
      | inr k ↦ false≢true (sym (before_once xs name ys once.1) ∙ k)
    ])

-- where none stands twice, adding them one by one gives them all
pub with_names-once : (known xs : List LayerName) → StandOnce (known ++ xs) → with_names known xs ≡ known ++ xs
with_names-once known [] once = sym (append-nil known)
with_names-once known (x ∷ xs) once =
    let new = cond-false (is_known known x) known (known ++ x ∷ []) (before_once known x xs once) in
    let moved = append_assoc known (x ∷ []) xs in
    ap (λ ns. with_names ns xs) new ∙ (with_names-once (known ++ x ∷ []) xs (subst StandOnce (sym moved) once) ∙ moved)
