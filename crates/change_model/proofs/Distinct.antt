-- Lists without repetition: filtered, and joined.
use Rattle.std.proofs.Common.{◌≡◌, ℕ, ◌+◌, ◌≤◌, ◌==◌, nat_eq, List, [], ◌∷◌, ◌++◌, filter, take, drop, length, Bool, true, false, cond, refl, sym, ap, ◌∙◌, arith, length-append, take-append-drop}
use Rattle.std.specs.List.{AllByRecursion, IsDistinct}
use Rattle.std.proofs.lemmas.List.Elements.{filter-append}
use Rattle.scene_model.proofs.Lists.{each-filter}
use Rattle.scene_model.proofs.Numbers.{is_in, copies, copies_distinct, distinct_from_copies, filter_none}

keep_one : {X : Type 0} (eq : X → X → Bool) (q : X → Bool) (b : Bool) (x : X) (xs : List X) → AllByRecursion (λ y. eq x y ≡ false) xs → IsDistinct eq (filter q xs) → IsDistinct eq (cond b (x ∷ filter q xs) (filter q xs))
unfolding IsDistinct
keep_one eq q true x xs h d = (each-filter (λ y. eq x y ≡ false) (λ y. eq x y ≡ false) q (λ y _ k. k) xs h, d)
keep_one eq q false x xs h d = d

pub distinct-filter_by : {X : Type 0} (eq : X → X → Bool) (q : X → Bool) (xs : List X) → IsDistinct eq xs → IsDistinct eq (filter q xs)
unfolding IsDistinct
distinct-filter_by eq q [] d = tt
distinct-filter_by eq q (x ∷ xs) d = keep_one eq q (q x) x xs d.0 (distinct-filter_by eq q xs d.1)

pub IsDistinct-filter : (q : ℕ → Bool) (xs : List ℕ) → IsDistinct nat_eq xs → IsDistinct nat_eq (filter q xs)
IsDistinct-filter = distinct-filter_by nat_eq

pub once : (xs : List ℕ) (x : ℕ) (b : Bool) → is_in x xs ≡ b → IsDistinct nat_eq xs → length (copies x xs) ≤ cond b 1 0
once xs x true e d = omega (arith, ap length (copies_distinct x xs d e))
once xs x false e d = omega (arith, ap length (filter_none (λ y. y == x) xs e))

apart_once : (b c : Bool) (m n : ℕ) → m ≤ cond b 1 0 → n ≤ cond c 1 0 → (c ≡ true → b ≡ false) → n + m ≤ 1
apart_once true true m n h k w = absurd (cc (w refl))
apart_once true false m n h k w = omega arith
apart_once false true m n h k w = omega arith
apart_once false false m n h k w = omega arith

-- a run put into a list, with no number of both
pub IsDistinct-put : (xs run : List ℕ) (at : ℕ) → IsDistinct nat_eq xs → IsDistinct nat_eq run → ((x : ℕ) → is_in x run ≡ true → is_in x xs ≡ false) → IsDistinct nat_eq (take at xs ++ (run ++ drop at xs))
IsDistinct-put xs run at d e apart = distinct_from_copies (take at xs ++ (run ++ drop at xs)) (λ x.
    let whole : copies x (take at xs) ++ copies x (drop at xs) ≡ copies x xs = sym (filter-append (λ y. y == x) (take at xs) (drop at xs)) ∙ ap (copies x) (take-append-drop at xs) in
    let all : copies x (take at xs ++ (run ++ drop at xs)) ≡ copies x (take at xs) ++ (copies x run ++ copies x (drop at xs)) = filter-append (λ y. y == x) (take at xs) (run ++ drop at xs) ∙ ap (λ l. copies x (take at xs) ++ l) (filter-append (λ y. y == x) run (drop at xs)) in
    let few = apart_once (is_in x xs) (is_in x run) (length (copies x xs)) (length (copies x run)) (once xs x (is_in x xs) refl d) (once run x (is_in x run) refl e) (apart x) in
    omega (arith, ap length whole, ap length all, length-append (copies x (take at xs)) (copies x (drop at xs)), length-append (copies x (take at xs)) (copies x run ++ copies x (drop at xs)), length-append (copies x run) (copies x (drop at xs))))
