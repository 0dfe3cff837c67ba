-- Lists that are counted on, and what is left of them for one number.
use Rattle.std.proofs.Common.{◌≡◌, ℕ, ◌+◌, ◌==◌, Bool, true, false, not, ◌&&◌, cond, List, [], ◌∷◌, filter, map, length, get_or, drop, refl, sym, ap, ◌∙◌, ⊎_elim, arith}
use Rattle.std.specs.List.{list_any, range_with_len}
use Rattle.std.proofs.lemmas.Bool.{and_parts, cases_Bool, eqb-true, not-true}

-- each number with the count
abbrev pub counted : {X : Type 0} → (ℕ → ℕ → X) → ℕ → List ℕ → List X
counted f i [] = []
counted f i (p ∷ ps) = f i p ∷ counted f (i + 1) ps

-- where the count of each is known, it may be taken from that
pub counted_by : {X : Type 0} (f : ℕ → ℕ → X) (place : ℕ → ℕ) (i k : ℕ) (ps : List ℕ) → map place ps ≡ range_with_len k (length ps) → counted f (i + k) ps ≡ map (λ p. f (i + place p) p) ps
counted_by f place i k [] h = refl
counted_by f place i k (p ∷ ps) h =
    let at : place p ≡ k = ap (λ l. get_or l 0 k) h in
    let rest : map place ps ≡ range_with_len (k + 1) (length ps) = ap (drop 1) h in
    let on : i + k + 1 ≡ i + (k + 1) = omega arith in
    λ j. f (i + sym at j) p ∷ (ap (λ n. counted f n ps) on ∙ counted_by f place i (k + 1) ps rest) j

-- no number stands twice
abbrev pub are_distinct : List ℕ → Bool
are_distinct [] = true
are_distinct (p ∷ ps) = not (list_any (λ q. q == p) ps) && are_distinct ps

module _ {X : Type 0} (passes : X → Bool) (f : ℕ → X) (p : ℕ) (is : (q : ℕ) → passes (f q) ≡ (q == p)) where
  abbrev is_in : List ℕ → Bool
  is_in qs = list_any (λ q. q == p) qs

  -- of what is made of each number, one is left
  pub filter-distinct : (qs : List ℕ) → are_distinct qs ≡ true → filter passes (map f qs) ≡ cond (is_in qs) (f p ∷ []) []
  filter-distinct [] h = refl
  filter-distinct (q ∷ qs) h =
      let parts = and_parts (not (list_any (λ x. x == q) qs)) (are_distinct qs) h in
      let rest = filter-distinct qs parts.1 in
      ⊎_elim
      (λ (test : (q == p) ≡ true).
      let same = eqb-true q p test in
      let apart : is_in qs ≡ false = rw same at (not-true (list_any (λ x. x == q) qs) parts.0) in
      rw (is q, test, rest, apart, same))
      (λ (test : (q == p) ≡ false). rw (is q, test) rest)
      (cases_Bool (q == p))
