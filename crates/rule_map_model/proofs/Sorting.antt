-- Hits that were sorted.
use Rattle.std.proofs.Common.{◌≡◌, ℕ, zero, suc, ◌+◌, ◌≤◌, nat_lt, List, [], ◌∷◌, slice_index_or, Bool, ap, ◌∙◌, arith, inl, inr}
use Rattle.std.specs.List.{AllByRecursion, Contains}
use Rattle.std.specs.List.Sorted.{IsPermutation, IsSortedBy}
use Rattle.std.proofs.lemmas.Bool.{ltb-false}
use Rattle.std.proofs.lemmas.List.Sorted.{IsPermutation-sym, Contains-permutation}
use Rattle.base_model.proofs.Lists.{each_weaker}
use Rattle.selector_model.specs.Selector.{Selector}
use Rattle.rule_map_model.specs.Hits.{In, Hit, AreHits, IsRising}

module _ {X : Type 0} where
  pub contains_in : (xs : List X) (x : X) → Contains xs x → In x xs
  contains_in [] x (k, l, e) = absurd (omega (arith, l))
  contains_in (y ∷ ys) x (zero, l, e) = inl e
  contains_in (y ∷ ys) x (suc k, l, e) = inr (contains_in ys x (k, omega (arith, l), e))

  pub in_contains : (xs : List X) (x : X) → In x xs → Contains xs x
  in_contains [] x i = absurd i
  in_contains (y ∷ ys) x (inl e) = (0, omega arith, e)
  in_contains (y ∷ ys) x (inr i) = let (k, l, e) = in_contains ys x i in (suc k, omega (arith, l), e)

  pub in_permuted : (xs ys : List X) (x : X) → IsPermutation xs ys → In x xs → In x ys
  in_permuted xs ys x p i = contains_in ys x (Contains-permutation xs ys x p (in_contains xs x i))

-- in another order they are the same hits
pub hits_permuted : (passes : Selector → Bool) (rules : List (List Selector)) (xs ys : List Hit) → IsPermutation xs ys → AreHits passes rules xs → AreHits passes rules ys
hits_permuted passes rules xs ys p h = record {
  sound = λ g i. h.sound g (in_permuted ys xs g (IsPermutation-sym xs ys p) i);
  complete = λ i selectors selector e m t. in_permuted xs ys _ p (h.complete i selectors selector e m t);
}

abbrev before : Hit → Hit → Bool
before a b = nat_lt a.rule b.rule

rest_sorted : (h : Hit) (hits : List Hit) → IsSortedBy before (h ∷ hits) → IsSortedBy before hits
rest_sorted h hits s k d l m =
    ap (λ n. before (slice_index_or (h ∷ hits) n d) (slice_index_or hits k d)) (next k) ∙ s (suc k) d (omega arith) (omega (arith, m))
  where
    next : (n : ℕ) → suc (n + 1) ≡ suc n + 1
    next n = omega arith

all_above : (h : Hit) (hits : List Hit) → IsSortedBy before (h ∷ hits) → AllByRecursion (λ g. h.rule ≤ g.rule) hits
all_above h [] s = tt
all_above h (g ∷ hits) s =
    let l : h.rule ≤ g.rule = ltb-false g.rule h.rule (s 0 h (omega arith) (omega arith)) in
    (l, each_weaker (λ f. g.rule ≤ f.rule) (λ f. h.rule ≤ f.rule) (λ f k. omega (arith, l, k)) hits (all_above g hits (rest_sorted h (g ∷ hits) s)))

-- by their rules
pub rising_sorted : (hits : List Hit) → IsSortedBy (λ a b. nat_lt a.rule b.rule) hits → IsRising hits
rising_sorted [] s = tt
rising_sorted (h ∷ hits) s = (all_above h hits s, rising_sorted hits (rest_sorted h hits s))
