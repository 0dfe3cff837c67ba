-- For `folded`: the greatest of some specificities depends on which they are, and not on their order or number.
use Rattle.std.proofs.Common.{◌≡◌, ◌⊎◌, ℕ, List, [], ◌∷◌, Bool, true, false, Option, Some, None, if◌then◌else◌, refl, sym, ap, ◌∙◌, subst, inl, inr}
use Rattle.std.specs.FinMap as finmap
use Rattle.std.specs.declared.cmp.Ordering.{Ordering}
use Rattle.std.specs.declared.cmp.Ordering.TheVariants.{Less, Equal, Greater}
use Rattle.std.specs.Ordering.{ordering_then, ordering_reverse, nat_cmp, is_lt, is_gt}
use Rattle.std.proofs.lemmas.Bool.{true≢false, false≢true}
use Rattle.std.proofs.lemmas.Cmp.{upto, tied_itself}
use Rattle.base_model.specs.Specificity.{Specificity, specificity_cmp, is_less, greater}
use Rattle.cascade_model.proofs.KeyOrder.{specificity_cmp-total}
use Rattle.rule_map_model.specs.Hits.{In}

-- equal in this order are the same

then_equal : (o p : Ordering) → ordering_then o p ≡ Equal → (o ≡ Equal) × (p ≡ Equal)
then_equal Less p h = absurd (true≢false (ap is_lt h))
then_equal Equal p h = (refl, h)
then_equal Greater p h = absurd (true≢false (ap is_gt h))

equal_number : (x y : ℕ) → nat_cmp x y ≡ Equal → x ≡ y
equal_number x y h = finmap.nat_cmp-IsAntisymmetric x y h

same_specificity : (a b : Specificity) → specificity_cmp a b ≡ Equal → a ≡ b
same_specificity a b h =
    let first = then_equal (nat_cmp a.ids b.ids) _ h in
    let second = then_equal (nat_cmp a.classes b.classes) (nat_cmp a.types b.types) first.1 in
    ap (λ n. record { ids = n; classes = a.classes; types = a.types }) (equal_number a.ids b.ids first.0)
    ∙ (ap (λ n. record { ids = b.ids; classes = n; types = a.types }) (equal_number a.classes b.classes second.0)
    ∙ ap (λ n. record { ids = b.ids; classes = b.classes; types = n }) (equal_number a.types b.types second.1))

-- a is at most b
abbrev AtMost : Specificity → Specificity → Type 0
AtMost a b = is_gt (specificity_cmp a b) ≡ false

itself : (a : Specificity) → AtMost a a
itself a = ap is_gt (tied_itself specificity_cmp-total a)

through : (a b c : Specificity) → AtMost a b → AtMost b c → AtMost a c
through a b c h k = upto specificity_cmp-total a b c h k

less_at_most : (a b : Specificity) → is_less a b ≡ true → AtMost a b
less_at_most a b h = by (specificity_cmp a b) h
  where
    by : (o : Ordering) → is_lt o ≡ true → is_gt o ≡ false
    by Less e = refl
    by Equal e = refl
    by Greater e = absurd (false≢true e)

not_less_at_most : (a b : Specificity) → is_less a b ≡ false → AtMost b a
not_less_at_most a b h = ap is_gt (specificity_cmp-total.antisymm b a) ∙ by (specificity_cmp a b) h
  where
    by : (o : Ordering) → is_lt o ≡ false → is_gt (ordering_reverse o) ≡ false
    by Less e = absurd (true≢false e)
    by Equal e = refl
    by Greater e = refl

both_at_most : (a b : Specificity) → AtMost a b → AtMost b a → a ≡ b
both_at_most a b h k = same_specificity a b (by (specificity_cmp a b) h (sym (ap is_gt (specificity_cmp-total.antisymm b a)) ∙ k))
  where
    by : (o : Ordering) → is_gt o ≡ false → is_gt (ordering_reverse o) ≡ false → o ≡ Equal
    by Less e f = absurd (true≢false f)
    by Equal e f = refl
    by Greater e f = absurd (true≢false e)

-- the greater of two is one of them, and each is at most it

greater_one : (a b : Specificity) → (greater a b ≡ a) ⊎ (greater a b ≡ b)
greater_one a b = by (is_less a b)
  where
    by : (t : Bool) → ((if t then b else a) ≡ a) ⊎ ((if t then b else a) ≡ b)
    by true = inr refl
    by false = inl refl

greater_first : (a b : Specificity) → AtMost a (greater a b)
greater_first a b = by (is_less a b) refl
  where
    by : (t : Bool) → is_less a b ≡ t → AtMost a (if t then b else a)
    by true h = less_at_most a b h
    by false h = itself a

greater_second : (a b : Specificity) → AtMost b (greater a b)
greater_second a b = by (is_less a b) refl
  where
    by : (t : Bool) → is_less a b ≡ t → AtMost b (if t then b else a)
    by true h = itself b
    by false h = not_less_at_most a b h

-- the greatest of a list, and of one more

abbrev pub greatest_after : Specificity → List Specificity → Specificity
greatest_after best [] = best
greatest_after best (s ∷ ss) = greatest_after (greater best s) ss

abbrev pub greatest_in : List Specificity → Option Specificity
greatest_in [] = None
greatest_in (s ∷ ss) = Some (greatest_after s ss)

after_in : (best : Specificity) (ss : List Specificity) → In (greatest_after best ss) (best ∷ ss)
after_in best [] = inl refl
after_in best (s ∷ ss) = by (after_in (greater best s) ss)
  where
    by : In (greatest_after (greater best s) ss) (greater best s ∷ ss) → In (greatest_after (greater best s) ss) (best ∷ s ∷ ss)
    by (inl e) = elim (greater_one best s) [
      | inl f ↦ inl (sym f ∙ e)
      | inr f ↦ inr (inl (sym f ∙ e))
    ]
    by (inr i) = inr (inr i)

after_above : (best : Specificity) (ss : List Specificity) (s : Specificity) → In s (best ∷ ss) → AtMost s (greatest_after best ss)
after_above best [] s (inl e) = subst (λ a. AtMost a best) e (itself best)
after_above best [] s (inr i) = absurd i
after_above best (r ∷ ss) s (inl e) =
    through s (greater best r) (greatest_after (greater best r) ss) (subst (λ a. AtMost a (greater best r)) e (greater_first best r)) (after_above (greater best r) ss (greater best r) (inl refl))
after_above best (r ∷ ss) s (inr (inl e)) =
    through s (greater best r) (greatest_after (greater best r) ss) (subst (λ a. AtMost a (greater best r)) e (greater_second best r)) (after_above (greater best r) ss (greater best r) (inl refl))
after_above best (r ∷ ss) s (inr (inr i)) = after_above (greater best r) ss s (inr i)

abbrev pub AreWithin : List Specificity → List Specificity → Type 0
AreWithin xs ys = (s : Specificity) → In s xs → In s ys

-- lists with the same members
pub greatest_same : (xs ys : List Specificity) → AreWithin xs ys → AreWithin ys xs → greatest_in xs ≡ greatest_in ys
greatest_same [] [] h k = refl
greatest_same [] (y ∷ ys) h k = absurd (k y (inl refl))
greatest_same (x ∷ xs) [] h k = absurd (h x (inl refl))
greatest_same (x ∷ xs) (y ∷ ys) h k =
    let m = greatest_after x xs in
    let n = greatest_after y ys in
    ap Some (both_at_most m n (after_above y ys m (h m (after_in x xs))) (after_above x xs n (k n (after_in y ys))))
