-- In a subtree each parent is before its children.
use Rattle.std.proofs.Common.{◌≡◌, ℕ, zero, suc, ◌+◌, ◌<◌, ◌==◌, ◌⊎◌, nat_eq, List, [], ◌∷◌, ◌++◌, flat_map, Bool, true, false, cond, not, ◌||◌, Some, None, refl, sym, ap, subst, ◌∙◌, inl, inr, arith}
use Rattle.std.specs.List.{AllByRecursion, IsDistinct}
use Rattle.std.proofs.lemmas.Bool.{eqb-true}
use Rattle.std.proofs.lemmas.Option.{same_Some, none-some}
use Rattle.scene_model.specs.Element.{Element}
use Rattle.scene_model.specs.Lookups.{numbers, parent_of, children}
use Rattle.scene_model.specs.Nodes.{subtree}
use Rattle.scene_model.proofs.Lists.{each_weaker}
use Rattle.scene_model.proofs.Numbers.{is_in, index_in, same_number}
use Rattle.scene_model.proofs.Found.{each_child-parent}

-- each number's parent is before it, or is among those seen
abbrev ParentsFirst : List Element → List ℕ → List ℕ → Type 0
ParentsFirst es seen [] = Unit {0}
ParentsFirst es seen (y ∷ ys) = ((p : ℕ) → parent_of es y ≡ Some p → is_in p seen ≡ true) × ParentsFirst es (y ∷ seen) ys

also_seen : (y p : ℕ) (seen more : List ℕ) (b : Bool) → (is_in p seen ≡ true → is_in p more ≡ true) → (b || is_in p seen) ≡ true → (b || is_in p more) ≡ true
also_seen y p seen more true w h = refl
also_seen y p seen more false w h = w h

more_seen : (es : List Element) (seen more ys : List ℕ) → ((p : ℕ) → is_in p seen ≡ true → is_in p more ≡ true) → ParentsFirst es seen ys → ParentsFirst es more ys
more_seen es seen more [] w h = tt
more_seen es seen more (y ∷ ys) w h =
    (λ p e. w p (h.0 p e), more_seen es (y ∷ seen) (y ∷ more) ys (λ p k. also_seen y p seen more (y == p) (w p) k) h.1)

seen_after : (y p : ℕ) (seen : List ℕ) (b : Bool) → is_in p seen ≡ true → (b || is_in p seen) ≡ true
seen_after y p seen true h = refl
seen_after y p seen false h = h

first-append : (es : List Element) (seen xs ys : List ℕ) → ParentsFirst es seen xs → ParentsFirst es seen ys → ParentsFirst es seen (xs ++ ys)
first-append es seen [] ys h k = k
first-append es seen (x ∷ xs) ys h k = (h.0, first-append es (x ∷ seen) xs ys h.1 (more_seen es seen (x ∷ seen) ys (λ p e. seen_after x p seen (x == p) e) k))

first-flat_map : (es : List Element) (seen xs : List ℕ) (f : ℕ → List ℕ) → AllByRecursion (λ x. ParentsFirst es seen (f x)) xs → ParentsFirst es seen (flat_map f xs)
first-flat_map es seen [] f h = tt
first-flat_map es seen (x ∷ xs) f h = first-append es seen (f x) (flat_map f xs) h.0 (first-flat_map es seen xs f h.1)

just_seen : (x p : ℕ) (seen : List ℕ) → x ≡ p → is_in p (x ∷ seen) ≡ true
just_seen x p seen e = subst (λ q. is_in q (x ∷ seen) ≡ true) e (ap (λ b. b || is_in x seen) (same_number x))

first_in_subtree : (es : List Element) (seen : List ℕ) (l x : ℕ) → IsDistinct nat_eq (numbers es) → ((p : ℕ) → parent_of es x ≡ Some p → is_in p seen ≡ true) → ParentsFirst es seen (subtree es l x)
first_in_subtree es seen zero x d h = tt
first_in_subtree es seen (suc l) x d h =
    (h, first-flat_map es (x ∷ seen) (children es x) (subtree es l) (each_weaker (λ y. parent_of es y ≡ Some x) (λ y. ParentsFirst es (x ∷ seen) (subtree es l y)) (λ y e. first_in_subtree es (x ∷ seen) l y d (λ p f. just_seen x p seen (same_Some x p (sym e ∙ f)))) (children es x) (each_child-parent es x d)))

onward : (p : ℕ) (seen ys : List ℕ) (b : Bool) (n : ℕ) → ((b || is_in p seen) ≡ true) ⊎ (index_in ys p < n) → (is_in p seen ≡ true) ⊎ (cond (not b) (1 + index_in ys p) 0 < 1 + n)
onward p seen ys true n h = inr (omega arith)
onward p seen ys false n (inl k) = inl k
onward p seen ys false n (inr l) = inr (omega arith)

step : (es : List Element) (x p y : ℕ) (seen ys : List ℕ) (b : Bool) → (y == x) ≡ b → ((q : ℕ) → parent_of es y ≡ Some q → is_in q seen ≡ true) → parent_of es x ≡ Some p → (b || is_in x ys) ≡ true → (is_in x ys ≡ true → (is_in p (y ∷ seen) ≡ true) ⊎ (index_in ys p < index_in ys x)) → (is_in p seen ≡ true) ⊎ (index_in (y ∷ ys) p < cond (not b) (1 + index_in ys x) 0)
step es x p y seen ys true e first f h r = inl (first p (ap (parent_of es) (eqb-true y x e) ∙ f))
step es x p y seen ys false e first f h r = onward p seen ys (y == p) (index_in ys x) (r h)

before_or_seen : (es : List Element) (seen xs : List ℕ) (x p : ℕ) → ParentsFirst es seen xs → is_in x xs ≡ true → parent_of es x ≡ Some p → (is_in p seen ≡ true) ⊎ (index_in xs p < index_in xs x)
before_or_seen es seen [] x p d h e = absurd (cc)
before_or_seen es seen (y ∷ ys) x p d h e = step es x p y seen ys (y == x) refl d.0 e h (λ k. before_or_seen es (y ∷ seen) ys x p d.1 k e)

-- below a top with no parent each parent is before its child
pub parent_earlier : (es : List Element) (l x y p : ℕ) → IsDistinct nat_eq (numbers es) → parent_of es x ≡ None → is_in y (subtree es l x) ≡ true → parent_of es y ≡ Some p → index_in (subtree es l x) p < index_in (subtree es l x) y
parent_earlier es l x y p d n h e = settled (before_or_seen es [] (subtree es l x) y p (first_in_subtree es [] l x d (λ q f. absurd (none-some q (sym n ∙ f)))) h e)
  where
    settled : (is_in p [] ≡ true) ⊎ (index_in (subtree es l x) p < index_in (subtree es l x) y) → index_in (subtree es l x) p < index_in (subtree es l x) y
    settled (inl k) = absurd (cc)
    settled (inr k) = k
