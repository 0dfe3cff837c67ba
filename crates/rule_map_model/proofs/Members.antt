-- For `In`: members of lists.
use Rattle.std.proofs.Common.{◌≡◌, ◌⊎◌, List, [], ◌∷◌, ◌++◌, map, filter, flat_map, Bool, true, false}
use Rattle.std.proofs.Common.{cond, ◌||◌, refl, sym, ap, ◌∙◌, subst, inl, inr, ℕ, suc, ◌+◌, arith}
use Rattle.std.specs.List.{AllByRecursion, list_any}
use Rattle.std.proofs.lemmas.Bool.{false≢true, cond-true, or_left, or_right}
use Rattle.rule_map_model.specs.Hits.{In}

pub plus_none : (n : ℕ) → n ≡ n + 0
plus_none n = omega arith

pub none_plus : (n : ℕ) → 0 + n ≡ n
none_plus n = omega arith

pub plus_next : (n k : ℕ) → n + 1 + k ≡ n + suc k
plus_next n k = omega arith

module _ {X : Type 0} where
  pub each_in : (P : X → Type 0) (xs : List X) → ((x : X) → In x xs → P x) → AllByRecursion P xs
  each_in P [] h = tt
  each_in P (x ∷ xs) h = (h x (inl refl), each_in P xs (λ y i. h y (inr i)))

  pub of_each : (P : X → Type 0) (xs : List X) → AllByRecursion P xs → (x : X) → In x xs → P x
  of_each P [] h x i = absurd i
  of_each P (y ∷ ys) h x (inl e) = subst P e h.0
  of_each P (y ∷ ys) h x (inr i) = of_each P ys h.1 x i

  pub in_left : (x : X) (xs ys : List X) → In x xs → In x (xs ++ ys)
  in_left x [] ys i = absurd i
  in_left x (z ∷ xs) ys (inl e) = inl e
  in_left x (z ∷ xs) ys (inr i) = inr (in_left x xs ys i)

  pub in_right : (x : X) (xs ys : List X) → In x ys → In x (xs ++ ys)
  in_right x [] ys i = i
  in_right x (z ∷ xs) ys i = inr (in_right x xs ys i)

  pub in_either : (x : X) (xs ys : List X) → In x (xs ++ ys) → In x xs ⊎ In x ys
  in_either x [] ys i = inr i
  in_either x (z ∷ xs) ys (inl e) = inl (inl e)
  in_either x (z ∷ xs) ys (inr i) = elim (in_either x xs ys i) [ inl j ↦ inl (inr j) | inr j ↦ inr j ]

  module _ (p : X → Bool) where
    kept_in : (b : Bool) (x y : X) (ys : List X) → In x ys → In x (cond b (y ∷ ys) ys)
    kept_in true x y ys i = inr i
    kept_in false x y ys i = i

    pub in_filter : (x : X) (xs : List X) → p x ≡ true → In x xs → In x (filter p xs)
    in_filter x [] t i = absurd i
    in_filter x (y ∷ ys) t (inl e) =
        subst (In x) (sym (cond-true (p y) (y ∷ filter p ys) (filter p ys) (ap p e ∙ t))) (inl e)
    in_filter x (y ∷ ys) t (inr i) = kept_in (p y) x y (filter p ys) (in_filter x ys t i)

    kept_of : (b : Bool) (x y : X) (ys zs : List X) → p y ≡ b → (In x zs → In x ys × (p x ≡ true)) → In x (cond b (y ∷ zs) zs) → In x (y ∷ ys) × (p x ≡ true)
    kept_of true x y ys zs t rest (inl e) = (inl e, sym (ap p e) ∙ t)
    kept_of true x y ys zs t rest (inr i) = let k = rest i in (inr k.0, k.1)
    kept_of false x y ys zs t rest i = let k = rest i in (inr k.0, k.1)

    pub of_filter : (x : X) (xs : List X) → In x (filter p xs) → In x xs × (p x ≡ true)
    of_filter x [] i = absurd i
    of_filter x (y ∷ ys) i = kept_of (p y) x y ys (filter p ys) refl (of_filter x ys) i

  any_here : (p : X → Bool) (y : X) (ys : List X) (b : Bool) → p y ≡ b → (list_any p ys ≡ true → (x : X) × (In x ys × (p x ≡ true))) → (b || list_any p ys) ≡ true
      → (x : X) × (In x (y ∷ ys) × (p x ≡ true))
  any_here p y ys true t rest h = (y, (inl refl, t))
  any_here p y ys false t rest h = let (x, (i, k)) = rest h in (x, (inr i, k))

  -- one that passes
  pub one_of : (p : X → Bool) (xs : List X) → list_any p xs ≡ true → (x : X) × (In x xs × (p x ≡ true))
  one_of p [] h = absurd (false≢true h)
  one_of p (y ∷ ys) h = any_here p y ys (p y) refl (one_of p ys) h

  -- where one passes, some do
  pub some_of : (p : X → Bool) (x : X) (xs : List X) → In x xs → p x ≡ true → list_any p xs ≡ true
  some_of p x [] i t = absurd i
  some_of p x (y ∷ ys) (inl e) t = or_left (p y) (list_any p ys) (ap p e ∙ t)
  some_of p x (y ∷ ys) (inr i) t = or_right (p y) (list_any p ys) (some_of p x ys i t)

module _ {X Y : Type 0} where
  pub in_map : (f : X → Y) (x : X) (xs : List X) → In x xs → In (f x) (map f xs)
  in_map f x [] i = absurd i
  in_map f x (z ∷ xs) (inl e) = inl (ap f e)
  in_map f x (z ∷ xs) (inr i) = inr (in_map f x xs i)

  pub of_map : (f : X → Y) (y : Y) (xs : List X) → In y (map f xs) → (x : X) × (In x xs × (f x ≡ y))
  of_map f y [] i = absurd i
  of_map f y (z ∷ xs) (inl e) = (z, (inl refl, e))
  of_map f y (z ∷ xs) (inr i) = let (x, (j, e)) = of_map f y xs i in (x, (inr j, e))

  pub in_joined : (f : X → List Y) (x : X) (y : Y) (xs : List X) → In x xs → In y (f x) → In y (flat_map f xs)
  in_joined f x y [] i j = absurd i
  in_joined f x y (z ∷ xs) (inl e) j = in_left y (f z) (flat_map f xs) (subst (λ w. In y (f w)) (sym e) j)
  in_joined f x y (z ∷ xs) (inr i) j = in_right y (f z) (flat_map f xs) (in_joined f x y xs i j)

  pub of_joined : (f : X → List Y) (y : Y) (xs : List X) → In y (flat_map f xs) → (x : X) × (In x xs × In y (f x))
  of_joined f y [] i = absurd i
  of_joined f y (z ∷ xs) i = elim (in_either y (f z) (flat_map f xs) i) [
    | inl j ↦ (z, (inl refl, j))
    | inr j ↦ let (x, (k, l)) = of_joined f y xs j in (x, (inr k, l))
  ]
