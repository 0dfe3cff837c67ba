-- Two lists that are compared place by place, by what each of their elements is seen as.
use Rattle.std.proofs.Common.{◌≡◌, ℕ, ◌+◌, ◌<◌, List, [], ◌∷◌, ◌++◌, map, length, take, get_or, sym, ap, ◌∙◌, arith}
use Rattle.std.proofs.Math.Seq.{take-length}
use Rattle.std.proofs.lemmas.List.{get_or-map, map_more}

take_whole : {X : Type 0} (xs : List X) (i : ℕ) → length xs ≡ i → take i xs ≡ xs
take_whole xs i e = ap (λ n. take n xs) (sym e) ∙ take-length xs

module _ {X Y : Type 0} (f : X → Y) (a b : List X) where
  -- where the lists are the same, so are the elements at a place
  pub same_at : (i : ℕ) (x y : X) → length a ≡ length b → i < length a → x ≡ get_or a i x → y ≡ get_or b i y → map f a ≡ map f b → f x ≡ f y
  same_at i x y same within is_x is_y e =
      ap f is_x ∙ sym (get_or-map f a i x (f x) within)
      ∙ ap (λ l. get_or l i (f x)) e
      ∙ get_or-map f b i y (f x) (omega arith) ∙ sym (ap f is_y)

  -- one more place at which they are the same
  pub same_more : (i : ℕ) (x y : X) → length a ≡ length b → i < length a → x ≡ get_or a i x → y ≡ get_or b i y → f x ≡ f y
      → map f (take i a) ≡ map f (take i b) → map f (take (i + 1) a) ≡ map f (take (i + 1) b)
  same_more i x y same within is_x is_y e front =
      map_more f a i x within
      ∙ ap (λ z. map f (take i a) ++ z ∷ []) (sym (ap f is_x) ∙ e ∙ ap f is_y)
      ∙ ap (λ l. l ++ f (get_or b i y) ∷ []) front
      ∙ sym (map_more f b i y (omega arith))

  -- at all places
  pub same_all : (i : ℕ) → length a ≡ length b → length a ≡ i → map f (take i a) ≡ map f (take i b) → map f a ≡ map f b
  same_all i same whole e = ap (map f) (sym (take_whole a i whole)) ∙ e ∙ ap (map f) (take_whole b i (omega arith))
