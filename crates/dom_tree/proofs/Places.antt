-- Items of a list by their index: after a write, and what holds of each.
use Rattle.std.proofs.Common.{◌≡◌, ◌≢◌, ℕ, zero, suc, ◌+◌, ◌<◌, List, [], ◌∷◌, ◌++◌, length, take, drop, get_or, slice_set, Option, Some, IfSome, slice_get, sym, ap, ◌∙◌, subst, refl, arith}
use Rattle.std.specs.List.{AllByRecursion}
use Rattle.std.proofs.Math.ListN.{replicate}
use Rattle.std.proofs.lemmas.List.{drop_more, get_or-replicate, get_or-set_same, length-replicate, length-set, set-get_or, take_more}
use Rattle.std.proofs.lemmas.Option.{get_or_from_slice_get, same_Some, slice_get-get_or, slice_get_read, slice_get_within}
use Rattle.base_model.proofs.Lists.{slice_get_some}

module _ {X : Type 0} where
  -- what is known of an item that there is
  pub at_some : (P : X → Type 0) {o : Option X} {x : X} → o ≡ Some x → IfSome o P → P x
  at_some P e h = subst (λ o. IfSome o P) e h

  pub if_some : (P : X → Type 0) {o : Option X} {x : X} → o ≡ Some x → P x → IfSome o P
  if_some P e h = subst (λ o. IfSome o P) (sym e) h

  -- the item at an index, and what is known of it
  pub item_at : (xs : List X) (i : ℕ) (P : X → Type 0) → i < length xs → IfSome (slice_get xs i) P → (x : X) × (slice_get xs i ≡ Some x) × P x
  item_at xs i P within h =
      let (x, at) = slice_get_some xs i within in
      (x, at, at_some P at h)

  -- the item that was read at an index
  pub read_at : (xs : List X) {i : ℕ} {x : X} → i < length xs → x ≡ get_or xs i x → slice_get xs i ≡ Some x
  read_at xs {i} {x} l is = slice_get_read xs (length xs) i x refl l is

  pub replicate_at : (n i : ℕ) (x : X) → i < n → slice_get (replicate n x) i ≡ Some x
  replicate_at n i x l = slice_get_read (replicate n x) n i x (sym (length-replicate n x)) l (sym (get_or-replicate n i x x l))

  pub each_at : (P : X → Type 0) (xs : List X) (i : ℕ) (x : X) → AllByRecursion P xs → slice_get xs i ≡ Some x → P x
  each_at P [] i x h e = absurd (cc)
  each_at P (y ∷ ys) zero x h e = subst P (same_Some y x e) h.0
  each_at P (y ∷ ys) (suc i) x h e = each_at P ys i x h.1 e

  -- what holds of the items from one on holds of it with those after it
  pub rest_at : (P : List X → Type 0) (xs : List X) {k : ℕ} {x : X} → k < length xs → x ≡ get_or xs k x → P (drop k xs) → P (x ∷ drop (k + 1) xs)
  rest_at P xs {k} {x} l is h = subst P (drop_more xs k x l ∙ ap (λ y. y ∷ drop (k + 1) xs) (sym is)) h

  -- one more of a list
  pub taken : (xs : List X) (k : ℕ) (x : X) → slice_get xs k ≡ Some x → take (k + 1) xs ≡ take k xs ++ x ∷ []
  taken xs k x at =
      take_more xs k x (slice_get_within xs k x at) ∙ ap (λ y. take k xs ++ y ∷ []) (get_or_from_slice_get xs k x x at)

  -- after a write

  pub get_set_same : (xs : List X) (i : ℕ) (x : X) → i < length xs → slice_get (slice_set xs i x) i ≡ Some x
  get_set_same xs i x l =
      slice_get-get_or (slice_set xs i x) i x (omega (arith, length-set xs i x)) ∙ ap Some (get_or-set_same xs i x x l)

  pub get_set_other : (xs : List X) (i j : ℕ) (x : X) → i ≢ j → slice_get (slice_set xs i x) j ≡ slice_get xs j
  get_set_other [] i j x h = refl
  get_set_other (y ∷ ys) zero zero x h = absurd (h refl)
  get_set_other (y ∷ ys) zero (suc j) x h = refl
  get_set_other (y ∷ ys) (suc i) zero x h = refl
  get_set_other (y ∷ ys) (suc i) (suc j) x h = get_set_other ys i j x (λ e. h (ap suc e))

  pub set_same : (xs : List X) (i : ℕ) (x : X) → slice_get xs i ≡ Some x → slice_set xs i x ≡ xs
  set_same xs i x at = ap (slice_set xs i) (sym (get_or_from_slice_get xs i x x at)) ∙ set-get_or xs i x
