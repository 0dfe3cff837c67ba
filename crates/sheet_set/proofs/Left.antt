-- What is left of a list, from an index on.
use Rattle.std.proofs.Common.{◌≡◌, ℕ, suc, ◌+◌, ◌<◌, ◌≤◌, List, [], ◌∷◌, map, length, get_or, drop, ap, sym, ◌∙◌, add-one, drop-cons}
use Rattle.std.proofs.lemmas.List.{drop_all}

pub item_at : {A : Type 0} (items : List A) (i : ℕ) (item : A) → i < length items → item ≡ get_or items i item → drop i items ≡ item ∷ drop (i + 1) items
item_at items i item below is =
    drop-cons items i item below ∙ ap (λ x. x ∷ drop (suc i) items) (sym is) ∙ ap (λ k. item ∷ drop k items) (sym (add-one i))

pub left_at : {A B : Type 0} (f : A → B) (items : List A) (i : ℕ) (item : A) → i < length items → item ≡ get_or items i item → map f (drop i items) ≡ f item ∷ map f (drop (i + 1) items)
left_at f items i item below is = ap (map f) (item_at items i item below is)

pub left_none : {A B : Type 0} (f : A → B) (items : List A) (i : ℕ) → length items ≤ i → map f (drop i items) ≡ []
left_none f items i past = ap (map f) (drop_all i items past)
