-- Lines whose bytes are counted one after another.
use Rattle.std.proofs.Common.{◌≡◌, ℕ, zero, suc, ◌+◌, ◌<◌, ◌≤◌, List, [], ◌∷◌, length, drop, get_or, ap, ◌∙◌, arith, length-append}
use Rattle.std.specs.List.{AllByRecursion, flat_map}
use Rattle.std.proofs.lemmas.List.{drop_all}
use Rattle.sheet_set.proofs.Left.{item_at}

-- the bytes that are counted so far, with those of the lines that are left, by the index of the next
abbrev pub bytes_from : {X : Type 0} → (X → List ℕ) → List X → ℕ → ℕ → ℕ
bytes_from f items i bytes = bytes + length (flat_map f (drop i items))

-- one line more
pub bytes_from-one : {X : Type 0} (f : X → List ℕ) (items : List X) (i : ℕ) (item : X) (old new whole : ℕ) → i < length items → item ≡ get_or items i item → new ≡ old + length (f item) → bytes_from f items i old ≡ whole → bytes_from f items (i + 1) new ≡ whole
bytes_from-one f items i item old new whole below is added so_far =
    let here = item_at items i item below is in
    let rest = drop (i + 1) items in
    let more : length (flat_map f (drop i items)) ≡ length (f item) + length (flat_map f rest) = ap (λ l. length (flat_map f l)) here ∙ length-append (f item) (flat_map f rest) in
    omega (arith, added, more, so_far)

-- none is left
pub bytes_from-all : {X : Type 0} (f : X → List ℕ) (items : List X) (i now whole : ℕ) → length items ≤ i → bytes_from f items i now ≡ whole → now ≡ whole
bytes_from-all f items i now whole past so_far =
    let none : length (flat_map f (drop i items)) ≡ 0 = ap (λ l. length (flat_map f l)) (drop_all i items past) in
    omega (arith, none, so_far)

-- what holds of all holds of the one at an index
pub each-at : {X : Type 0} (P : X → Type 0) (xs : List X) (i : ℕ) (d : X) → i < length xs → AllByRecursion P xs → P (get_or xs i d)
each-at P [] i d below all = absurd (omega (arith, below))
each-at P (x ∷ xs) zero d below all = all.0
each-at P (x ∷ xs) (suc i) d below all = each-at P xs i d (omega (arith, below)) all.1
