-- Pieces that are written one after another.
use Rattle.std.proofs.Common.{◌≡◌, ℕ, ◌+◌, ◌<◌, List, [], ◌∷◌, ◌++◌, length, take, drop, Option, Some, None, sym, ap, ◌∙◌, append-nil, arith, length-append, subst, take-append-drop, get_or, zero-add, add-one, suc}
use Rattle.std.specs.List.{flat_map}
use Rattle.std.proofs.lemmas.Grind.{flat_map-append}
use Rattle.std.proofs.lemmas.List.{take-append-le}
use Rattle.std.proofs.Math.Seq.{take-suc, drop-cons, take-append_seam}
use Rattle.std.specs.Io.KnownBytes.{Appends}
use Rattle.std.proofs.KnownBytes.{Appends-trans}
use Rattle.style_lines.specs.Loops.{GrewByFront}

-- the first so many bytes of some bytes and others
pub take_both : (bs cs : List ℕ) (n : ℕ) → take (length bs + n) (bs ++ cs) ≡ bs ++ take n cs
take_both [] cs n = ap (λ m. take m cs) (zero-add n)
take_both (b ∷ bs) cs n =
    let one_more : length (b ∷ bs) + n ≡ suc (length bs + n) = omega arith in
    ap (λ m. take m (b ∷ (bs ++ cs))) one_more ∙ ap (λ l. b ∷ l) (take_both bs cs n)

-- a front of what comes next is a front of the whole
pub front_after : (a b c : Option (List ℕ)) (bs next rest whole : List ℕ) → whole ≡ bs ++ (next ++ rest) → Appends a b bs → GrewByFront b c next → GrewByFront a c whole
front_after a b c bs next rest whole e first second =
    let n : ℕ = second.0 in
    let cut : take (length bs + n) whole ≡ bs ++ take n next =
    ap (take (length bs + n)) e ∙ take_both bs (next ++ rest) n ∙ ap (λ l. bs ++ l) (take-append-le n next rest second.1) in (
      length bs + n,
      omega (arith, second.1, ap length e, length-append bs (next ++ rest), length-append next rest),
      subst (Appends a c) (sym cut) (Appends-trans a b c bs (take n next) first second.2),
    )

pub front_itself : (a b : Option (List ℕ)) (bs rest whole : List ℕ) → whole ≡ bs ++ rest → Appends a b bs → GrewByFront a b whole
front_itself a b bs rest whole e first =
    (length bs, omega (arith, ap length e, length-append bs rest), subst (Appends a b) (sym (ap (take (length bs)) e ∙ take-append_seam bs rest)) first)

-- of a list: what its first k elements are written as, the next one, and the rest
flat_split : {X : Type 0} (f : X → List ℕ) (xs : List X) (k : ℕ) (d : X) → k < length xs → flat_map f xs ≡ flat_map f (take k xs) ++ (f (get_or xs k d) ++ flat_map f (drop (k + 1) xs))
flat_split f xs k d below =
    ap (flat_map f) (sym (take-append-drop k xs)) ∙ flat_map-append f (take k xs) (drop k xs) ∙ ap (λ l. flat_map f (take k xs) ++ flat_map f l) (drop-cons xs k d below ∙ ap (λ m. get_or xs k d ∷ drop m xs) (sym (add-one k)))

flat_more : {X : Type 0} (f : X → List ℕ) (xs : List X) (k : ℕ) (d : X) → k < length xs → flat_map f (take (k + 1) xs) ≡ flat_map f (take k xs) ++ f (get_or xs k d)
flat_more f xs k d below =
    ap (λ m. flat_map f (take m xs)) (add-one k) ∙ ap (flat_map f) (take-suc xs k d below) ∙ flat_map-append f (take k xs) (get_or xs k d ∷ []) ∙ ap (λ l. flat_map f (take k xs) ++ l) (append-nil (f (get_or xs k d)))

-- the first k elements are written, and then the next one
pub next_written : {X : Type 0} (f : X → List ℕ) (xs : List X) (k : ℕ) (d : X) (a b c : Option (List ℕ)) (piece : List ℕ) → k < length xs → piece ≡ f (get_or xs k d)
    → Appends a b (flat_map f (take k xs)) → Appends b c piece → Appends a c (flat_map f (take (k + 1) xs))
next_written f xs k d a b c piece below is first next =
    subst (Appends a c) (sym (flat_more f xs k d below)) (Appends-trans a b c (flat_map f (take k xs)) (f (get_or xs k d)) first (subst (Appends b c) is next))

-- and then a front of the next one
pub next_begun : {X : Type 0} (f : X → List ℕ) (xs : List X) (k : ℕ) (d : X) (a b c : Option (List ℕ)) (piece : List ℕ) → k < length xs → piece ≡ f (get_or xs k d)
    → Appends a b (flat_map f (take k xs)) → GrewByFront b c piece → GrewByFront a c (flat_map f xs)
next_begun f xs k d a b c piece below is first next =
    front_after a b c (flat_map f (take k xs)) (f (get_or xs k d)) (flat_map f (drop (k + 1) xs)) (flat_map f xs) (flat_split f xs k d below) first (subst (GrewByFront b c) is next)

-- before anything is written
pub none_written : (a : Option (List ℕ)) (whole : List ℕ) → GrewByFront a a whole
none_written None whole = (0, omega arith, tt)
none_written (Some x) whole = (0, omega arith, sym (append-nil x))

-- a piece of which the first n bytes are written, and then a front of the rest
pub rest_begun : (a b c : Option (List ℕ)) (piece rest : List ℕ) (n : ℕ) → rest ≡ drop n piece → Appends a b (take n piece) → GrewByFront b c rest → GrewByFront a c piece
rest_begun a b c piece rest n is first then =
    front_after a b c (take n piece) rest [] piece (sym (ap (λ l. take n piece ++ l) (append-nil rest ∙ is) ∙ take-append-drop n piece)) first then
