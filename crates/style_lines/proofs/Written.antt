-- What of a whole is written, and what is to be written still.
use Rattle.std.proofs.Common.{◌≡◌, ℕ, List, [], ◌++◌, Option, Some, None, take, drop, refl, sym, ap, ◌∙◌, append-nil, append_assoc, subst, take-append-drop}
use Rattle.std.specs.List.{flat_map}
use Rattle.std.proofs.lemmas.Grind.{flat_map-append}
use Rattle.std.specs.Io.KnownBytes.{Appends}
use Rattle.std.proofs.KnownBytes.{Appends-trans}
use Rattle.style_lines.specs.Loops.{GrewByFront}
use Rattle.style_lines.proofs.Fronts.{front_after}

-- an output grew by what comes before the rest
pub record IsWritten (a b : Option (List ℕ)) (rest whole : List ℕ) : Type 0 where
  pub front : List ℕ
  pub done : Appends a b front
  pub is_whole : front ++ rest ≡ whole

module _ (a b c : Option (List ℕ)) (next rest whole : List ℕ) (so_far : IsWritten a b (next ++ rest) whole) where
  pub one_more : Appends b c next → IsWritten a c rest whole
  one_more grew = record {
    front = so_far.front ++ next;
    done = Appends-trans a b c so_far.front next so_far.done grew;
    is_whole = append_assoc so_far.front next rest ∙ so_far.is_whole;
  }

  pub front_more : GrewByFront b c next → GrewByFront a c whole
  front_more grew =
      front_after a b c so_far.front next rest whole (sym so_far.is_whole) so_far.done grew

-- before anything is written
none_more : (a : Option (List ℕ)) → Appends a a []
none_more None = tt
none_more (Some x) = sym (append-nil x)

pub nothing : (a : Option (List ℕ)) (whole : List ℕ) → IsWritten a a whole whole
nothing a whole = record { front = []; done = none_more a; is_whole = refl }

-- what the first n of some are written as, and the others
pub flat_parts : {X : Type 0} (f : X → List ℕ) (n : ℕ) (xs : List X) → flat_map f xs ≡ flat_map f (take n xs) ++ flat_map f (drop n xs)
flat_parts f n xs = ap (flat_map f) (sym (take-append-drop n xs)) ∙ flat_map-append f (take n xs) (drop n xs)

-- a front of what comes next, of all of which nothing was written before
pub begun : (a b : Option (List ℕ)) (next rest whole : List ℕ) → whole ≡ next ++ rest → GrewByFront a b next → GrewByFront a b whole
begun a b next rest whole is grew =
    front_more a a b next rest whole (subst (λ w. IsWritten a a w whole) is (nothing a whole)) grew
