-- Writes in a row, and reads in a row, where the bytes are told.
use Rattle.std.proofs.Common.{◌≡◌, ◌+◌, ◌≤◌, ℕ, List, ◌++◌, length, take, drop, Some, None, Option, ap, sym, ◌∙◌, append_assoc, arith, length-append}
use Rattle.std.proofs.Math.Seq.{take-add, drop-append_seam}
use Rattle.std.proofs.lemmas.List.{take_all, take_at, take-append-le}
use Rattle.std.specs.Io.KnownBytes.{Appends, Consumes}
use Rattle.style_lines.specs.Loops.{LosesFront}
use Rattle.style_lines.proofs.Fronts.{take_both}

-- a front of n bytes, and m bytes of the rest, are a front of n + m bytes
pub Appends-take-add : (a b c : Option (List ℕ)) (piece rest : List ℕ) (n m : ℕ) → rest ≡ drop n piece
    → Appends a b (take n piece) → Appends b c (take m rest) → Appends a c (take (n + m) piece)
Appends-take-add None b c piece rest n m is first second = tt
Appends-take-add (Some x) None c piece rest n m is first second = absurd first
Appends-take-add (Some x) (Some y) None piece rest n m is first second = absurd second
Appends-take-add (Some x) (Some y) (Some z) piece rest n m is first second =
    second ∙ ap (λ l. l ++ take m rest) first ∙ append_assoc x (take n piece) (take m rest)
    ∙ ap (λ l. x ++ (take n piece ++ take m l)) is ∙ ap (λ l. x ++ l) (sym (take-add n m piece))

-- bytes that are read are a front that is lost
pub LosesFront-read : (a b : Option (List ℕ)) (bytes : List ℕ) (n : ℕ) → length bytes ≡ n → Consumes a b bytes → LosesFront n a b
LosesFront-read None b bytes n long read = tt
LosesFront-read (Some x) None bytes n long read = absurd read
LosesFront-read (Some x) (Some y) bytes n long read = (
  omega (arith, long, ap length read, length-append bytes y),
  ap Some (sym (ap (drop n) read ∙ ap (λ k. drop k (bytes ++ y)) (sym long) ∙ drop-append_seam bytes y)),
)

-- a list that was made longer, and its tail written by a read, up to the n bytes that came
pub cut_after_read : (old longer new zeros rest : List ℕ) (start end n : ℕ) → start ≡ length old → start ≤ end → n ≤ length new
    → longer ≡ take end old ++ zeros → take (start + n) (take start longer ++ (new ++ rest)) ≡ old ++ take n new
cut_after_read old longer new zeros rest start end n all up fits e =
    let front : take start longer ≡ old = rw (e, take_all end old (omega arith)) (take_at old zeros start (sym all)) in
    rw (front, all, take_both old (new ++ rest) n) (ap (λ l. old ++ l) (take-append-le n new rest fits))
