-- The search of a part: its bytes in lower case, the orders of bytes, and where a part is cut.
use Rattle.std.proofs.Common.{◌≡◌, ◌≢◌, ℕ, ◌+◌, ◌-◌, ◌<◌, ◌≤◌, Bool, true, false, List, Option, length, get_or, max, sym, ap, subst, ◌∙◌, ⊎_elim, arith}
use Rattle.std.specs.Char.{to_ascii_lowercase}
use Rattle.std.proofs.lemmas.Bool.{cases_lt}
use Rattle.std.proofs.lemmas.List.{get_or-map, length-map}
use Rattle.base_model.specs.Text.{ascii_lower}
use Rattle.memchr.specs.Critical.{IsCutPlace}
use Rattle.memchr.specs.Find.{FindsNeedle, IsFirst, OccursAt}
use Rattle.memchr.proofs.lemmas.CriticalLemmas as cuts
use Rattle.memchr.proofs.lemmas.FindLemmas.{IsFirst-agree}
use Rattle.memchr.proofs.lemmas.SearchLemmas.{IsShift-large, IsShift-small}
use Rattle.selector_match.specs.TwoWay.{IsCut, Precedes, StandsAt, lower_at}

pub lower_at-lowers : (text : List ℕ) (k : ℕ) → k < length text → to_ascii_lowercase (get_or text k 0) ≡ lower_at text k
unfolding lower_at
lower_at-lowers text k h = sym (get_or-map to_ascii_lowercase text k 0 0 h)

-- either order of bytes

pub Precedes-trans : (reversed : Bool) (a b c : ℕ) → Precedes reversed a b → Precedes reversed b c → Precedes reversed a c
Precedes-trans false a b c h k = omega (arith, h, k)
Precedes-trans true a b c h k = omega (arith, h, k)

pub Precedes-irrefl : (reversed : Bool) (a : ℕ) → Precedes reversed a a → ⊥
Precedes-irrefl false a h = omega (arith, h)
Precedes-irrefl true a h = omega (arith, h)

pub Precedes-other : (reversed : Bool) (a b : ℕ) → a ≢ b → (Precedes reversed a b → ⊥) → Precedes reversed b a
Precedes-other false a b apart h = omega (arith, apart, h)
Precedes-other true a b apart h = omega (arith, apart, h)

pub Precedes-opposed : (a b : ℕ) → Precedes false a b → Precedes true a b → ⊥
Precedes-opposed a b h k = omega (arith, h, k)

-- what a search of a part goes by, where the bytes before the cut repeat the period of those behind it, and where they do not

module _ (part : List ℕ) (place period : ℕ) (h : IsCutPlace (lower_at part) (length part) place period) where
  moved : (k : ℕ) → lower_at part (period + k) ≡ lower_at part (k + period)
  moved k = ap (lower_at part) (omega arith)

  pub IsCut-known : ((k : ℕ) → k < place → lower_at part k ≡ lower_at part (period + k)) → IsCut part (record { place = place; shift = period; known = length part - period })
  IsCut-known same =
      let cut = cuts.IsCut-small (lower_at part) (length part) place period h (λ k l. same k l ∙ moved k) in
      let (moves, behind, fits, repeats, passes) = IsShift-small place cut.shifts in
      record {
        below = cut.below;
        critical = cut.critical;
        moves = moves;
        passes = passes;
        fits = omega arith;
        repeats = λ k l. repeats k (omega arith);
        behind = λ l. omega arith;
      }

  pub IsCut-unknown : (k : ℕ) → k < place → lower_at part k ≢ lower_at part (period + k) → IsCut part (record { place = place; shift = max place (length part - place); known = 0 })
  IsCut-unknown k l differs =
      let cut = cuts.IsCut-long (lower_at part) (length part) place period h (λ same. differs (same k l ∙ sym (moved k))) in
      let (moves, fits, passes) = IsShift-large place cut.shifts in
      record {
        below = cut.below;
        critical = cut.critical;
        moves = moves;
        passes = passes;
        fits = omega arith;
        repeats = λ k l. absurd (omega arith);
        behind = λ l. absurd (omega arith);
      }

-- what is known of the first bytes, and of those from there or from the cut on
pub behind_cut : (P : ℕ → Type 0) (cut known end start : ℕ) → start ≡ max cut known → ((k : ℕ) → k < known → P k) → ((k : ℕ) → start ≤ k → k < end → P k) → (k : ℕ) → cut ≤ k → k < end → P k
behind_cut P cut known end start e first rest k low high =
    ⊎_elim (λ near. first k near) (λ far. rest k (omega arith) high) (cases_lt k known)

-- what the search finds, in the words of the kit
pub FindsNeedle-lower : (text part : List ℕ) (found : Option ℕ) → IsFirst (StandsAt text part) 0 (length text + 1) found → FindsNeedle (ascii_lower text) (ascii_lower part) 0 found
unfolding lower_at
FindsNeedle-lower text part found h =
    let whole : length (ascii_lower text) ≡ length text = length-map text to_ascii_lowercase in
    let short : length (ascii_lower part) ≡ length part = length-map part to_ascii_lowercase in
    subst (λ n. IsFirst (OccursAt (ascii_lower text) (ascii_lower part)) 0 (n + 1) found) (sym whole)
    (IsFirst-agree (StandsAt text part) (OccursAt (ascii_lower text) (ascii_lower part)) 0 (length text + 1)
    (λ k l stands. record { fits = omega (arith, stands.fits); reads = λ j below. stands.reads j (omega arith) })
    (λ k l occurs. record { fits = omega (arith, occurs.fits); reads = λ j below. occurs.reads j (omega arith) }) found h)
