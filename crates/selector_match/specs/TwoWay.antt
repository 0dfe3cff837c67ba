-- What the search of a part reads, and where it cuts the part. What a critical place and a period are, and what it is
-- to stand somewhere, say the definitions of the kit's `memchr`.
use Rattle.std.specs.Prelude.{◌≡◌, ℕ, ◌+◌, ◌<◌, ◌≤◌, Bool, true, false, length, slice_index}
use Rattle.base_model.specs.Text.{Characters, ascii_lower}
use Rattle.memchr.specs.Critical.{IsCritical, NoPeriodBelow}
use Rattle.memchr.specs.TwoWay.{OccursIn}
use Rattle.selector_match.specs.declared.two_way.Cut.{Cut}

-- the byte at a place, in lower case
unfoldable pub lower_at : Characters → ℕ → ℕ
lower_at text k = slice_index (ascii_lower text) k

-- the part stands in the text from place k on, ignoring ASCII case
abbrev pub StandsAt : Characters → Characters → ℕ → Type 0
StandsAt text part k = OccursIn (lower_at part) (length part) (lower_at text) (length text) k

-- the first of two bytes comes before the second, in the order of bytes or in the reverse one
abbrev pub Precedes : Bool → ℕ → ℕ → Type 0
Precedes false a b = a < b
Precedes true a b = b < a

-- A part is cut at a critical place, and a search moves on by no more than its least period. So many of its first
-- bytes are known to stand then.
pub record IsCut (part : Characters) (cut : Cut) : Type 0 where
  pub below : cut.place < length part
  pub critical : IsCritical (lower_at part) (length part) cut.place
  pub moves : 0 < cut.shift
  pub passes : NoPeriodBelow (lower_at part) (length part) cut.shift
  pub fits : cut.shift + cut.known ≤ length part
  pub repeats : (k : ℕ) → k < cut.known → lower_at part k ≡ lower_at part (k + cut.shift)
  pub behind : 0 < cut.known → cut.place ≤ cut.shift
