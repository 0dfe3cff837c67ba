-- A text with its ASCII letters in lower case where case does not count: its bytes and its characters.
use Rattle.std.proofs.Common.{◌≡◌, ℕ, Bool, true, false, List, sym, ap, ◌∙◌, refl}
use Rattle.std.specs.Str.{chars, IsUtf8}
use Rattle.std.proofs.lemmas.Str.{chars-encodes, scalars-chars}
use Rattle.base_model.specs.Text.{ascii_lower}
use Rattle.base_model.proofs.CaseLemmas.{lower_bytes, scalars_lower}
use Rattle.selector_model.specs.Comparisons.{folded}

pub IsUtf8-folded : (k : Bool) (bs : List ℕ) → IsUtf8 bs → IsUtf8 (folded k bs)
IsUtf8-folded true bs u = u
IsUtf8-folded false bs u = (ascii_lower (chars bs), (scalars_lower (chars bs) (scalars-chars bs u), sym (lower_bytes bs u)))

pub chars-folded : (k : Bool) (bs : List ℕ) → IsUtf8 bs → chars (folded k bs) ≡ folded k (chars bs)
chars-folded true bs u = refl
chars-folded false bs u =
    ap chars (sym (sym (lower_bytes bs u))) ∙ chars-encodes (ascii_lower (chars bs)) (scalars_lower (chars bs) (scalars-chars bs u))
