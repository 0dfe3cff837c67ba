use Rattle.std.proofs.Common.{◌≡◌, ◌↔◌, ℕ, Bool, List, IsTrue, map, encode_utf8_all, sym, ap, ◌∙◌}
use Rattle.std.specs.Char.{to_ascii_lowercase}
use Rattle.std.specs.Str.{chars, bytes_eq, IsUtf8}
use Rattle.std.proofs.lemmas.Bool.Decides.{same_from_decides}
use Rattle.std.proofs.lemmas.Slice.Eq.{bytes_eq-Decides}
use Rattle.std.proofs.lemmas.Str.{encodes_same}
use Rattle.base_model.specs.Text.{ascii_lower}
use Rattle.base_model.proofs.CaseLemmas.{lower_bytes}

-- two texts are compared alike by bytes and by characters
pub same_lower : (a b : List ℕ) (r : Bool) → IsUtf8 a → IsUtf8 b → IsTrue r ↔ (map to_ascii_lowercase a ≡ map to_ascii_lowercase b) → IsTrue r ↔ (ascii_lower (chars a) ≡ ascii_lower (chars b))
same_lower a b r u v h = (
  λ t. encodes_same _ _ (sym (lower_bytes a u) ∙ (h.0 t ∙ lower_bytes b v)),
  λ e. h.1 (lower_bytes a u ∙ (ap encode_utf8_all e ∙ sym (lower_bytes b v))),
)

-- the same as a test
pub lower_test : (a b : List ℕ) (r : Bool) → IsUtf8 a → IsUtf8 b → IsTrue r ↔ (map to_ascii_lowercase a ≡ map to_ascii_lowercase b) → r ≡ bytes_eq (ascii_lower (chars a)) (ascii_lower (chars b))
lower_test a b r u v h = same_from_decides r _ (same_lower a b r u v h) (bytes_eq-Decides _ _)
