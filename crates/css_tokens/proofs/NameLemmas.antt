-- Names of custom properties, by their bytes.
use Rattle.std.proofs.Common.{◌≡◌, ℕ, ◌<◌, ◌≤◌, nat_eq, false, List, [], ◌∷◌, length, get_or, refl, sym, ap, ◌∙◌, arith}
use Rattle.std.specs.Str.{chars, IsUtf8}
use Rattle.std.specs.Prelude.{encode_utf8_all}
use lib.Utf8.{encode}
use Rattle.std.proofs.lemmas.Bool.Decides.{nat_tests}
use Rattle.std.proofs.lemmas.Str.{encodes-chars}
use Rattle.custom_model.specs.Value.{is_custom_name}

-- a name by its bytes
pub by_characters : (cs : List ℕ) → is_custom_name (encode_utf8_all cs) ≡ is_custom_name cs
unfolding encode
by_characters [] = refl
by_characters (a ∷ []) = grind (arith, nat_tests)
by_characters (a ∷ b ∷ []) = grind (arith, nat_tests)
by_characters (a ∷ b ∷ c ∷ cs) = grind (arith, nat_tests)

pub by_bytes : (bs : List ℕ) → IsUtf8 bs → is_custom_name (chars bs) ≡ is_custom_name bs
by_bytes bs u = sym (by_characters (chars bs)) ∙ ap is_custom_name (encodes-chars bs u)

pub short : (bs : List ℕ) → length bs < 3 → is_custom_name bs ≡ false
short [] h = refl
short (a ∷ []) h = refl
short (a ∷ b ∷ []) h = refl
short (a ∷ b ∷ c ∷ bs) h = absurd (omega arith)

pub first_other : (bs : List ℕ) → (get_or bs 0 0 ≡ 45 → ⊥) → nat_eq (get_or bs 0 0) 45 ≡ is_custom_name bs
first_other [] h = refl
first_other (a ∷ []) h = grind (arith, nat_tests)
first_other (a ∷ b ∷ []) h = grind (arith, nat_tests)
first_other (a ∷ b ∷ c ∷ bs) h = grind (arith, nat_tests)

pub by_second : (bs : List ℕ) → 3 ≤ length bs → get_or bs 0 0 ≡ 45 → is_custom_name bs ≡ nat_eq (get_or bs 1 0) 45
by_second [] h e = absurd (omega arith)
by_second (a ∷ []) h e = absurd (omega arith)
by_second (a ∷ b ∷ []) h e = absurd (omega arith)
by_second (a ∷ b ∷ c ∷ bs) h e = grind (arith, nat_tests)
