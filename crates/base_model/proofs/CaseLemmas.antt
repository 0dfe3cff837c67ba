-- A text with its ASCII letters in lower case: its bytes and its characters.
use Rattle.std.proofs.Common.{◌≡◌, ℕ, suc, ◌<◌, ◌≤◌, true, List, [], ◌∷◌, ◌++◌, length, map, get_or, encode_utf8, encode_utf8_all, sym, ap, ◌∙◌, refl, arith, inl, inr, ◌⊎◌, append-nil}
use Rattle.std.specs.Char.{to_ascii_lowercase}
use Rattle.std.specs.Str.{chars, IsUtf8, all_scalars}
use Rattle.std.proofs.Math.Utf8.{scalar, low_scalar}
use Rattle.std.proofs.lemmas.Bool.{and_from, and_parts}
use Rattle.std.proofs.lemmas.List.{map-append}
use Rattle.std.proofs.lemmas.Str.{encode_ascii, encodes-chars, inside_one}
use Rattle.std.proofs.lemmas.Str.Ascii.{lowercase_is, lowercase_ascii}
use Rattle.base_model.specs.Text.{ascii_lower}

-- a number is that of an ASCII character or not
low_or_high : (n : ℕ) → (n < 128) ⊎ (128 ≤ n)
low_or_high n = grind arith

-- numbers from 128 on stay
lower_high : (bs : List ℕ) → ((k : ℕ) → k < length bs → 128 ≤ get_or bs k 0) → map to_ascii_lowercase bs ≡ bs
lower_high [] h = refl
lower_high (b ∷ bs) h =
    let high : 128 ≤ b = h 0 (omega arith) in
    ap (λ c. c ∷ map to_ascii_lowercase bs) ((lowercase_is b).2 (omega arith))
    ∙ ap (λ cs. b ∷ cs) (lower_high bs (λ k l. h (suc k) (omega arith)))

-- each byte of a character from 128 on is one of these
high_bytes : (c : ℕ) → 128 ≤ c → (k : ℕ) → k < length (encode_utf8 c) → 128 ≤ get_or (encode_utf8 c) k 0
high_bytes c h k l =
    elim (low_or_high (get_or (encode_utf8 c) k 0)) [
      | inl low ↦
          let same : c ≡ get_or (encode_utf8 c) k 0 = inside_one c [] (encode_utf8 c) k (sym (append-nil (encode_utf8 c))) l low in
          omega arith
      | inr high ↦ high
    ]

-- a character in lower case, in UTF-8
lower_one : (c : ℕ) → map to_ascii_lowercase (encode_utf8 c) ≡ encode_utf8 (to_ascii_lowercase c)
lower_one c =
    elim (low_or_high c) [
      | inl low ↦
          ap (map to_ascii_lowercase) (encode_ascii c low)
          ∙ sym (encode_ascii (to_ascii_lowercase c) (lowercase_ascii c low))
      | inr high ↦
          lower_high (encode_utf8 c) (high_bytes c high) ∙ ap encode_utf8 (sym ((lowercase_is c).2 (omega arith)))
    ]

-- a text in lower case, in UTF-8
lower_all : (cs : List ℕ) → map to_ascii_lowercase (encode_utf8_all cs) ≡ encode_utf8_all (ascii_lower cs)
lower_all [] = refl
lower_all (c ∷ cs) =
    map-append to_ascii_lowercase (encode_utf8 c) (encode_utf8_all cs)
    ∙ (ap (λ bs. bs ++ map to_ascii_lowercase (encode_utf8_all cs)) (lower_one c)
    ∙ ap (λ bs. encode_utf8 (to_ascii_lowercase c) ++ bs) (lower_all cs))

-- the bytes in lower case are the characters in lower case
pub lower_bytes : (bs : List ℕ) → IsUtf8 bs → map to_ascii_lowercase bs ≡ encode_utf8_all (ascii_lower (chars bs))
lower_bytes bs u = ap (map to_ascii_lowercase) (sym (encodes-chars bs u)) ∙ lower_all (chars bs)

scalar_lower : (c : ℕ) → scalar c ≡ true → scalar (to_ascii_lowercase c) ≡ true
scalar_lower c e =
    elim (low_or_high c) [
      | inl low ↦ let below : to_ascii_lowercase c < 128 = lowercase_ascii c low in low_scalar (to_ascii_lowercase c) (omega arith)
      | inr high ↦ ap scalar ((lowercase_is c).2 (omega arith)) ∙ e
    ]

pub scalars_lower : (cs : List ℕ) → all_scalars cs ≡ true → all_scalars (ascii_lower cs) ≡ true
scalars_lower [] e = refl
scalars_lower (c ∷ cs) e =
    let parts = and_parts (scalar c) (all_scalars cs) e in
    and_from (scalar (to_ascii_lowercase c)) (all_scalars (ascii_lower cs)) (scalar_lower c parts.0) (scalars_lower cs parts.1)
