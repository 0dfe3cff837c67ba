-- Colours in hexadecimal.
use Rattle.std.proofs.Common.{◌≡◌, ℕ, ◌+◌, ◌<◌, Bool, true, false, List, [], ◌∷◌, Option, Some, None, if◌then◌else◌, length, get_or, map, refl, sym, ap, ◌∙◌, arith}
use Rattle.std.specs.Char.{digit_value, is_ascii_hexdigit}
use Rattle.std.specs.List.{list_all}
use Rattle.std.specs.Str.{IsAscii, IsUtf8, chars}
use Rattle.std.proofs.lemmas.Bool.{cond-true, cond-false}
use Rattle.std.proofs.lemmas.Bool.Decides.{nat_tests}
use Rattle.std.proofs.lemmas.Str.{chars-IsAscii, encodes-chars}
use Rattle.std.proofs.lemmas.Str.Ascii.{IsAscii-nil, IsAscii-cons, encodes-IsAscii}
use Rattle.value_model.specs.Color.{Color, rgba}
use Rattle.value_model.specs.HexColor.{color_of_digits, hex_color, pair}

-- the number of the two digits at an index
abbrev pub pair_at : List ℕ → ℕ → ℕ
pair_at bs i = pair (digit_value (get_or bs i 0)) (digit_value (get_or bs (i + 1) 0))

-- the colour of eight digits
pub eight_digits : (bs : List ℕ) (red green blue alpha : ℕ) → list_all is_ascii_hexdigit bs ≡ true → length bs ≡ 8 → red ≡ pair_at bs 0 → green ≡ pair_at bs 2 → blue ≡ pair_at bs 4 → alpha ≡ pair_at bs 6 → Some (rgba red green blue alpha) ≡ hex_color bs
eight_digits (r ∷ s ∷ g ∷ h ∷ b ∷ c ∷ a ∷ d ∷ []) red green blue alpha all e is_red is_green is_blue is_alpha =
    let bs : List ℕ = r ∷ s ∷ g ∷ h ∷ b ∷ c ∷ a ∷ d ∷ [] in
    rw (is_red, is_green, is_blue, is_alpha) (sym (cond-true (list_all is_ascii_hexdigit bs) (color_of_digits (map digit_value bs)) None all))
eight_digits bs red green blue alpha all e is_red is_green is_blue is_alpha = absurd (omega arith)

either_way : (found : Option Color) (b : Bool) → (if b then found else found) ≡ found
either_way found true = refl
either_way found false = refl

-- no colour has another number of digits
pub other_digits : (bs : List ℕ) → (length bs ≡ 3 → ⊥) → (length bs ≡ 4 → ⊥) → (length bs ≡ 6 → ⊥) → (length bs ≡ 8 → ⊥) → None ≡ hex_color bs
other_digits (a ∷ b ∷ c ∷ []) three four six eight = absurd (three (omega arith))
other_digits (a ∷ b ∷ c ∷ d ∷ []) three four six eight = absurd (four (omega arith))
other_digits (a ∷ b ∷ c ∷ d ∷ e ∷ f ∷ []) three four six eight = absurd (six (omega arith))
other_digits (a ∷ b ∷ c ∷ d ∷ e ∷ f ∷ g ∷ h ∷ []) three four six eight = absurd (eight (omega arith))
other_digits bs three four six eight = sym (either_way None (list_all is_ascii_hexdigit bs))

digit_ascii : (b : ℕ) → is_ascii_hexdigit b ≡ true → b < 128
digit_ascii b h = grind (arith, nat_tests)

digits-IsAscii : (bs : List ℕ) → list_all is_ascii_hexdigit bs ≡ true → IsAscii bs
digits-IsAscii [] all = IsAscii-nil
digits-IsAscii (b ∷ bs) all =
    IsAscii-cons b bs (digit_ascii b (grind (arith, nat_tests))) (digits-IsAscii bs (grind (arith, nat_tests)))

-- a text is read by its bytes as by its characters
by_tests : (bs : List ℕ) (in_bytes in_chars : Bool) → IsUtf8 bs → list_all is_ascii_hexdigit bs ≡ in_bytes → list_all is_ascii_hexdigit (chars bs) ≡ in_chars → hex_color bs ≡ hex_color (chars bs)
by_tests bs true in_chars utf8 e f = ap hex_color (sym (chars-IsAscii bs (digits-IsAscii bs e)))
by_tests bs false true utf8 e f =
    ap hex_color (sym (encodes-chars bs utf8) ∙ encodes-IsAscii (chars bs) (digits-IsAscii (chars bs) f))
by_tests bs false false utf8 e f =
    cond-false (list_all is_ascii_hexdigit bs) (color_of_digits (map digit_value bs)) None e
    ∙ sym (cond-false (list_all is_ascii_hexdigit (chars bs)) (color_of_digits (map digit_value (chars bs))) None f)

pub hex_color-chars : (bs : List ℕ) → IsUtf8 bs → hex_color bs ≡ hex_color (chars bs)
hex_color-chars bs utf8 = by_tests bs _ _ utf8 refl refl
