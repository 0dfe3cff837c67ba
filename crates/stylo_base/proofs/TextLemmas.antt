use Rattle.std.proofs.Common.{◌≡◌, ℕ, zero, suc, true, List, [], ◌∷◌, ◌++◌, encode_utf8, encode_utf8_all, refl, sym, ap, ◌∙◌, subst, arith, append-nil}
use Rattle.std.specs.Char.{IsScalar}
use Rattle.std.proofs.lemmas.Bool.{and_from}
use Rattle.std.specs.Str.{chars, bytes_eq, IsUtf8, IsAscii}
use Rattle.std.proofs.lemmas.Grind.{merely}
use Rattle.std.proofs.lemmas.Str.{IsUtf8-append, IsUtf8-encode, IsUtf8-had, IsUtf8-nil, chars-IsAscii, chars-append, chars-encodes, chars-nil, encodes-chars}
use Rattle.std.proofs.lemmas.Bool.Decides.{nat_tests, same_from_decides}
use Rattle.std.proofs.lemmas.Slice.Eq.{bytes_eq-Decides}
use Rattle.stylo_base.specs.Ascii.{is_all_ascii}

-- the test means that each byte is below 128
IsAscii-from_all : (bs : List ℕ) → is_all_ascii bs ≡ true → IsAscii bs
IsAscii-from_all [] h i = grind (arith, nat_tests)
IsAscii-from_all (b ∷ bs) h zero = grind (arith, nat_tests)
IsAscii-from_all (b ∷ bs) h (suc i) = IsAscii-from_all bs (grind (arith, nat_tests)) i

-- the characters of an ASCII text are its bytes
pub chars-ascii : (bs : List ℕ) → is_all_ascii bs ≡ true → chars bs ≡ bs
chars-ascii bs h = chars-IsAscii bs (IsAscii-from_all bs h)

-- a text that is appended to another
pub chars_push : (old new text now : List ℕ) → IsUtf8 old → new ≡ old ++ text → chars old ≡ now → chars new ≡ now ++ chars text
chars_push old new text now u e v = ap chars e ∙ (chars-append old text u ∙ ap (λ cs. cs ++ chars text) v)

-- the bytes of a text are its characters in UTF-8
pub bytes_from_chars : (bytes now : List ℕ) → IsUtf8 bytes → chars bytes ≡ now → bytes ≡ encode_utf8_all now
bytes_from_chars bytes now u v = sym (encodes-chars bytes u) ∙ ap encode_utf8_all v

-- two texts of the same characters have the same bytes
pub chars_same : (a b : List ℕ) → IsUtf8 a → IsUtf8 b → chars a ≡ chars b → a ≡ b
chars_same a b u v h = sym (encodes-chars a u) ∙ ap encode_utf8_all h ∙ encodes-chars b v

-- two texts are compared alike by bytes and by characters
pub same_test : (a b : List ℕ) → IsUtf8 a → IsUtf8 b → bytes_eq a b ≡ bytes_eq (chars a) (chars b)
same_test a b u v =
    let by_chars = bytes_eq-Decides (chars a) (chars b) in
    same_from_decides _ _ (bytes_eq-Decides a b) (λ e. chars_same a b u v (by_chars.0 e), λ e. by_chars.1 (ap chars e))

-- a character that is appended to a text
pub chars_push_one : (old new now : List ℕ) (c : ℕ) → IsScalar c → IsUtf8 old → new ≡ old ++ encode_utf8 c → chars old ≡ now → chars new ≡ now ++ c ∷ []
chars_push_one old new now c scalar u e v =
    chars_push old new (encode_utf8 c) now u e v ∙ ap (λ cs. now ++ cs) (ap chars (sym (append-nil (encode_utf8 c))) ∙ chars-encodes (c ∷ []) (and_from _ true scalar refl))

-- no bytes have no characters
pub chars_none : (bytes : List ℕ) → bytes ≡ [] → chars bytes ≡ []
chars_none bytes e = ap chars e ∙ chars-nil

-- no bytes are UTF-8
pub utf8_none : (bytes : List ℕ) → bytes ≡ [] → ∥ IsUtf8 bytes ∥₁
utf8_none bytes e = merely (subst IsUtf8 (sym e) IsUtf8-nil)

-- and so are the bytes of a text
pub utf8_copied : (bytes text : List ℕ) → bytes ≡ text → IsUtf8 text → ∥ IsUtf8 bytes ∥₁
utf8_copied bytes text e u = merely (subst IsUtf8 (sym e) u)

-- a text that stays
pub utf8_same : (old new : List ℕ) → ∥ IsUtf8 old ∥₁ → new ≡ old → ∥ IsUtf8 new ∥₁
utf8_same old new u e = merely (subst IsUtf8 (sym e) (IsUtf8-had old u))

-- two texts in a row
pub utf8_push : (old new text : List ℕ) → ∥ IsUtf8 old ∥₁ → IsUtf8 text → new ≡ old ++ text → ∥ IsUtf8 new ∥₁
utf8_push old new text u v e = merely (subst IsUtf8 (sym e) (IsUtf8-append old text (IsUtf8-had old u) v))

-- a text and a character
pub utf8_push_one : (old new : List ℕ) (c : ℕ) → ∥ IsUtf8 old ∥₁ → IsScalar c → new ≡ old ++ encode_utf8 c → ∥ IsUtf8 new ∥₁
utf8_push_one old new c u scalar e = utf8_push old new (encode_utf8 c) u (IsUtf8-encode c scalar) e
