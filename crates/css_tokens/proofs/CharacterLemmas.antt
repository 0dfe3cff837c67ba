use Rattle.std.proofs.Common.{◌≡◌, ℕ, ◌+◌, ◌<◌, true, List, [], ◌∷◌, ◌++◌, map, length, get_or, set, take, encode_utf8, sym, ap, ◌∙◌, refl, arith, append-nil}
use Rattle.std.specs.Prelude.{◌&&◌, max, nat_lt}
use Rattle.std.specs.Char.{IsScalar}
use Rattle.std.specs.Str.{chars, IsUtf8}
use Rattle.std.proofs.lemmas.Bool.{and_from}
use Rattle.std.proofs.lemmas.Bool.Decides.{nat_tests}
use Rattle.std.proofs.lemmas.List.{take_more, take_more_set}
use Rattle.std.proofs.lemmas.List.Folds.{list_all_more}
use Rattle.std.proofs.lemmas.Str.{chars-append, chars-encodes}
use Rattle.stylo_base.specs.Ascii.{is_all_ascii}

-- a character behind a text
pub chars-push : (old new : List ℕ) (c : ℕ) → IsScalar c → IsUtf8 old → new ≡ old ++ encode_utf8 c → chars new ≡ chars old ++ c ∷ []
chars-push old new c scalar utf8 e =
    ap chars e ∙ (chars-append old (encode_utf8 c) utf8
    ∙ ap (λ cs. chars old ++ cs) (ap chars (sym (append-nil (encode_utf8 c))) ∙ chars-encodes (c ∷ []) (and_from _ true scalar refl)))

-- each byte as it is
pub map_same : (bytes : List ℕ) → map (λ b. b) bytes ≡ bytes
map_same [] = refl
map_same (b ∷ bytes) = ap (λ bs. b ∷ bs) (map_same bytes)

-- one more character is copied as a byte
pub copied_more : (text bytes : List ℕ) (i d : ℕ) → i < length text → i < length bytes → d ≡ get_or text i d → take i bytes ≡ take i text → take (i + 1) (set bytes i d) ≡ take (i + 1) text
copied_more text bytes i d inside room is_d same =
    take_more_set bytes i d room ∙ (ap (λ cs. cs ++ d ∷ []) same ∙ (ap (λ e. take i text ++ e ∷ []) is_d ∙ sym (take_more text i d inside)))

-- one more character is in ASCII
pub ascii_more : (text : List ℕ) (i d : ℕ) → i < length text → d ≡ get_or text i d → nat_lt d 128 ≡ true → is_all_ascii (take i text) ≡ true → is_all_ascii (take (i + 1) text) ≡ true
ascii_more text i d inside is_d one before =
    list_all_more (λ b. nat_lt b 128) text i d inside ∙ and_from _ _ before (ap (λ e. nat_lt e 128) (sym is_d) ∙ one)

-- one byte on: the highest is in ASCII where all are
pub highest_more : (a d : ℕ) → nat_lt (max a d) 128 ≡ (nat_lt a 128 && nat_lt d 128)
highest_more a d = grind (arith, nat_tests)
