-- Texts in UTF-8 are in the order of their characters.
use Rattle.std.proofs.Common.{Less, Greater, ◌≡◌, ℕ, ◌<◌, List, [], ◌∷◌, ◌++◌, refl, sym, ap, ◌∙◌, arith}
use Rattle.std.specs.Prelude.{encode_utf8_all}
use Rattle.std.specs.Cmp.Lexicographic.{slice_cmp}
use Rattle.std.specs.Ordering.{nat_cmp, ordering_reverse, ordering_then}
use Rattle.std.specs.Str.{chars, IsUtf8}
use Rattle.std.proofs.lemmas.Bool.Decides.{nat_tests}
use Rattle.std.proofs.lemmas.Cmp.{nat_cmp_total, nat_list_cmp_total, by_ranked, ranked, tied_itself}
use Rattle.std.proofs.lemmas.Str.{encodes-chars}
use lib.Utf8.{encode}

-- the bytes of a lesser character are less
encode_less : (c d : ℕ) (r t : List ℕ) → c < d → slice_cmp nat_cmp (encode c ++ r) (encode d ++ t) ≡ Less
unfolding encode
encode_less c d r t h = grind (arith, nat_tests)

encode_some : (c : ℕ) (r : List ℕ) → slice_cmp nat_cmp [] (encode c ++ r) ≡ Less
unfolding encode
encode_some c r = grind (arith, nat_tests)

same_front : (p r t : List ℕ) → slice_cmp nat_cmp (p ++ r) (p ++ t) ≡ slice_cmp nat_cmp r t
same_front [] r t = refl
same_front (x ∷ p) r t = ap (λ o. ordering_then o (slice_cmp nat_cmp (p ++ r) (p ++ t))) (tied_itself nat_cmp_total x) ∙ same_front p r t

turned : (a b : List ℕ) → slice_cmp nat_cmp a b ≡ Less → slice_cmp nat_cmp b a ≡ Greater
turned a b e = nat_list_cmp_total.antisymm b a ∙ ap ordering_reverse e

encodes_order : (cs ds : List ℕ) → slice_cmp nat_cmp (encode_utf8_all cs) (encode_utf8_all ds) ≡ slice_cmp nat_cmp cs ds
encodes_order [] [] = refl
encodes_order [] (d ∷ ds) = encode_some d _
encodes_order (c ∷ cs) [] = turned [] (encode_utf8_all (c ∷ cs)) (encode_some c _)
encodes_order (c ∷ cs) (d ∷ ds) =
    by_ranked (c < d) (c ≡ d) (d < c) (nat_cmp c d) (ranked c d (nat_cmp c d) refl)
    (λ e h. encode_less c d _ _ h ∙ sym (ap (λ o. ordering_then o (slice_cmp nat_cmp cs ds)) e))
    (λ e h.
    ap (λ x. slice_cmp nat_cmp (encode x ++ encode_utf8_all cs) (encode d ++ encode_utf8_all ds)) h
    ∙ (same_front (encode d) (encode_utf8_all cs) (encode_utf8_all ds) ∙ (encodes_order cs ds ∙ sym (ap (λ o. ordering_then o (slice_cmp nat_cmp cs ds)) e))))
    (λ e h.
    turned (encode d ++ encode_utf8_all ds) (encode c ++ encode_utf8_all cs) (encode_less d c (encode_utf8_all ds) (encode_utf8_all cs) h)
    ∙ sym (ap (λ o. ordering_then o (slice_cmp nat_cmp cs ds)) e))

-- two texts are in the order of their characters
pub text_order : (a b : List ℕ) → IsUtf8 a → IsUtf8 b → slice_cmp nat_cmp a b ≡ slice_cmp nat_cmp (chars a) (chars b)
text_order a b u v =
    sym (ap (λ x. slice_cmp nat_cmp x (encode_utf8_all (chars b))) (encodes-chars a u) ∙ ap (slice_cmp nat_cmp a) (encodes-chars b v))
    ∙ encodes_order (chars a) (chars b)
