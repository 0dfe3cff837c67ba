-- The definitions computed.
use Rattle.std.specs.Prelude.{◌≡◌, ℕ, List, [], ◌∷◌, ◌++◌, ℤ, pos, neg_ℤ, ◌*ℤ◌, ◌+ℤ◌, map, true, false, codes, decimal}
use Rattle.std.proofs.Common.{refl, arith}
use Rattle.std.proofs.lemmas.Fmt.{decimal-digits_of}
use Rattle.base_model.specs.LineFeeds.{is_within_line, line_feeds}
use Rattle.base_model.specs.Text.{ascii_lower, same_text, is_word}
use Rattle.base_model.specs.Thousandths.{clamped, rounded, printed_number}
use Rattle.base_model.specs.Specificity.{Specificity, greater, is_less}

-- numbers of thousandths; the digits of a whole part do not compute, so they are written as such

two_digits : decimal 37 ≡ codes "37"
two_digits = decimal-digits_of 37 (omega arith) (omega arith)

-- n parts of d of a number of thousandths, within the range, as it is printed
abbrev parts : ℤ → ℤ → ℕ → List ℕ
parts z n d = printed_number (clamped (rounded (z *ℤ n) d))

parts_are : parts (pos 1000) (pos 4800) 127 ∷ parts (pos 1000) (neg_ℤ (pos 4)) 3 ∷ [] ≡ (decimal 37 ++ codes ".795") ∷ (codes "-" ++ decimal 1 ++ codes ".333") ∷ []
parts_are = refl

halves_away_from_zero : rounded (pos 1) 2 ∷ rounded (neg_ℤ (pos 1)) 2 ∷ rounded (pos 3) 7 ∷ [] ≡ pos 1 ∷ neg_ℤ (pos 1) ∷ pos 0 ∷ []
halves_away_from_zero = refl

within_range : clamped (pos 9_000_000_000_000) ∷ clamped (neg_ℤ (pos 9_000_000_000_000)) ∷ clamped (pos 7) ∷ [] ≡ pos 2_000_000_000_000 ∷ neg_ℤ (pos 2_000_000_000_000) ∷ pos 7 ∷ []
within_range = refl

whole : map printed_number (pos 0 ∷ pos 1000 ∷ []) ≡ (decimal 0 ++ []) ∷ (decimal 1 ++ []) ∷ []
whole = refl

printed : map printed_number (neg_ℤ (pos 50) ∷ pos 37_795 ∷ pos 10 ∷ pos 1_999_999_998_500 ∷ []) ≡ (codes "-" ++ decimal 0 ++ codes ".05") ∷ (decimal 37 ++ codes ".795") ∷ (decimal 0 ++ codes ".01") ∷ (decimal 1_999_999_998 ++ codes ".5") ∷ []
printed = refl

sum_ends_at_most : clamped (pos 2_000_000_000_000 +ℤ pos 1000) ≡ pos 2_000_000_000_000
sum_ends_at_most = refl

-- ASCII case: É and é are U+00C9 and U+00E9

lower : ascii_lower (codes "RGB(" ++ 201 ∷ codes ")") ≡ codes "rgb(" ++ 201 ∷ codes ")"
lower = refl

words_in_any_case : map (is_word (codes "rgb")) (codes "rGb" ∷ codes "rgba" ∷ codes "rg" ∷ []) ≡ true ∷ false ∷ false ∷ []
words_in_any_case = refl

no_other_case : same_text (ascii_lower (201 ∷ [])) (ascii_lower (233 ∷ [])) ≡ false
no_other_case = refl

-- line feeds

feeds_counted : line_feeds (codes "a\nb\n") ≡ 2
unfolding line_feeds
feeds_counted = refl

no_feed_within : map is_within_line (codes "a b" ∷ codes "a\nb" ∷ []) ≡ true ∷ false ∷ []
no_feed_within = refl

-- specificity

abbrev of : ℕ → ℕ → ℕ → Specificity
of ids classes types = record { ids = ids; classes = classes; types = types }

ids_first : greater (of 0 7 2) (of 1 0 0) ≡ of 1 0 0
ids_first = refl

then_classes : greater (of 0 7 2) (of 0 6 9) ≡ of 0 7 2
then_classes = refl

then_types : is_less (of 0 7 2) (of 0 7 3) ∷ is_less (of 0 7 2) (of 0 7 2) ∷ [] ≡ true ∷ false ∷ []
then_types = refl
