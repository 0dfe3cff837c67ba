-- Texts without a line feed, and how many line feeds a text holds.
use Rattle.std.proofs.Common.{◌≡◌, ℕ, zero, suc, ◌+◌, ◌≤◌, ◌/◌, ◌%◌, ℤ, pos, negsuc, Bool, true, false, cond, eqb, ltb, List, [], ◌∷◌, ◌++◌, map, refl, sym, ap, ◌∙◌, arith, inl, inr}
use Rattle.std.specs.Prelude.{not, nat_lt, decimal, flat_map, encode_utf8_all}
use Rattle.std.specs.Fmt.{digit_glyph, digits, digits_onto}
use Rattle.std.proofs.lemmas.Bool.{and_from, and_parts, cases_Bool, cond_both, cond-false, not-true}
use Rattle.std.proofs.lemmas.Bool.Decides.{nat_tests}
use Rattle.std.proofs.lemmas.List.Folds.{list_all-append}
use Rattle.std.proofs.lemmas.List.Sums.{sum_by-append, sum_by-cons}
use lib.Utf8.{encode, next}
use Rattle.base_model.specs.Text.{Characters}
use Rattle.base_model.specs.Thousandths.{pointed, printed_number, spelled, without_zeros}
use Rattle.base_model.specs.LineFeeds.{is_within_line, line_feeds}

abbrev pub IsWithinLine : Characters → Type 0
IsWithinLine text = is_within_line text ≡ true

-- one text before another, and those that are made of each item of a list

pub within_line-append : (before after : Characters) → IsWithinLine before → IsWithinLine after → IsWithinLine (before ++ after)
within_line-append before after h k = list_all-append _ before after ∙ and_from _ _ h k

pub within_line-flat_map : {X : Type 0} (f : X → Characters) → ((x : X) → IsWithinLine (f x)) → (xs : List X) → IsWithinLine (flat_map f xs)
within_line-flat_map f each [] = refl
within_line-flat_map f each (x ∷ xs) = within_line-append (f x) (flat_map f xs) (each x) (within_line-flat_map f each xs)

within_line-map : (f : ℕ → ℕ) → ((x : ℕ) → not (eqb (f x) 10) ≡ true) → (xs : List ℕ) → IsWithinLine (map f xs)
within_line-map f each [] = refl
within_line-map f each (x ∷ xs) = and_from _ _ (each x) (within_line-map f each xs)

-- numbers

glyph_goes_on : (upper : Bool) (d : ℕ) → not (eqb (digit_glyph upper d) 10) ≡ true
glyph_goes_on upper d =
    let P : ℕ → Type 0 = λ n. not (eqb n 10) ≡ true in
    cond_both (nat_lt d 10) _ _ P (λ _. grind (arith, nat_tests)) (λ _. cond_both upper _ _ P (λ _. grind (arith, nat_tests)) (λ _. grind (arith, nat_tests)))

glyphs_within_line : (k base : ℕ) (upper : Bool) (n : ℕ) (after : Characters) → IsWithinLine after → IsWithinLine (digits_onto k base upper n after)
glyphs_within_line zero base upper n after h = h
glyphs_within_line (suc k) base upper n after h =
    let more : IsWithinLine (digit_glyph upper (n % base) ∷ after) = and_from _ _ (glyph_goes_on upper (n % base)) h in
    cond_both (eqb (n / base) 0) _ _ IsWithinLine (λ _. more) (λ _. glyphs_within_line k base upper (n / base) _ more)

pub decimal_within_line : (n : ℕ) → IsWithinLine (decimal n)
unfolding digits
decimal_within_line n = glyphs_within_line 64 10 false n [] refl

pointed_within_line : (ds : List ℕ) → IsWithinLine (pointed ds)
pointed_within_line [] = refl
pointed_within_line (d ∷ ds) = within_line-map (λ x. 48 + x) (λ x. grind (arith, nat_tests)) (d ∷ ds)

spelled_within_line : (n : ℕ) → IsWithinLine (spelled n)
spelled_within_line n =
    within_line-append (decimal (n / 1000)) _ (decimal_within_line (n / 1000))
    (pointed_within_line (without_zeros (n / 100 % 10 ∷ n / 10 % 10 ∷ n % 10 ∷ [])))

pub printed_number_within_line : (z : ℤ) → IsWithinLine (printed_number z)
printed_number_within_line (pos n) = spelled_within_line n
printed_number_within_line (negsuc n) = spelled_within_line (suc n)

-- how many line feeds there are

pub line_feeds-append : (before after : List ℕ) → line_feeds (before ++ after) ≡ line_feeds before + line_feeds after
unfolding line_feeds
line_feeds-append before after = sum_by-append _ before after

line_feeds-cons : (c : ℕ) (cs : List ℕ) → line_feeds (c ∷ cs) ≡ cond (eqb c 10) 1 0 + line_feeds cs
unfolding line_feeds
line_feeds-cons c cs = sum_by-cons _ c cs

pub line_feeds-within_line : (text : Characters) → IsWithinLine text → line_feeds text ≡ 0
unfolding line_feeds
line_feeds-within_line [] h = refl
line_feeds-within_line (c ∷ cs) h =
    let parts : (not (eqb c 10) ≡ true) × IsWithinLine cs = and_parts _ _ h in
    line_feeds-cons c cs ∙ (ap (λ b. cond b 1 0 + line_feeds cs) (not-true _ parts.0) ∙ omega (arith, line_feeds-within_line cs parts.1))

-- one is in a line to its end, whatever stands before it that holds none
pub line_feeds-after : (before after : List ℕ) → IsWithinLine before → line_feeds after ≡ 1 → line_feeds (before ++ after) ≡ 1
line_feeds-after before after h one =
    line_feeds-append before after ∙ omega (arith, line_feeds-within_line before h, one)

-- a byte that begins a character beyond ASCII, or goes on with one
byte_goes_on : (first n : ℕ) → 128 ≤ first → not (eqb (first + n) 10) ≡ true
byte_goes_on first n h = grind (arith, nat_tests)

beyond_ascii : (c : ℕ) → ltb c 128 ≡ false → IsWithinLine (encode c)
unfolding encode
beyond_ascii c h =
    let goes : (n : ℕ) → not (eqb (128 + n) 10) ≡ true = λ n. byte_goes_on 128 n (omega arith) in
    let last : IsWithinLine (next c ∷ []) = and_from _ _ (goes (c % 64)) refl in
    let two : IsWithinLine (next (c / 64) ∷ next c ∷ []) = and_from _ _ (goes (c / 64 % 64)) last in
    rw h
    (cond_both (ltb c 2048) _ _ IsWithinLine (λ _. and_from _ _ (byte_goes_on 192 (c / 64) (omega arith)) last)
    (λ _. cond_both (ltb c 65536) _ _ IsWithinLine (λ _. and_from _ _ (byte_goes_on 224 (c / 4096) (omega arith)) two)
    (λ _. and_from _ _ (byte_goes_on 240 (c / 262144) (omega arith)) (and_from _ _ (goes (c / 4096 % 64)) two))))

within_ascii : (c : ℕ) → ltb c 128 ≡ true → line_feeds (encode c) ≡ cond (eqb c 10) 1 0
unfolding encode line_feeds
within_ascii c h = rw h (omega arith)

encode_line_feeds : (c : ℕ) → line_feeds (encode c) ≡ cond (eqb c 10) 1 0
encode_line_feeds c =
    elim (cases_Bool (ltb c 128)) [
      | inl h ↦ within_ascii c h
      | inr h ↦
          let other : eqb c 10 ≡ false = grind (arith, nat_tests) in
          line_feeds-within_line (encode c) (beyond_ascii c h) ∙ sym (cond-false (eqb c 10) 1 0 other)
    ]

-- in UTF-8 a text has as many
pub line_feeds-encoded : (text : Characters) → line_feeds (encode_utf8_all text) ≡ line_feeds text
line_feeds-encoded [] = refl
line_feeds-encoded (c ∷ cs) =
    line_feeds-append (encode c) (encode_utf8_all cs)
    ∙ (ap (λ n. n + line_feeds (encode_utf8_all cs)) (encode_line_feeds c)
    ∙ (ap (λ n. cond (eqb c 10) 1 0 + n) (line_feeds-encoded cs) ∙ sym (line_feeds-cons c cs)))
