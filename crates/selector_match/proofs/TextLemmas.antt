-- Texts are compared alike by bytes and by characters.
use Rattle.std.proofs.Common.{◌≡◌, ℕ, ◌<◌, ◌≤◌, ◌==◌, ◌⊎◌, inl, inr, Bool, true, false, not, ◌&&◌, ◌||◌, List, [], ◌∷◌, ◌++◌, length, take, get_or, encode_utf8_all, refl, sym, ap, ◌∙◌, subst, arith, append-nil, length-append}
use Rattle.std.specs.Str.{chars, IsAscii, IsUtf8, IsCharBoundary}
use Rattle.std.proofs.lemmas.Bool.Decides.{same_from_decides, nat_tests}
use Rattle.std.proofs.lemmas.List.{take_at, get_or_at, nil_from_length}
use Rattle.std.proofs.lemmas.Str.{chars-nil, chars-append, chars-IsAscii, encodes-chars, encodes-append, IsUtf8-take, IsCharBoundary-start, IsCharBoundary-at_seam, IsUtf8-from_ascii, IsUtf8-nil, IsUtf8-append}
use Rattle.std.proofs.lemmas.Str.Ascii.{IsAscii-nil, IsAscii-cons}
use Rattle.stylo_base.proofs.TextLemmas.{same_test}
use Rattle.base_model.specs.Ascii.{hyphen}
use Rattle.base_model.specs.Text.{same_text, is_empty_text}
use Rattle.selector_model.specs.Selector.{AttributeOperator, equals, includes, dash_match, prefix, suffix, substring}
use Rattle.selector_model.specs.Comparisons.{begins_with, ends_with, has_part, compared, folded}
use Rattle.selector_match.proofs.LowerLemmas.{IsUtf8-folded, chars-folded}
use Rattle.selector_match.proofs.PartLemmas.{HasPart, begins_with-Decides, ends_with-Decides, has_part-Decides}

zero_or_more : (n : ℕ) → (n ≡ 0) ⊎ (0 < n)
zero_or_more n = grind arith

module _ (a b : List ℕ) (u : IsUtf8 a) (v : IsUtf8 b) where
  -- the bytes of a text that has the characters of b in it
  bytes_of : (front rest : List ℕ) → chars a ≡ front ++ (chars b ++ rest) → a ≡ encode_utf8_all front ++ (b ++ encode_utf8_all rest)
  bytes_of front rest e =
      sym (encodes-chars a u)
      ∙ (ap encode_utf8_all e
      ∙ (encodes-append front (chars b ++ rest)
      ∙ ap (λ l. encode_utf8_all front ++ l) (encodes-append (chars b) rest ∙ ap (λ l. l ++ encode_utf8_all rest) (encodes-chars b v))))

  pub begins_with-chars : begins_with a b ≡ begins_with (chars a) (chars b)
  begins_with-chars =
      let by_chars = begins_with-Decides (chars a) (chars b) in
      same_from_decides _ _ (begins_with-Decides a b) (
        λ e. (let (rest, f) = by_chars.0 e in (encode_utf8_all rest, bytes_of [] rest f)),
        λ (rest, e). by_chars.1 (chars rest, ap chars e ∙ chars-append b rest v),
      )

  -- where b begins inside a, the text may be cut
  cut : (front rest : List ℕ) → 0 < length b → a ≡ front ++ (b ++ rest) → IsCharBoundary a (length front)
  cut front rest some e = (omega (arith, ap length e, length-append front (b ++ rest)), λ l h. lead b some (IsCharBoundary-start b v) e h)
    where
      lead : (bs : List ℕ) → 0 < length bs → IsCharBoundary bs 0 → a ≡ front ++ (bs ++ rest) → 128 ≤ get_or a (length front) 0 → 192 ≤ get_or a (length front) 0
      lead [] l c f h = absurd (omega arith)
      lead (x ∷ bs) l c f h =
          let here : get_or a (length front) 0 ≡ x = ap (λ t. get_or t (length front) 0) f ∙ get_or_at front x (bs ++ rest) 0 (length front) refl in
          subst (λ n. 192 ≤ n) (sym here) (c.1 (omega arith) (subst (λ n. 128 ≤ n) here h))

  pub ends_with-chars : ends_with a b ≡ ends_with (chars a) (chars b)
  ends_with-chars =
      let by_chars = ends_with-Decides (chars a) (chars b) in
      same_from_decides _ _ (ends_with-Decides a b) (
        λ e. (let (front, f) = by_chars.0 e in (encode_utf8_all front, bytes_of front [] (f ∙ ap (λ l. front ++ l) (sym (append-nil (chars b)))) ∙ ap (λ l. encode_utf8_all front ++ l) (append-nil b))),
        λ (front, e). (
            let text : IsUtf8 front = subst IsUtf8 (ap (take (length front)) e ∙ take_at front b (length front) refl) (IsUtf8-take a (length front) u (IsCharBoundary-at_seam a front b e v)) in
            by_chars.1 (chars front, ap chars e ∙ chars-append front b text)),
      )

  part_cut : (front rest : List ℕ) → a ≡ front ++ (b ++ rest) → 0 < length b → chars a ≡ chars front ++ (chars b ++ chars rest)
  part_cut front rest e some =
      let at : IsCharBoundary a (length front) = cut front rest some e in
      let text : IsUtf8 front = subst IsUtf8 (ap (take (length front)) e ∙ take_at front (b ++ rest) (length front) refl) (IsUtf8-take a (length front) u at) in
      ap chars e ∙ (chars-append front (b ++ rest) text ∙ ap (λ l. chars front ++ l) (chars-append b rest v))

  part_chars : (front rest : List ℕ) → a ≡ front ++ (b ++ rest) → HasPart (chars a) (chars b)
  part_chars front rest e = elim (zero_or_more (length b)) [
    | inl none ↦ ([], (chars a, ap (λ l. l ++ chars a) (sym (ap chars (nil_from_length b none) ∙ chars-nil))))
    | inr some ↦ (chars front, (chars rest, part_cut front rest e some))
  ]

  pub has_part-chars : has_part a b ≡ has_part (chars a) (chars b)
  has_part-chars =
      let by_chars = has_part-Decides (chars a) (chars b) in
      same_from_decides _ _ (has_part-Decides a b) (
        λ e. (let (front, (rest, f)) = by_chars.0 e in (encode_utf8_all front, (encode_utf8_all rest, bytes_of front rest f))),
        λ (front, (rest, e)). by_chars.1 (part_chars front rest e),
      )

dash_ascii : IsAscii (hyphen ∷ [])
dash_ascii = IsAscii-cons hyphen [] (omega arith) IsAscii-nil

chars-dash : (b : List ℕ) → IsUtf8 b → chars (b ++ hyphen ∷ []) ≡ chars b ++ hyphen ∷ []
chars-dash b v = chars-append b (hyphen ∷ []) v ∙ ap (λ l. chars b ++ l) (chars-IsAscii (hyphen ∷ []) dash_ascii)

is_empty_text-chars : (b : List ℕ) → IsUtf8 b → is_empty_text b ≡ is_empty_text (chars b)
is_empty_text-chars b v = same_test b [] v IsUtf8-nil ∙ ap (same_text (chars b)) chars-nil

-- an operator that does not ask for words
abbrev pub AsksForNoWord : AttributeOperator → Type 0
AsksForNoWord includes = ⊥
AsksForNoWord operator = Unit {0}

compared-chars : (operator : AttributeOperator) (a b : List ℕ) → AsksForNoWord operator → IsUtf8 a → IsUtf8 b → compared operator a b ≡ compared operator (chars a) (chars b)
compared-chars equals a b h u v = same_test a b u v
compared-chars includes a b h u v = absurd h
compared-chars dash_match a b h u v =
    ap (λ x. x || begins_with a (b ++ hyphen ∷ [])) (same_test a b u v)
    ∙ ap (λ x. same_text (chars a) (chars b) || x) (begins_with-chars a (b ++ hyphen ∷ []) u (IsUtf8-append b (hyphen ∷ []) v (IsUtf8-from_ascii (hyphen ∷ []) dash_ascii)) ∙ ap (begins_with (chars a)) (chars-dash b v))
compared-chars prefix a b h u v =
    ap (λ x. not x && begins_with a b) (is_empty_text-chars b v) ∙ ap (λ x. not (is_empty_text (chars b)) && x) (begins_with-chars a b u v)
compared-chars suffix a b h u v =
    ap (λ x. not x && ends_with a b) (is_empty_text-chars b v) ∙ ap (λ x. not (is_empty_text (chars b)) && x) (ends_with-chars a b u v)
compared-chars substring a b h u v =
    ap (λ x. not x && has_part a b) (is_empty_text-chars b v) ∙ ap (λ x. not (is_empty_text (chars b)) && x) (has_part-chars a b u v)

-- bytes compare as their characters do, with ASCII letters in lower case or not
pub by_bytes : (operator : AttributeOperator) (k : Bool) (value part text bytes : List ℕ) (r : Bool) → AsksForNoWord operator → IsUtf8 value → IsUtf8 part → text ≡ value → bytes ≡ part → r ≡ compared operator (folded k text) (folded k bytes) → r ≡ compared operator (folded k (chars value)) (folded k (chars part))
by_bytes operator k value part text bytes r h u v same_value same_part e =
    e
    ∙ (ap (λ t. compared operator (folded k t) (folded k bytes)) same_value
    ∙ (ap (λ t. compared operator (folded k value) (folded k t)) same_part
    ∙ (compared-chars operator (folded k value) (folded k part) h (IsUtf8-folded k value u) (IsUtf8-folded k part v)
    ∙ (ap (λ t. compared operator t (chars (folded k part))) (chars-folded k value u)
    ∙ ap (compared operator (folded k (chars value))) (chars-folded k part v)))))

-- where the part is not empty, and where it is

is_empty_text-folded : (k : Bool) (part : List ℕ) → is_empty_text (folded k part) ≡ (length part == 0)
is_empty_text-folded true [] = refl
is_empty_text-folded true (c ∷ part) = grind (arith, nat_tests)
is_empty_text-folded false [] = refl
is_empty_text-folded false (c ∷ part) = grind (arith, nat_tests)

pub with_part : (k : Bool) (part : List ℕ) (empty r s : Bool) → empty ≡ (length part == 0) → empty ≡ false → r ≡ s → r ≡ (not (is_empty_text (folded k part)) && s)
with_part k part empty r s e h f =
    f ∙ ap (λ b. not b && s) (sym h ∙ (e ∙ sym (is_empty_text-folded k part)))

pub without_part : (k : Bool) (part : List ℕ) (empty s : Bool) → empty ≡ (length part == 0) → empty ≡ true → not empty ≡ (not (is_empty_text (folded k part)) && s)
without_part k part empty s e h =
    ap not h ∙ ap (λ b. not b && s) (sym h ∙ (e ∙ sym (is_empty_text-folded k part)))
