-- What a word that comes off the front of a text is among its words.
use Rattle.std.proofs.Common.{◌≡◌, ℕ, zero, suc, ◌<◌, ◌≤◌, Bool, true, false, cond, not, ◌||◌, sym, ap, ◌∙◌, subst, refl, arith, append-nil, length-append}
use Rattle.std.proofs.Common.{List, [], ◌∷◌, ◌++◌, length, get_or, filter, encode_utf8_all}
use Rattle.std.specs.List.{AllByRecursion, AllPass, list_any}
use Rattle.std.specs.Char.{is_ascii_whitespace}
use Rattle.std.specs.Str.{chars, IsUtf8, IsAscii, IsCharBoundary, NonePass, NoCharPasses}
use Rattle.std.specs.Str.Iter.{IsAsciiSeparator}
use Rattle.std.proofs.Math.Seq.{take-append_seam, drop-append_seam, get_or-append_seam}
use Rattle.std.proofs.lemmas.Bool.{cond-true, cond-false}
use Rattle.std.proofs.lemmas.Bool.Decides.{nat_tests}
use Rattle.std.proofs.lemmas.List.Elements.{recursion_from_All}
use Rattle.std.proofs.lemmas.Str.{chars-nil, chars-IsAscii, chars-append, chars_from_encodes, encodes-chars, encode_ascii}
use Rattle.std.proofs.lemmas.Str.{IsUtf8-from_ascii, IsUtf8-past_char, IsUtf8-take, IsUtf8-drop, IsCharBoundary-before_ascii}
use Rattle.base_model.specs.Lists.{onto_first}
use Rattle.base_model.specs.Text.{Characters, is_empty_text}
use Rattle.scene_model.specs.Words.{pieces, words}

abbrev AreSpaces : List ℕ → Type 0
AreSpaces cs = AllByRecursion (λ c. is_ascii_whitespace c ≡ true) cs

-- whitespace is below 128

pub space_below : (c : ℕ) → is_ascii_whitespace c ≡ true → c < 128
space_below c h = grind (arith, nat_tests)

spaces-ascii : (cs : List ℕ) → AreSpaces cs → IsAscii cs
spaces-ascii [] h i = omega arith
spaces-ascii (c ∷ cs) h zero = space_below c h.0
spaces-ascii (c ∷ cs) h (suc i) = spaces-ascii cs h.1 i

-- what follows whitespace is text
after_spaces : (gap bs : List ℕ) → AreSpaces gap → IsUtf8 (gap ++ bs) → IsUtf8 bs
after_spaces [] bs h u = u
after_spaces (c ∷ gap) bs h u =
    after_spaces gap bs h.1 (IsUtf8-past_char (c ∷ gap ++ bs) (gap ++ bs) c u (sym (ap (λ e. e ++ (gap ++ bs)) (encode_ascii c (space_below c h.0)))))

-- whitespace is a place where a text may be cut
space_boundary : (x bs : List ℕ) (c : ℕ) → is_ascii_whitespace c ≡ true → IsCharBoundary (x ++ c ∷ bs) (length x)
space_boundary x bs c h =
    let at : get_or (x ++ c ∷ bs) (length x) 0 ≡ c = get_or-append_seam x c bs 0 in
    let low : get_or (x ++ c ∷ bs) (length x) 0 < 128 = rw at (space_below c h) in
    IsCharBoundary-before_ascii (x ++ c ∷ bs) (length x) (omega (arith, length-append x (c ∷ bs))) low

-- what is before whitespace is text
before_space : (x bs : List ℕ) (c : ℕ) → is_ascii_whitespace c ≡ true → IsUtf8 (x ++ c ∷ bs) → IsUtf8 x
before_space x bs c h u =
    subst IsUtf8 (take-append_seam x (c ∷ bs)) (IsUtf8-take (x ++ c ∷ bs) (length x) u (space_boundary x bs c h))

-- and what is after it
after_space : (x bs : List ℕ) (c : ℕ) → is_ascii_whitespace c ≡ true → IsUtf8 (x ++ c ∷ bs) → IsUtf8 bs
after_space x bs c h u =
    after_spaces (c ∷ []) bs (h, tt) (subst IsUtf8 (drop-append_seam x (c ∷ bs)) (IsUtf8-drop (x ++ c ∷ bs) (length x) u (space_boundary x bs c h)))

-- the words of a text in parts

words_spaces : (gap cs : Characters) → AreSpaces gap → words (gap ++ cs) ≡ words cs
words_spaces [] cs h = refl
words_spaces (c ∷ gap) cs h =
    ap (λ b. filter (λ piece. not (is_empty_text piece)) (cond b ([] ∷ pieces (gap ++ cs)) (onto_first c (pieces (gap ++ cs))))) h.0 ∙ words_spaces gap cs h.1

pieces_alone : (x : Characters) → NonePass is_ascii_whitespace x → pieces x ≡ x ∷ []
pieces_alone [] h = refl
pieces_alone (c ∷ x) h = cond-false (is_ascii_whitespace c) ([] ∷ pieces x) (onto_first c (pieces x)) h.0 ∙ ap (onto_first c) (pieces_alone x h.1)

pieces_before : (x cs : Characters) (c : ℕ) → NonePass is_ascii_whitespace x → is_ascii_whitespace c ≡ true → pieces (x ++ c ∷ cs) ≡ x ∷ pieces cs
pieces_before [] cs c h s = cond-true (is_ascii_whitespace c) ([] ∷ pieces cs) (onto_first c (pieces cs)) s
pieces_before (d ∷ x) cs c h s =
    cond-false (is_ascii_whitespace d) ([] ∷ pieces (x ++ c ∷ cs)) (onto_first d (pieces (x ++ c ∷ cs))) h.0 ∙ ap (onto_first d) (pieces_before x cs c h.1 s)

-- the pieces after one that is not empty
kept_front : (x : Characters) (rest : List Characters) → 0 < length x → filter (λ piece. not (is_empty_text piece)) (x ∷ rest) ≡ x ∷ filter (λ piece. not (is_empty_text piece)) rest
kept_front [] rest h = absurd (omega arith)
kept_front (c ∷ x) rest h = refl

words_first : (x sep rest : Characters) → 0 < length x → NonePass is_ascii_whitespace x → AreSpaces sep → length sep ≤ 1 → (length sep ≡ 0 → length rest ≡ 0)
    → words (x ++ (sep ++ rest)) ≡ x ∷ words rest
words_first x [] [] l n s one none =
    rw append-nil (ap (filter (λ piece. not (is_empty_text piece))) (pieces_alone x n) ∙ kept_front x [] l)
words_first x [] (c ∷ rest) l n s one none = let e : suc (length rest) ≡ 0 = none refl in absurd (omega arith)
words_first x (c ∷ []) rest l n s one none =
    ap (filter (λ piece. not (is_empty_text piece))) (pieces_before x rest c n s.0) ∙ kept_front x (pieces rest) l
words_first x (c ∷ d ∷ sep) rest l n s one none = absurd (omega arith)

-- the words by characters, where a word comes off the front

-- what comes off the front of a text: a word, and what is left
pub record IsWordOff (bs x rest : List ℕ) : Type 0 where
  pub word_text : IsUtf8 x
  pub rest_text : IsUtf8 rest
  pub first : words (chars bs) ≡ chars x ∷ words (chars rest)

none_of_chars : (x : List ℕ) → IsUtf8 x → NoCharPasses is_ascii_whitespace x → NonePass is_ascii_whitespace (chars x)
none_of_chars x u n = subst (NonePass is_ascii_whitespace) (chars_from_encodes n.0 x u n.1) n.2

some_chars : (x : List ℕ) → IsUtf8 x → 0 < length x → 0 < length (chars x)
some_chars x u l = more (chars x) (encodes-chars x u)
  where
    more : (cs : List ℕ) → encode_utf8_all cs ≡ x → 0 < length cs
    more [] e = omega (arith, ap (length {A = ℕ}) e)
    more (c ∷ cs) e = omega arith

chars_parts : (gap x sep rest : List ℕ) → IsUtf8 gap → IsUtf8 x → IsUtf8 sep → chars (gap ++ (x ++ (sep ++ rest))) ≡ chars gap ++ (chars x ++ (chars sep ++ chars rest))
chars_parts gap x sep rest u v w =
    chars-append gap (x ++ (sep ++ rest)) u ∙ ap (λ l. chars gap ++ l) (chars-append x (sep ++ rest) v ∙ ap (λ l. chars x ++ l) (chars-append sep rest w))

spaces-text : (cs : List ℕ) → AreSpaces cs → IsUtf8 cs
spaces-text cs h = IsUtf8-from_ascii cs (spaces-ascii cs h)

texts_apart : (x sep rest : List ℕ) → AreSpaces sep → length sep ≤ 1 → (length sep ≡ 0 → length rest ≡ 0) → IsUtf8 (x ++ (sep ++ rest)) → IsUtf8 x × IsUtf8 rest
texts_apart x [] [] s one none u = (subst IsUtf8 (append-nil x) u, IsUtf8-from_ascii [] (λ i. omega arith))
texts_apart x [] (c ∷ rest) s one none u = let e : suc (length rest) ≡ 0 = none refl in absurd (omega arith)
texts_apart x (c ∷ []) rest s one none u = (before_space x rest c s.0 u, after_space x rest c s.0 u)
texts_apart x (c ∷ d ∷ sep) rest s one none u = absurd (omega arith)

no_chars : (rest : List ℕ) → length rest ≡ 0 → length (chars rest) ≡ 0
no_chars [] h = ap (length {A = ℕ}) chars-nil
no_chars (c ∷ rest) h = absurd (omega arith)

pub word_off : (bs x rest gap sep : List ℕ) → IsUtf8 bs → 0 < length x → NoCharPasses is_ascii_whitespace x → bs ≡ gap ++ (x ++ (sep ++ rest))
    → AllPass is_ascii_whitespace gap → IsAsciiSeparator sep rest → IsWordOff bs x rest
word_off bs x rest gap sep u l n e g s =
    let gaps : AreSpaces gap = recursion_from_All (λ c. is_ascii_whitespace c ≡ true) gap g in
    let seps : AreSpaces sep = recursion_from_All (λ c. is_ascii_whitespace c ≡ true) sep s.0 in
    let left : IsUtf8 (x ++ (sep ++ rest)) = after_spaces gap (x ++ (sep ++ rest)) gaps (subst IsUtf8 e u) in
    let (x_text, after) = texts_apart x sep rest seps s.1 s.2 left in
    let all = chars_parts gap x sep rest (spaces-text gap gaps) x_text (spaces-text sep seps) in
    let bare : chars gap ++ (chars x ++ (chars sep ++ chars rest)) ≡ gap ++ (chars x ++ (sep ++ chars rest)) =
    λ i. chars-IsAscii gap (spaces-ascii gap gaps) i ++ (chars x ++ (chars-IsAscii sep (spaces-ascii sep seps) i ++ chars rest)) in
    record {
      word_text = x_text;
      rest_text = after;
      first = ap words (ap chars e ∙ (all ∙ bare)) ∙ (words_spaces gap (chars x ++ (sep ++ chars rest)) gaps
          ∙ words_first (chars x) sep (chars rest) (some_chars x x_text l) (none_of_chars x x_text n) seps s.1 (λ z. no_chars rest (s.2 z)));
    }

-- a text of whitespace alone has no words
pub no_words : (bs : List ℕ) → AllPass is_ascii_whitespace bs → words (chars bs) ≡ []
no_words bs h =
    let spaces : AreSpaces bs = recursion_from_All (λ c. is_ascii_whitespace c ≡ true) bs h in
    ap words (chars-IsAscii bs (spaces-ascii bs spaces)) ∙ (sym (ap words (append-nil bs)) ∙ words_spaces bs [] spaces)

-- the word that came off passes a test, or the rest decides
module _ (p : Characters → Bool) (bs x rest : List ℕ) (answer : Bool) (off : IsWordOff bs x rest) (h : list_any p (words (chars bs)) ≡ answer) where
  decided : (p (chars x) || list_any p (words (chars rest))) ≡ answer
  decided = sym (ap (list_any p) off.first) ∙ h

  pub any_word-found : p (chars x) ≡ true → true ≡ answer
  any_word-found passes = sym (ap (λ b. b || list_any p (words (chars rest))) passes) ∙ decided

  pub any_word-passed : p (chars x) ≡ false → list_any p (words (chars rest)) ≡ answer
  any_word-passed fails = sym (ap (λ b. b || list_any p (words (chars rest))) fails) ∙ decided

pub any_word-none : (p : Characters → Bool) (bs : List ℕ) (answer : Bool) → AllPass is_ascii_whitespace bs → list_any p (words (chars bs)) ≡ answer → false ≡ answer
any_word-none p bs answer spaces h = sym (ap (list_any p) (no_words bs spaces)) ∙ h
