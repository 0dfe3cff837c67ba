-- The words of a text in lower case.
use Rattle.std.proofs.Common.{◌≡◌, ℕ, Bool, true, false, cond, not, List, [], ◌∷◌, map, filter, refl, ap, ◌∙◌, arith}
use Rattle.std.specs.List.{list_any}
use Rattle.std.specs.Char.{to_ascii_lowercase, is_ascii_whitespace}
use Rattle.std.proofs.lemmas.Bool.Decides.{nat_tests}
use Rattle.base_model.specs.Lists.{onto_first}
use Rattle.base_model.specs.Text.{Characters, same_text, is_empty_text, ascii_lower}
use Rattle.scene_model.specs.Words.{pieces, words, has_word}
use Rattle.scene_model.proofs.Found.{any-map}

space_lower : (c : ℕ) → is_ascii_whitespace (to_ascii_lowercase c) ≡ is_ascii_whitespace c
space_lower c = grind (arith, nat_tests)

piece_lower : (b : Bool) (c : ℕ) (ps : List Characters) → cond b ([] ∷ map ascii_lower ps) (onto_first (to_ascii_lowercase c) (map ascii_lower ps)) ≡ map ascii_lower (cond b ([] ∷ ps) (onto_first c ps))
piece_lower true c ps = refl
piece_lower false c [] = refl
piece_lower false c (p ∷ ps) = refl

pieces_lower : (cs : Characters) → pieces (ascii_lower cs) ≡ map ascii_lower (pieces cs)
pieces_lower [] = refl
pieces_lower (c ∷ cs) =
    ap (λ b. cond b ([] ∷ pieces (ascii_lower cs)) (onto_first (to_ascii_lowercase c) (pieces (ascii_lower cs)))) (space_lower c)
    ∙ (ap (λ ps. cond (is_ascii_whitespace c) ([] ∷ ps) (onto_first (to_ascii_lowercase c) ps)) (pieces_lower cs)
    ∙ piece_lower (is_ascii_whitespace c) c (pieces cs))

some_lower : (ps : List Characters) → filter (λ p. not (is_empty_text p)) (map ascii_lower ps) ≡ map ascii_lower (filter (λ p. not (is_empty_text p)) ps)
some_lower [] = refl
some_lower ([] ∷ ps) = some_lower ps
some_lower ((c ∷ p) ∷ ps) = ap (λ l. ascii_lower (c ∷ p) ∷ l) (some_lower ps)

words_lower : (cs : Characters) → words (ascii_lower cs) ≡ map ascii_lower (words cs)
words_lower cs = ap (filter (λ p. not (is_empty_text p))) (pieces_lower cs) ∙ some_lower (pieces cs)

-- whether a text is the word, ignoring ASCII case
abbrev pub is_same_word : Characters → Characters → Bool
is_same_word word text = same_text (ascii_lower word) (ascii_lower text)

pub has_word-lower : (word text : Characters) → has_word (ascii_lower word) (ascii_lower text) ≡ list_any (is_same_word word) (words text)
has_word-lower word text =
    ap (list_any (same_text (ascii_lower word))) (words_lower text) ∙ any-map (same_text (ascii_lower word)) ascii_lower (words text)
