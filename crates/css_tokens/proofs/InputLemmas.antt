use Rattle.std.proofs.Common.{◌≡◌, ℕ, ◌+◌, ◌<◌, Bool, true, false, eqb, ◌&&◌, List, [], ◌∷◌, ◌++◌, length, get_or, drop, refl, sym, ap, ◌∙◌, arith, append_assoc, append-nil}
use Rattle.std.specs.Prelude.{encode_utf8_all, max, not}
use mir.Val.{bool_byte}
use Rattle.std.specs.Str.{chars, IsUtf8}
use lib.Utf8.{encode}
use Rattle.std.proofs.lemmas.Bool.{and_parts, ne_eqb}
use Rattle.std.proofs.Math.Bool.{and-false, and-true}
use Rattle.std.proofs.lemmas.Bool.Decides.{nat_tests}
use Rattle.std.proofs.lemmas.List.Folds.{list_all-append}
use Rattle.std.proofs.lemmas.Str.{encodes-chars}
use Rattle.std.proofs.lemmas.List.{drop_all, drop_more}
use Rattle.base_model.specs.Text.{Characters}
use Rattle.syntax_model.specs.Preprocess.{preprocessed_after, preprocessed, is_clean, is_preprocessed}
use Rattle.css_tokens.specs.Input.{given_by}
use Rattle.syntax_model.proofs.CleanTokens.{after_clean}

-- one character on
preprocessed-cons : (b : Bool) (c : ℕ) (cs : Characters) → preprocessed_after b (c ∷ cs) ≡ given_by b c ++ preprocessed_after (eqb c 13) cs
preprocessed-cons b c cs = grind (arith, nat_tests)

-- a turn of the loop: its character is the next one
pub given_more : (cs out new : Characters) (b : Bool) (n c : ℕ) → (n < length cs) × (c ≡ get_or cs n c) → new ≡ out ++ given_by b c → out ++ preprocessed_after b (drop n cs) ≡ preprocessed cs → new ++ preprocessed_after (eqb c 13) (drop (n + 1) cs) ≡ preprocessed cs
given_more cs out new b n c turn e before =
    let rest = drop (n + 1) cs in
    let next : drop n cs ≡ c ∷ rest = drop_more cs n c turn.0 ∙ ap (λ d. d ∷ rest) (sym turn.1) in
    ap (λ xs. xs ++ preprocessed_after (eqb c 13) rest) e
    ∙ (append_assoc out (given_by b c) (preprocessed_after (eqb c 13) rest)
    ∙ (ap (λ xs. out ++ xs) (sym (preprocessed-cons b c rest))
    ∙ (ap (λ xs. out ++ preprocessed_after b xs) (sym next)
    ∙ before)))

-- the loop ends where every character is behind it
pub given_all : (cs out : Characters) (b : Bool) (n : ℕ) → n ≡ length cs → out ++ preprocessed_after b (drop n cs) ≡ preprocessed cs → out ≡ preprocessed cs
given_all cs out b n e before =
    sym (append-nil out) ∙ (ap (λ xs. out ++ preprocessed_after b xs) (sym (drop_all n cs (omega arith))) ∙ before)

pub ready_all : (cs out : Characters) → out ≡ preprocessed cs → is_preprocessed out ≡ true
ready_all cs out e = ap is_preprocessed e ∙ after_clean _ cs

-- a text that is preprocessed stays as it is
pub ready_same : (cs : Characters) → is_preprocessed cs ≡ true → preprocessed cs ≡ cs
ready_same [] h = refl
ready_same (c ∷ cs) h =
    let parts = and_parts (is_clean c) (is_preprocessed cs) h in
    let rest : preprocessed_after false cs ≡ cs = ready_same cs parts.1 in
    let clean : is_clean c ≡ true = parts.0 in
    grind (arith, nat_tests)

-- one byte on: the highest of some numbers is 0 where all are, and below a limit where all are
pub clean_more : (a : ℕ) (clean : Bool) → eqb (max a (bool_byte (not clean))) 0 ≡ (eqb a 0 && clean)
clean_more a true = let same : max a 0 ≡ a = omega arith in ap (λ k. eqb k 0) same ∙ sym (and-true (eqb a 0))
clean_more a false = ne_eqb (max a 1) 0 (λ e. absurd (omega (arith, e))) ∙ sym (and-false (eqb a 0))

-- bytes of other characters are never CR, FF or U+0000
bytes_of_one : (c : ℕ) → is_preprocessed (encode c) ≡ is_clean c
unfolding encode
bytes_of_one c = grind (arith, nat_tests)

bytes_of_all : (cs : Characters) → is_preprocessed (encode_utf8_all cs) ≡ is_preprocessed cs
bytes_of_all [] = refl
bytes_of_all (c ∷ cs) =
    list_all-append is_clean (encode c) (encode_utf8_all cs) ∙ (ap (λ b. b && is_preprocessed (encode_utf8_all cs)) (bytes_of_one c) ∙ ap (λ b. is_clean c && b) (bytes_of_all cs))

pub by_bytes : (bs : List ℕ) → IsUtf8 bs → is_preprocessed bs ≡ is_preprocessed (chars bs)
by_bytes bs u = sym (ap is_preprocessed (encodes-chars bs u)) ∙ bytes_of_all (chars bs)
