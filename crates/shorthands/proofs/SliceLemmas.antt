-- What stands between whitespace.
use Rattle.std.proofs.Common.{◌≡◌, ℕ, ◌-◌, ◌==◌, true, false, ◌&&◌, List, [], ◌∷◌, filter, not, length, take, drop, length-drop, refl, sym, ap, subst, ⊎_elim, ◌∙◌, arith}
use Rattle.std.proofs.Math.Numerals.{one-add}
use Rattle.std.proofs.lemmas.Bool.{and_parts, cases_Bool, cond-true, cond-false, true≢false}
use Rattle.std.proofs.lemmas.Bool.Decides.{nat_tests}
use Rattle.base_model.specs.Lists.{is_nil}
use Rattle.syntax_model.specs.Token.{Token}
use Rattle.syntax_model.specs.Brackets.{Bracket, open_past}
use Rattle.syntax_model.specs.TokenKinds.{is_white, without_white}
use Rattle.syntax_model.specs.Outside.{from_first, length_before, up_to}
use Rattle.syntax_model.proofs.OutsideLemmas.{inside_all, parts_after, parts_split}
use Rattle.sheet_model.specs.Shorthands.{slices}

-- the parts that are no slices, since they are empty, go
abbrev kept : List (List Token) → List (List Token)
kept parts = filter (λ slice. not (is_nil slice)) parts

-- whitespace at the beginning is of none
white_dropped : (token : Token) (tokens : List Token) → is_white token.kind ≡ true → slices (token ∷ tokens) ≡ slices tokens
white_dropped token tokens white = ap kept (cond-true (is_white token.kind) _ _ white)

without_white_same : (tokens : List Token) → slices (without_white tokens) ≡ slices tokens
without_white_same [] = refl
without_white_same (token ∷ tokens) =
    ⊎_elim
    (λ (white : is_white token.kind ≡ true). ap slices (cond-true (is_white token.kind) _ _ white) ∙ (without_white_same tokens ∙ sym (white_dropped token tokens white)))
    (λ (other : is_white token.kind ≡ false). ap slices (cond-false (is_white token.kind) _ _ other))
    (cases_Bool (is_white token.kind))

-- nothing but whitespace is left out
not_white_next : (tokens : List Token) (token : Token) (rest : List Token) → without_white tokens ≡ token ∷ rest → is_white token.kind ≡ false
not_white_next [] token rest is = cc
not_white_next (first ∷ tokens) token rest is =
    ⊎_elim
    (λ (white : is_white first.kind ≡ true). not_white_next tokens token rest (sym (cond-true (is_white first.kind) _ _ white) ∙ is))
    (λ (other : is_white first.kind ≡ false). let same : first ∷ tokens ≡ token ∷ rest = sym (cond-false (is_white first.kind) _ _ other) ∙ is in let one : first ≡ token = cc in ap (λ t. is_white t.kind) (sym one) ∙ other)
    (cases_Bool (is_white first.kind))

-- what follows a slice begins with whitespace, if it is not at the end
after_slice : (pending : List Bracket) (tokens : List Token) → kept (parts_after is_white (drop (length_before is_white pending tokens) tokens)) ≡ slices (drop (length_before is_white pending tokens) tokens)
after_slice pending [] = refl
after_slice pending (token ∷ tokens) =
    let Goal : ℕ → Type 0 = λ n. kept (parts_after is_white (drop n (token ∷ tokens))) ≡ slices (drop n (token ∷ tokens)) in
    ⊎_elim
    (λ (ends : (is_nil pending && is_white token.kind) ≡ true). subst Goal (sym (cond-true (is_nil pending && is_white token.kind) _ _ ends)) (sym (white_dropped token tokens (and_parts (is_nil pending) (is_white token.kind) ends).1)))
    (λ (goes_on : (is_nil pending && is_white token.kind) ≡ false). subst Goal (sym (cond-false (is_nil pending && is_white token.kind) _ _ goes_on)) (rw one-add (after_slice (open_past pending token) tokens)))
    (cases_Bool (is_nil pending && is_white token.kind))

-- the first slice, and those of what follows it
slices_first : (tokens : List Token) (token : Token) (rest : List Token) → tokens ≡ token ∷ rest → is_white token.kind ≡ false → slices tokens ≡ up_to is_white tokens ∷ slices (from_first is_white tokens)
slices_first tokens token rest is other =
    ap kept (parts_split is_white tokens)
    ∙ (cond-true (not (is_nil (up_to is_white tokens))) _ _ some
    ∙ ap (λ list. up_to is_white tokens ∷ list) (after_slice [] tokens))
  where
    some : not (is_nil (up_to is_white tokens)) ≡ true
    some = rw is (ap (λ n. not (is_nil (take n (token ∷ rest)))) (cond-false (is_white token.kind) _ _ other) ∙ rw one-add refl)

-- as long as what is left of the tokens says
slice_is : (tokens rest : List Token) → rest ≡ from_first is_white tokens → take (length tokens - length rest) tokens ≡ up_to is_white tokens
slice_is tokens rest rest_is =
    let long : length tokens - length rest ≡ length_before is_white [] tokens =
    omega (arith, inside_all is_white [] tokens, ap length rest_is ∙ length-drop (length_before is_white [] tokens) tokens) in
    ap (λ n. take n tokens) long

pub no_slice : (tokens left : List Token) → left ≡ without_white tokens → (length left == 0) ≡ true → slices tokens ≡ []
no_slice tokens [] is none = sym (ap slices is ∙ without_white_same tokens)
no_slice tokens (token ∷ rest) is none = absurd (grind (arith, nat_tests))

pub next_slice : (tokens left rest : List Token) → left ≡ without_white tokens → (length left == 0) ≡ false → rest ≡ from_first is_white left → slices tokens ≡ take (length left - length rest) left ∷ slices rest
next_slice tokens [] rest is some rest_is = absurd (true≢false some)
next_slice tokens (token ∷ after) rest is some rest_is =
    let other : is_white token.kind ≡ false = not_white_next tokens token after (sym is) in
    sym (ap slices is ∙ without_white_same tokens)
    ∙ (slices_first (token ∷ after) token after refl other
    ∙ (ap (λ slice. slice ∷ slices (from_first is_white (token ∷ after))) (sym (slice_is (token ∷ after) rest rest_is))
    ∙ ap (λ left. take (length (token ∷ after) - length rest) (token ∷ after) ∷ slices left) (sym rest_is)))
