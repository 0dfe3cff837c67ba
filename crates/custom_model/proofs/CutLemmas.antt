-- What is known of each list of tokens that is cut from those of a text: its tokens are sound or broken, and clean, and a
-- string, or a bad one, comes after each function `url`.
use Rattle.std.proofs.Common.{◌≡◌, ℕ, zero, suc, List, [], ◌∷◌, ◌++◌, take, drop, reverse, Bool, true, false, cond, ◌&&◌, refl, sym, ap, ◌∙◌, subst, take-append-drop}
use Rattle.std.specs.Prelude.{◌+◌}
use Rattle.std.specs.List.{AllByRecursion, list_all}
use Rattle.std.proofs.Math.Numerals.{one-add}
use Rattle.std.proofs.lemmas.Bool.{false≢true, and_from, and_parts, cond_both, cond-false}
use Rattle.std.proofs.lemmas.List.{reverse-append, reverse-reverse}
use Rattle.base_model.specs.Lists.{is_nil}
use Rattle.base_model.specs.Text.{Characters}
use Rattle.syntax_model.specs.Token.{Token, TokenKind, whitespace, semicolon}
use Rattle.syntax_model.specs.TokenKinds.{begins_with, is_white, is_semicolon, without_white, trimmed}
use Rattle.syntax_model.specs.Brackets.{Bracket, square, round, curly, closer, closers, closed, open_after, open_past}
use Rattle.syntax_model.specs.Outside.{length_before, up_to}
use Rattle.syntax_model.specs.Preprocess.{preprocessed}
use Rattle.syntax_model.specs.TokensIn.{tokens_in}
use Rattle.syntax_model.specs.Written.{is_clean_token, is_url_function}
use Rattle.syntax_model.proofs.CleanTokens.{text_tokens_clean}
use Rattle.syntax_model.proofs.SoundLemmas.{is_known, sound_tokens}
use Rattle.syntax_model.proofs.UrlStrings.{is_quoted, QuotesFollow, quotes_in}

-- sound or broken, and clean
abbrev pub is_read : Token → Bool
is_read token = is_known token && is_clean_token token

abbrev pub OfText : List Token → Type 0
OfText tokens = AllByRecursion (λ token. is_read token ≡ true) tokens × QuotesFollow tokens

-- the tokens of a text are so

each_read : (tokens : List Token) → list_all is_known tokens ≡ true → list_all is_clean_token tokens ≡ true → AllByRecursion (λ token. is_read token ≡ true) tokens
each_read [] known clean = tt
each_read (token ∷ tokens) known clean =
    let first = and_parts (is_known token) _ known in
    let own = and_parts (is_clean_token token) _ clean in
    (and_from _ _ first.0 own.0, each_read tokens first.1 own.1)

pub of_text : (text : Characters) → OfText (tokens_in (preprocessed text))
of_text text =
    let ready : Characters = preprocessed text in
    (each_read (tokens_in ready) (sound_tokens ready) (text_tokens_clean text), quotes_in ready)

-- a string, or a bad one, comes first, with whitespace or none before it

abbrev pub quote_first : List Token → Bool
quote_first tokens = begins_with is_quoted (without_white tokens)

quote_first-append : (front back : List Token) → quote_first front ≡ true → quote_first (front ++ back) ≡ true
quote_first-append [] back h = absurd (false≢true h)
quote_first-append (token ∷ front) back h = by (is_white token.kind) (quote_first-append front back) h where
  by : (b : Bool) → (quote_first front ≡ true → quote_first (front ++ back) ≡ true) → begins_with is_quoted (cond b (without_white front) (token ∷ front)) ≡ true → begins_with is_quoted (cond b (without_white (front ++ back)) (token ∷ front ++ back)) ≡ true
  by true later h = later h
  by false later h = h

quote_first_before : (front back : List Token) → quote_first back ≡ false → quote_first (front ++ back) ≡ true → quote_first front ≡ true
quote_first_before [] back none h = absurd (false≢true (sym none ∙ h))
quote_first_before (token ∷ front) back none h = by (is_white token.kind) (quote_first_before front back none) h where
  by : (b : Bool) → (quote_first (front ++ back) ≡ true → quote_first front ≡ true) → begins_with is_quoted (cond b (without_white (front ++ back)) (token ∷ front ++ back)) ≡ true → begins_with is_quoted (cond b (without_white front) (token ∷ front)) ≡ true
  by true later h = later h
  by false later h = h

-- joined, cut off at the front, and cut where no string comes

pub of_text-append : (front back : List Token) → OfText front → OfText back → OfText (front ++ back)
of_text-append [] back h k = k
of_text-append (token ∷ front) back h k =
    let rest = of_text-append front back (h.0.1, h.1.1) k in
    ((h.0.0, rest.0), ((λ url. quote_first-append front back (h.1.0 url)), rest.1))

pub of_text-drop : (n : ℕ) (tokens : List Token) → OfText tokens → OfText (drop n tokens)
of_text-drop zero tokens h = h
of_text-drop (suc n) [] h = h
of_text-drop (suc n) (token ∷ tokens) h = of_text-drop n tokens (h.0.1, h.1.1)

pub of_text_before : (front back : List Token) → quote_first back ≡ false → OfText (front ++ back) → OfText front
of_text_before [] back none h = (tt, tt)
of_text_before (token ∷ front) back none h =
    let rest = of_text_before front back none (h.0.1, h.1.1) in
    ((h.0.0, rest.0), ((λ url. quote_first_before front back none (h.1.0 url)), rest.1))

-- what is left open, closed

of_text-closers : (pending : List Bracket) → OfText (closers pending)
of_text-closers [] = (tt, tt)
of_text-closers (bracket ∷ pending) =
    let rest = of_text-closers pending in
    ((known bracket, rest.0), ((λ url. absurd (false≢true (sym (other bracket) ∙ url))), rest.1)) where
      known : (b : Bracket) → is_read (closer b) ≡ true
      known square = refl
      known round = refl
      known curly = refl

      other : (b : Bracket) → is_url_function (closer b) ≡ false
      other square = refl
      other round = refl
      other curly = refl

pub of_text-closed : (tokens : List Token) → OfText tokens → OfText (closed tokens)
of_text-closed tokens h = of_text-append tokens (closers (open_after [] tokens)) h (of_text-closers (open_after [] tokens))

-- without whitespace at its ends

pub of_text-without_white : (tokens : List Token) → OfText tokens → OfText (without_white tokens)
of_text-without_white [] h = h
of_text-without_white (token ∷ tokens) h = by (is_white token.kind) (of_text-without_white tokens (h.0.1, h.1.1)) where
  by : (b : Bool) → OfText (without_white tokens) → OfText (cond b (without_white tokens) (token ∷ tokens))
  by true k = k
  by false k = h

-- no string: whitespace, and any other token that is none
no_quote : (token : Token) → is_quoted token.kind ≡ false → quote_first (token ∷ []) ≡ false
no_quote token h = cond_both (is_white token.kind) [] (token ∷ []) (λ tokens. begins_with is_quoted tokens ≡ false) (λ _. refl) (λ _. h)

-- without the last token, where that is no string; the tokens are in reverse order
pub of_text-last : (token : Token) (tokens : List Token) → is_quoted token.kind ≡ false → OfText (reverse (token ∷ tokens)) → OfText (reverse tokens)
of_text-last token tokens other h =
    of_text_before (reverse tokens) (token ∷ []) (no_quote token other) (subst OfText (reverse-append (token ∷ []) tokens) h)

white_no_quote : (kind : TokenKind) → is_white kind ≡ true → is_quoted kind ≡ false
white_no_quote whitespace h = refl
white_no_quote kind h = absurd (false≢true h)

pub of_text-without_white_last : (tokens : List Token) → OfText (reverse tokens) → OfText (reverse (without_white tokens))
of_text-without_white_last [] h = h
of_text-without_white_last (token ∷ tokens) h = by (is_white token.kind) refl (of_text-without_white_last tokens) where
  by : (b : Bool) → is_white token.kind ≡ b → (OfText (reverse tokens) → OfText (reverse (without_white tokens))) → OfText (reverse (cond b (without_white tokens) (token ∷ tokens)))
  by true e later = later (of_text-last token tokens (white_no_quote token.kind e) h)
  by false e later = h

pub of_text-trimmed : (tokens : List Token) → OfText tokens → OfText (trimmed tokens)
of_text-trimmed tokens h =
    of_text-without_white_last (reverse (without_white tokens)) (subst OfText (sym (reverse-reverse (without_white tokens))) (of_text-without_white tokens h))

-- up to a semicolon outside brackets

-- such a token is no string, and no whitespace
pub other_first : (token : Token) (tokens : List Token) → is_white token.kind ≡ false → is_quoted token.kind ≡ false → quote_first (token ∷ tokens) ≡ false
other_first token tokens white quoted = ap (begins_with is_quoted) (cond-false (is_white token.kind) (without_white tokens) (token ∷ tokens) white) ∙ quoted

semicolon_other : (kind : TokenKind) → is_semicolon kind ≡ true → (is_white kind ≡ false) × (is_quoted kind ≡ false)
semicolon_other semicolon h = (refl, refl)
semicolon_other kind h = absurd (false≢true h)

semicolon_first : (pending : List Bracket) (tokens : List Token) → quote_first (drop (length_before is_semicolon pending tokens) tokens) ≡ false
semicolon_first pending [] = refl
semicolon_first pending (token ∷ tokens) =
    cond_both (is_nil pending && is_semicolon token.kind) 0 (1 + length_before is_semicolon (open_past pending token) tokens) (λ n. quote_first (drop n (token ∷ tokens)) ≡ false)
    (λ stop. let other = semicolon_other token.kind (and_parts (is_nil pending) _ stop).1 in other_first token tokens other.0 other.1)
    (λ _. rw one-add (semicolon_first (open_past pending token) tokens))

pub of_text-up_to : (tokens : List Token) → OfText tokens → OfText (up_to is_semicolon tokens)
of_text-up_to tokens h =
    let n : ℕ = length_before is_semicolon [] tokens in
    of_text_before (take n tokens) (drop n tokens) (semicolon_first [] tokens) (subst OfText (sym (take-append-drop n tokens)) h)
