-- Lists of tokens that can be written once their whitespace is joined.
use Rattle.std.proofs.Common.{◌≡◌, List, [], ◌∷◌, ◌++◌, map, Bool, true, false, cond, if◌then◌else◌, ◌&&◌, ◌||◌, refl, sym, ap, ◌∙◌}
use Rattle.std.specs.List.{AllByRecursion}
use Rattle.std.proofs.lemmas.Bool.{false≢true, and_from, cond_both, cond-true, cond-false, not_from_false}
use Rattle.base_model.specs.Text.{Characters}
use Rattle.syntax_model.specs.Token.{Token, Said, said, TokenKind, function, string, bad_string, whitespace}
use Rattle.syntax_model.specs.TokenKinds.{begins_with, is_white, without_white}
use Rattle.syntax_model.specs.Written.{is_broken, is_clean_token, is_sound, is_string, is_url_function, is_writable, url_goes_on, goes_before}
use Rattle.syntax_model.proofs.WrittenLemmas.{IsWritable, writable_parts}
use Rattle.syntax_model.proofs.UrlStrings.{is_quoted}
use Rattle.custom_model.specs.Value.{CustomValue, unplaced, white_space, spaced, normal}
use Rattle.custom_model.proofs.Said.{said_unplaced}

-- whether the first that is no whitespace is of such a kind
abbrev pub first_is : (TokenKind → Bool) → CustomValue → Bool
first_is p [] = false
first_is p (token ∷ tokens) = if is_white token.kind then first_is p tokens else p token.kind

-- a token of such a kind comes after each function `url`, with whitespace or none between
abbrev pub UrlsGo : (TokenKind → Bool) → CustomValue → Type 0
UrlsGo p [] = Unit
UrlsGo p (token ∷ tokens) = (is_url_function (unplaced token) ≡ true → first_is p tokens ≡ true) × UrlsGo p tokens

abbrev pub Sound : Said → Type 0
Sound token = (is_sound (unplaced token) && is_clean_token (unplaced token)) ≡ true

-- each token is sound and clean, and a string comes after each function `url`
abbrev pub Kept : CustomValue → Type 0
Kept tokens = AllByRecursion Sound tokens × UrlsGo is_string tokens

-- as a test of the tokens themselves
pub begins_first : (p : TokenKind → Bool) (tokens : List Token) → begins_with p (without_white tokens) ≡ first_is p (map said tokens)
begins_first p [] = refl
begins_first p (token ∷ tokens) = by (is_white token.kind) (begins_first p tokens) where
  by : (b : Bool) → begins_with p (without_white tokens) ≡ first_is p (map said tokens) → begins_with p (cond b (without_white tokens) (token ∷ tokens)) ≡ cond b (first_is p (map said tokens)) (p token.kind)
  by true e = e
  by false e = refl

begins_unplaced : (p : TokenKind → Bool) (tokens : CustomValue) → begins_with p (without_white (map unplaced tokens)) ≡ first_is p tokens
begins_unplaced p tokens = begins_first p (map unplaced tokens) ∙ ap (first_is p) (said_unplaced tokens)

-- whitespace is no function
url_no_white : (kind : TokenKind) (name spelling : Characters) → is_url_function (unplaced (record { kind = kind; name = name; spelling = spelling })) ≡ true → is_white kind ≡ false
url_no_white function name spelling e = refl
url_no_white kind name spelling e = absurd (false≢true e)

-- joined whitespace leaves the first that is none

first_is-spaced : (p : TokenKind → Bool) (pending : Bool) (tokens : CustomValue) → first_is p (spaced pending tokens) ≡ first_is p tokens
first_is-spaced p pending [] = refl
first_is-spaced p pending (token ∷ tokens) = by (is_white token.kind) pending refl (first_is-spaced p true tokens) where
  by : (b pending : Bool) → is_white token.kind ≡ b → first_is p (spaced true tokens) ≡ first_is p tokens → first_is p (cond b (spaced true tokens) (cond pending (white_space ∷ token ∷ spaced false tokens) (token ∷ spaced false tokens))) ≡ cond b (first_is p tokens) (p token.kind)
  by true pending e h = h
  by false true e h = cond-false (is_white token.kind) (first_is p (spaced false tokens)) (p token.kind) e
  by false false e h = cond-false (is_white token.kind) (first_is p (spaced false tokens)) (p token.kind) e

-- what can be written is kept

kept_first : (token : Said) (tokens : CustomValue) → goes_before (unplaced token) (map unplaced tokens) ≡ true → is_url_function (unplaced token) ≡ true → first_is is_string tokens ≡ true
kept_first token tokens goes url =
    let other : is_white token.kind ≡ false = url_no_white token.kind token.name token.spelling url in
    let h : url_goes_on (unplaced token) (map unplaced tokens) ≡ true = sym (cond-false (is_white token.kind) _ _ other) ∙ goes in
    sym (begins_unplaced is_string tokens) ∙ (sym (cond-true (is_url_function (unplaced token)) _ _ url) ∙ h)

pub kept_writable : (tokens : CustomValue) → is_writable (map unplaced tokens) ≡ true → Kept tokens
kept_writable [] h = (tt, tt)
kept_writable (token ∷ tokens) h =
    let parts : IsWritable (unplaced token) (map unplaced tokens) = writable_parts (unplaced token) (map unplaced tokens) h in
    let rest = kept_writable tokens parts.rest in
    ((and_from _ _ parts.sound parts.clean, rest.0), (kept_first token tokens parts.goes, rest.1))

-- and what is kept can be written once its whitespace is joined

writable_by : (token : Said) (tokens : CustomValue) → Sound token → is_white token.kind ≡ false → (is_url_function (unplaced token) ≡ true → first_is is_string tokens ≡ true) → is_writable (map unplaced tokens) ≡ true → is_writable (map unplaced (token ∷ tokens)) ≡ true
unfolding is_writable
writable_by token tokens sound other url later =
    let goes : url_goes_on (unplaced token) (map unplaced tokens) ≡ true =
    cond_both (is_url_function (unplaced token)) _ _ (λ b. b ≡ true) (λ u. begins_unplaced is_string tokens ∙ url u) (λ _. refl) in
    and_from _ _ sound (and_from _ _ (cond-false (is_white token.kind) _ _ other ∙ goes) later)

writable_after_white : (token : Said) (tokens : CustomValue) → is_white token.kind ≡ false → is_writable (map unplaced (token ∷ tokens)) ≡ true → is_writable (map unplaced (white_space ∷ token ∷ tokens)) ≡ true
unfolding is_writable
writable_after_white token tokens other h = and_from _ _ (not_from_false _ other) h

writable_spaced : (pending : Bool) (tokens : CustomValue) → Kept tokens → is_writable (map unplaced (spaced pending tokens)) ≡ true
unfolding is_writable
writable_spaced pending [] kept = refl
writable_spaced pending (token ∷ tokens) kept =
    by (is_white token.kind) pending refl (λ p. writable_spaced p tokens (kept.0.1, kept.1.1)) where
      by : (b pending : Bool) → is_white token.kind ≡ b → ((p : Bool) → is_writable (map unplaced (spaced p tokens)) ≡ true) → is_writable (map unplaced (cond b (spaced true tokens) (cond pending (white_space ∷ token ∷ spaced false tokens) (token ∷ spaced false tokens)))) ≡ true
      by true pending e h = h true
      by false true e h = writable_after_white token (spaced false tokens) e (writable_by token (spaced false tokens) kept.0.0 e (λ u. first_is-spaced is_string false tokens ∙ kept.1.0 u) (h false))
      by false false e h = writable_by token (spaced false tokens) kept.0.0 e (λ u. first_is-spaced is_string false tokens ∙ kept.1.0 u) (h false)

pub writable_normal : (tokens : CustomValue) → Kept tokens → is_writable (map unplaced (normal tokens)) ≡ true
unfolding is_writable
writable_normal [] kept = refl
writable_normal (token ∷ tokens) kept = by (is_white token.kind) refl (writable_normal tokens (kept.0.1, kept.1.1)) where
  by : (b : Bool) → is_white token.kind ≡ b → is_writable (map unplaced (normal tokens)) ≡ true → is_writable (map unplaced (cond b (normal tokens) (token ∷ spaced false tokens))) ≡ true
  by true e h = h
  by false e h = writable_by token (spaced false tokens) kept.0.0 e (λ u. first_is-spaced is_string false tokens ∙ kept.1.0 u) (writable_spaced false tokens (kept.0.1, kept.1.1))

pub kept_normal : (tokens : CustomValue) → Kept tokens → Kept (normal tokens)
kept_normal tokens kept = kept_writable (normal tokens) (writable_normal tokens kept)

-- one list after another

pub first_is-append : (p : TokenKind → Bool) (tokens more : CustomValue) → first_is p tokens ≡ true → first_is p (tokens ++ more) ≡ true
first_is-append p [] more h = absurd (false≢true h)
first_is-append p (token ∷ tokens) more h = by (is_white token.kind) (first_is-append p tokens more) h where
  by : (b : Bool) → (first_is p tokens ≡ true → first_is p (tokens ++ more) ≡ true) → cond b (first_is p tokens) (p token.kind) ≡ true → cond b (first_is p (tokens ++ more)) (p token.kind) ≡ true
  by true r h = r h
  by false r h = h

pub kept-append : (tokens more : CustomValue) → Kept tokens → Kept more → Kept (tokens ++ more)
kept-append [] more kept others = others
kept-append (token ∷ tokens) more kept others =
    let rest = kept-append tokens more (kept.0.1, kept.1.1) others in
    ((kept.0.0, rest.0), ((λ u. first_is-append is_string tokens more (kept.1.0 u)), rest.1))

-- before their whitespace is joined

-- no token is broken
abbrev pub Fit : CustomValue → Type 0
Fit tokens = AllByRecursion (λ token. is_broken token.kind ≡ false) tokens

abbrev pub Known : Said → Type 0
Known token = ((is_broken token.kind || is_sound (unplaced token)) && is_clean_token (unplaced token)) ≡ true

-- each token is sound or broken, and clean, and a string, or a bad one, comes after each function `url`
abbrev pub AsRead : CustomValue → Type 0
AsRead tokens = AllByRecursion Known tokens × UrlsGo is_quoted tokens

quoted_fit : (kind : TokenKind) → is_broken kind ≡ false → is_quoted kind ≡ true → is_string kind ≡ true
quoted_fit string fit h = refl
quoted_fit bad_string fit h = absurd (false≢true (sym fit))
quoted_fit kind fit h = absurd (false≢true h)

first_fit : (tokens : CustomValue) → Fit tokens → first_is is_quoted tokens ≡ true → first_is is_string tokens ≡ true
first_fit [] fit h = h
first_fit (token ∷ tokens) fit h = by (is_white token.kind) (first_fit tokens fit.1) h where
  by : (b : Bool) → (first_is is_quoted tokens ≡ true → first_is is_string tokens ≡ true) → cond b (first_is is_quoted tokens) (is_quoted token.kind) ≡ true → cond b (first_is is_string tokens) (is_string token.kind) ≡ true
  by true r h = r h
  by false r h = quoted_fit token.kind fit.0 h

-- where none is broken, they are kept
pub kept_fit : (tokens : CustomValue) → Fit tokens → AsRead tokens → Kept tokens
kept_fit [] fit read = (tt, tt)
kept_fit (token ∷ tokens) fit read =
    let rest = kept_fit tokens fit.1 (read.0.1, read.1.1) in
    ((sym (ap (λ b. (b || is_sound (unplaced token)) && is_clean_token (unplaced token)) fit.0) ∙ read.0.0, rest.0), ((λ u. first_fit tokens fit.1 (read.1.0 u)), rest.1))

-- joined whitespace leaves what is broken

pub white_fit : (kind : TokenKind) → is_white kind ≡ true → is_broken kind ≡ false
white_fit whitespace h = refl
white_fit kind h = absurd (false≢true h)

fit_spaced : (pending : Bool) (tokens : CustomValue) → Fit (spaced pending tokens) → Fit tokens
fit_spaced pending [] fit = tt
fit_spaced pending (token ∷ tokens) fit = by (is_white token.kind) pending refl (λ p. fit_spaced p tokens) fit where
  by : (b pending : Bool) → is_white token.kind ≡ b → ((p : Bool) → Fit (spaced p tokens) → Fit tokens) → Fit (cond b (spaced true tokens) (cond pending (white_space ∷ token ∷ spaced false tokens) (token ∷ spaced false tokens))) → Fit (token ∷ tokens)
  by true pending e r fit = (white_fit token.kind e, r true fit)
  by false true e r fit = (fit.1.0, r false fit.1.1)
  by false false e r fit = (fit.0, r false fit.1)

pub fit_normal : (tokens : CustomValue) → Fit (normal tokens) → Fit tokens
fit_normal [] fit = tt
fit_normal (token ∷ tokens) fit = by (is_white token.kind) refl (fit_normal tokens) fit where
  by : (b : Bool) → is_white token.kind ≡ b → (Fit (normal tokens) → Fit tokens) → Fit (cond b (normal tokens) (token ∷ spaced false tokens)) → Fit (token ∷ tokens)
  by true e r fit = (white_fit token.kind e, r fit)
  by false e r fit = (fit.0, fit_spaced false tokens fit.1)
