-- The tokens up to the end of a block.
use Rattle.std.proofs.Common.{◌≡◌, Bool, true, false, not, ◌&&◌, List, [], ◌∷◌, ◌++◌, Option, Some, None, refl, sym, ap, subst, ◌∙◌, ⊎_elim, append_assoc, append-nil}
use Rattle.std.proofs.lemmas.Bool.{and_parts, cases_Bool, cond-true, cond-false, false≢true, true≢false}
use Rattle.base_model.specs.Lists.{is_nil}
use Rattle.syntax_model.specs.Token.{Token, TokenKind, close_curly}
use Rattle.syntax_model.specs.TokenKinds.{is_close_curly}
use Rattle.syntax_model.specs.Brackets.{Bracket, closed, closed_by, closer, closers, curly, open_after, open_past, opened_by, round, same_bracket, square, with_opened, without_closed}
use Rattle.syntax_model.specs.Rules.{Head}
use Rattle.syntax_model.specs.RulesIn.{in_block, pieces_in, with_block}
use Rattle.syntax_model.proofs.OutsideLemmas.{nil_from_test}
use Rattle.css_rules.specs.Walk.{open_past_kind}

-- whether a `}` ends the block that the tokens are in
abbrev pub is_end : Bool → List Bracket → Token → Bool
is_end top pending token = not top && (is_nil pending && is_close_curly token.kind)

-- tokens that close what is open, and end no block that they are in
abbrev pub Fits : Bool → List Bracket → List Token → Type 0
Fits top pending [] = pending ≡ []
Fits top pending (token ∷ tokens) = (is_end top pending token ≡ false) × Fits top (open_past pending token) tokens

-- brackets in a block
abbrev in_curly : List Bracket → List Bracket
in_curly pending = pending ++ curly ∷ []

without_more : (bracket : Bracket) (pending : List Bracket) (o : Option Bracket) → without_closed (in_curly (bracket ∷ pending)) o ≡ in_curly (without_closed (bracket ∷ pending) o)
without_more bracket pending None = refl
without_more bracket pending (Some closed) =
    ⊎_elim
    (λ (same : same_bracket bracket closed ≡ true). rw same)
    (λ (other : same_bracket bracket closed ≡ false). rw other)
    (cases_Bool (same_bracket bracket closed))

with_below : (o : Option Bracket) (pending : List Bracket) → with_opened o (in_curly pending) ≡ in_curly (with_opened o pending)
with_below None pending = refl
with_below (Some bracket) pending = refl

-- inside a block its own bracket stays below the others
past_below : (pending : List Bracket) (kind : TokenKind) → (is_nil pending && is_close_curly kind) ≡ false → open_past_kind (in_curly pending) kind ≡ in_curly (open_past_kind pending kind)
past_below [] close_curly test = absurd (true≢false test)
past_below [] kind test = refl
past_below (bracket ∷ pending) kind test =
    rw (without_more bracket pending (closed_by kind)) (with_below (opened_by kind) (without_closed (bracket ∷ pending) (closed_by kind)))

pub is_closer : (kind : TokenKind) → is_close_curly kind ≡ true → kind ≡ close_curly
is_closer close_curly test = refl
is_closer kind test = cc

past_end : (kind : TokenKind) → is_close_curly kind ≡ true → open_past_kind (curly ∷ []) kind ≡ []
past_end close_curly test = refl
past_end kind test = cc

some_below : (pending : List Bracket) → is_nil (in_curly pending) ≡ false
some_below [] = refl
some_below (bracket ∷ pending) = refl

-- a block, and what comes after it
pub record IsBlock (top : Bool) (pending : List Bracket) (tokens : List Token) : Type 0 where
  pub body : List Token
  pub close : Token
  pub rest : List Token
  pub split : tokens ≡ body ++ close ∷ rest
  pub closes : is_close_curly close.kind ≡ true
  pub fits_inside : Fits false pending body
  pub fits_after : Fits top [] rest
  pub read : (head : Head) (prelude block : List Token) → in_block top head prelude block (in_curly pending) tokens ≡ with_block head prelude (block ++ body) ∷ pieces_in top rest

module _ (top : Bool) (pending : List Bracket) (token : Token) (tokens : List Token) where
  -- a token ends the block
  block_ends : Fits top (in_curly pending) (token ∷ tokens) → (is_nil pending && is_close_curly token.kind) ≡ true → IsBlock top pending (token ∷ tokens)
  block_ends fits test =
      let parts = and_parts (is_nil pending) (is_close_curly token.kind) test in
      let none : pending ≡ [] = nil_from_test pending parts.0 in
      let after : open_past (in_curly pending) token ≡ [] = ap (λ p. open_past (in_curly p) token) none ∙ past_end token.kind parts.1 in
      record {
        body = [];
        close = token;
        rest = tokens;
        split = refl;
        closes = parts.1;
        fits_inside = none;
        fits_after = subst (λ p. Fits top p tokens) after fits.1;
        read = λ head prelude block. cond-true _ _ _ (ap is_nil after) ∙ ap (λ b. with_block head prelude b ∷ pieces_in top tokens) (sym (append-nil block));
      }

  -- or is in it
  block_goes_on : (is_nil pending && is_close_curly token.kind) ≡ false → IsBlock top (open_past pending token) tokens → IsBlock top pending (token ∷ tokens)
  block_goes_on test inner =
      let next : open_past (in_curly pending) token ≡ in_curly (open_past pending token) = past_below pending token.kind test in
      record {
        body = token ∷ inner.body;
        close = inner.close;
        rest = inner.rest;
        split = ap (λ ts. token ∷ ts) inner.split;
        closes = inner.closes;
        fits_inside = (test, inner.fits_inside);
        fits_after = inner.fits_after;
        read = λ head prelude block.
            cond-false _ _ _ (ap is_nil next ∙ some_below (open_past pending token))
            ∙ (ap (λ p. in_block top head prelude (block ++ token ∷ []) p tokens) next
            ∙ (inner.read head prelude (block ++ token ∷ [])
            ∙ ap (λ b. with_block head prelude b ∷ pieces_in top inner.rest) (append_assoc block (token ∷ []) inner.body)));
      }

pub block_of : (top : Bool) (pending : List Bracket) (tokens : List Token) → Fits top (in_curly pending) tokens → IsBlock top pending tokens
block_of top pending [] fits = absurd (false≢true (sym (some_below pending) ∙ ap is_nil fits))
block_of top pending (token ∷ tokens) fits =
    ⊎_elim
    (λ (test : (is_nil pending && is_close_curly token.kind) ≡ true). block_ends top pending token tokens fits test)
    (λ (test : (is_nil pending && is_close_curly token.kind) ≡ false).
    let fits_on = rw (past_below pending token.kind test) at fits.1 in
    block_goes_on top pending token tokens test (block_of top (open_past pending token) tokens fits_on))
    (cases_Bool (is_nil pending && is_close_curly token.kind))

-- closed tokens close what is open
open_after-append : (pending : List Bracket) (tokens more : List Token) → open_after pending (tokens ++ more) ≡ open_after (open_after pending tokens) more
open_after-append pending [] more = refl
open_after-append pending (token ∷ tokens) more = open_after-append (open_past pending token) tokens more

past_closer : (bracket : Bracket) (pending : List Bracket) → open_past (bracket ∷ pending) (closer bracket) ≡ pending
past_closer square pending = refl
past_closer round pending = refl
past_closer curly pending = refl

after_closers : (pending : List Bracket) → open_after pending (closers pending) ≡ []
after_closers [] = refl
after_closers (bracket ∷ pending) = ap (λ p. open_after p (closers pending)) (past_closer bracket pending) ∙ after_closers pending

fits_at_top : (pending : List Bracket) (tokens : List Token) → open_after pending tokens ≡ [] → Fits true pending tokens
fits_at_top pending [] none = none
fits_at_top pending (token ∷ tokens) none = (refl, fits_at_top (open_past pending token) tokens none)

pub closed_fits : (tokens : List Token) → Fits true [] (closed tokens)
closed_fits tokens = fits_at_top [] (closed tokens) (open_after-append [] tokens _ ∙ after_closers (open_after [] tokens))
