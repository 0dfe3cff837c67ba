-- Texts that go on with no token: what is written after a token that does not end itself.
use Rattle.std.proofs.Common.{◌≡◌, true, false, cond, eqb, List, [], ◌∷◌, ◌++◌, append_assoc, rules}
use Rattle.std.specs.Prelude.{◌||◌, codes}
use Rattle.std.proofs.lemmas.Bool.{cond_both, false≢true}
use Rattle.base_model.specs.Text.{Characters}
use Rattle.syntax_model.specs.Letters.{begins, is_digit, is_name_start}
use Rattle.syntax_model.specs.TextUnits.{name_unit, starts_escape}
use Rattle.syntax_model.specs.Numbers.{after_sign, starts_unsigned}
use Rattle.syntax_model.specs.Pieces.{starts_ident, starts_name}
use Rattle.syntax_model.specs.Token.{Token, TokenKind, string, whitespace, colon, semicolon, comma, open_square, close_square, close_round, open_curly, close_curly}
use Rattle.syntax_model.specs.Written.{begins_itself, ends_itself, gap, token_text, written}
use Rattle.syntax_model.proofs.NumberLemmas.{EndsNumber}

-- nothing, or a text that begins with one of these characters
pub data TokenEnd : Characters → Type 0 where
  at_end : TokenEnd []
  at_slash : (cs : Characters) → TokenEnd (47 ∷ cs)
  at_space : (cs : Characters) → TokenEnd (32 ∷ cs)
  at_comma : (cs : Characters) → TokenEnd (44 ∷ cs)
  at_colon : (cs : Characters) → TokenEnd (58 ∷ cs)
  at_semicolon : (cs : Characters) → TokenEnd (59 ∷ cs)
  at_quote : (cs : Characters) → TokenEnd (34 ∷ cs)
  at_open_square : (cs : Characters) → TokenEnd (91 ∷ cs)
  at_close_square : (cs : Characters) → TokenEnd (93 ∷ cs)
  at_close_round : (cs : Characters) → TokenEnd (41 ∷ cs)
  at_open_curly : (cs : Characters) → TokenEnd (123 ∷ cs)
  at_close_curly : (cs : Characters) → TokenEnd (125 ∷ cs)

-- what such a text does not begin with
pub record EndsToken (rest : Characters) : Type 0 where
  pub no_name : (name_unit rest).taken ≡ 0
  pub number : EndsNumber rest
  pub no_ident : starts_ident rest ≡ false
  pub no_name_start : starts_name rest ≡ false
  pub no_escape : starts_escape rest ≡ false
  pub no_dash : begins (λ d. is_name_start d || eqb d 45) rest ≡ false
  pub no_unsigned : starts_unsigned rest ≡ false
  pub no_signed : begins is_digit (after_sign rest) ≡ false
  pub no_open : begins (λ d. eqb d 40) rest ≡ false
  pub no_greater : begins (λ d. eqb d 62) rest ≡ false
  pub no_percent : begins (λ d. eqb d 37) rest ≡ false
  pub no_star : begins (λ d. eqb d 42) rest ≡ false
  pub no_hyphen : begins (λ d. eqb d 45) rest ≡ false
  pub no_exclamation : begins (λ d. eqb d 33) rest ≡ false

-- a token like another, of this kind
abbrev pub of_kind : Token → TokenKind → Token
of_kind t kind = record { kind = kind; name = t.name; spelling = t.spelling; span = t.span }

-- the first character decides
pub ends_token : {rest : Characters} → TokenEnd rest → EndsToken rest
ends_token at_end = search rules
ends_token stop = search rules

-- a token that begins itself begins with one of these characters
begins_stop : (t : Token) (more : Characters) (kind : TokenKind) → begins_itself kind ≡ true → TokenEnd (token_text (of_kind t kind) ++ more)
begins_stop t more whitespace h = at_space more
begins_stop t more comma h = at_comma more
begins_stop t more colon h = at_colon more
begins_stop t more semicolon h = at_semicolon more
begins_stop t more string h = at_quote _
begins_stop t more open_square h = at_open_square more
begins_stop t more close_square h = at_close_square more
begins_stop t more close_round h = at_close_round more
begins_stop t more open_curly h = at_open_curly more
begins_stop t more close_curly h = at_close_curly more
begins_stop t more kind h = absurd (false≢true h)

-- so what is after a token that does not end itself does not go on with it
next_stops : (next : Token) (more : Characters) → TokenEnd (cond (begins_itself next.kind) [] (codes "/**/") ++ (token_text next ++ more))
next_stops next more =
    cond_both (begins_itself next.kind) _ _ (λ (w : Characters). TokenEnd (w ++ (token_text next ++ more))) (begins_stop next more next.kind) (λ _. at_slash _)

pub gap_stops : (kind : TokenKind) (tokens : List Token) → ends_itself kind ≡ false → TokenEnd (gap kind tokens ++ written tokens)
unfolding written
gap_stops kind [] h = at_end
gap_stops kind (next ∷ tokens) h = rw (h, append_assoc (token_text next)) (next_stops next (gap next.kind tokens ++ written tokens))
