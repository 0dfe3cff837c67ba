-- Each token that is sound reads back, where what is after it does not go on with it.
use Rattle.std.proofs.Common.{◌≡◌, true, false, [], ◌∷◌, refl}
use Rattle.std.specs.Prelude.{◌&&◌, not}
use Rattle.std.proofs.lemmas.Bool.{and_parts, false≢true, not-true}
use Rattle.base_model.specs.Lists.{is_nil}
use Rattle.base_model.specs.Text.{Characters}
use Rattle.syntax_model.specs.Letters.{begins, is_blank}
use Rattle.syntax_model.specs.Token.{Token, TokenKind, said, bare, with_name, ident, function, at_keyword, hash, string, bad_string, url, bad_url, delim, number, percentage, dimension, whitespace}
use Rattle.syntax_model.specs.Token.{cdo, cdc}
use Rattle.syntax_model.specs.TokenKinds.{is_white}
use Rattle.syntax_model.specs.Pieces.{quote_follows, starts_ident}
use Rattle.syntax_model.specs.Written.{ends_itself, has_name, is_number, is_sound, is_url_function, name_text, says_nothing, token_text}
use Rattle.syntax_model.proofs.TokenEndLemmas.{EndsToken, of_kind}
use Rattle.syntax_model.proofs.TokenReads.{ReadsOne}
use Rattle.syntax_model.proofs.NamedReads.{at_read, function_read, hash_read, id_read, ident_read}
use Rattle.syntax_model.proofs.QuotedReads.{string_read, url_read}
use Rattle.syntax_model.proofs.NumberReads.{dimension_read, number_read, percentage_read}
use Rattle.syntax_model.proofs.MarkReads.{cdc_read, cdo_read, delim_read, mark_read, white_read}

-- what is after a token in a list that is written
pub record Follows (t : Token) (rest : Characters) : Type 0 where
  pub stop : ends_itself t.kind ≡ false → EndsToken rest
  pub no_blank : is_white t.kind ≡ true → begins is_blank rest ≡ false
  pub quote : is_url_function t ≡ true → quote_follows rest ≡ true

is_empty : (text : Characters) → is_nil text ≡ true → text ≡ []
is_empty [] h = refl
is_empty (c ∷ cs) h = absurd (false≢true h)

-- each token that is sound reads back, where such a text is after it
module _ (t : Token) (rest : Characters) where
  -- a token with nothing but its kind, and one with a name
  bare_reads : {kind : TokenKind} {text : Characters} → says_nothing t ≡ true → ReadsOne text (bare kind) rest → ReadsOne text (said (of_kind t kind)) rest
  bare_reads h reads =
      let parts = and_parts (is_nil t.name) (is_nil t.spelling) h in
      rw (is_empty t.name parts.0, is_empty t.spelling parts.1) reads

  module _ {kind : TokenKind} {text : Characters} (sound : (has_name t && is_nil t.spelling) ≡ true) where
    named_reads : (is_nil t.name ≡ false → ReadsOne text (with_name kind t.name) rest) → ReadsOne text (said (of_kind t kind)) rest
    named_reads reads =
        let parts = and_parts (has_name t) (is_nil t.spelling) sound in
        rw (is_empty t.spelling parts.1) (reads (not-true _ parts.0))

  pub token_reads : (kind : TokenKind) → is_sound (of_kind t kind) ≡ true → Follows (of_kind t kind) rest → ReadsOne (token_text (of_kind t kind)) (said (of_kind t kind)) rest
  token_reads ident sound follows = named_reads sound (λ some. ident_read t.name rest some (follows.stop refl))
  token_reads function sound follows = named_reads sound (λ some. function_read t.name rest some follows.quote)
  token_reads at_keyword sound follows = named_reads sound (λ some. at_read t.name rest some (follows.stop refl))
  token_reads (hash true) sound follows = named_reads sound (λ some. id_read t.name rest some (follows.stop refl))
  token_reads (hash false) sound follows =
      let parts = and_parts (not (is_nil t.name)) (not (starts_ident (name_text t.name)) && is_nil t.spelling) sound in
      let others = and_parts (not (starts_ident (name_text t.name))) (is_nil t.spelling) parts.1 in
      rw (is_empty t.spelling others.1) (hash_read t.name rest (not-true _ parts.0) (not-true _ others.0) (follows.stop refl))
  token_reads string sound follows = rw (is_empty t.spelling sound) (string_read t.name rest)
  token_reads bad_string sound follows = absurd (false≢true sound)
  token_reads url sound follows = rw (is_empty t.spelling sound) (url_read t.name rest)
  token_reads bad_url sound follows = absurd (false≢true sound)
  token_reads (delim c) sound follows =
      let parts = and_parts _ (is_nil t.name && is_nil t.spelling) sound in
      bare_reads parts.1 (delim_read c rest parts.0 (follows.stop refl))
  token_reads (number integer) sound follows =
      let parts = and_parts _ (is_nil t.name) sound in
      rw (is_empty t.name parts.1) (number_read integer t.spelling parts.0 rest (follows.stop refl))
  token_reads percentage sound follows =
      let parts = and_parts (is_number t.spelling) (is_nil t.name) sound in
      rw (is_empty t.name parts.1) (percentage_read t.spelling rest parts.0)
  token_reads (dimension integer) sound follows =
      let parts = and_parts _ (not (is_nil t.name)) sound in
      dimension_read integer t.spelling parts.0 t.name rest (not-true _ parts.1) (follows.stop refl)
  token_reads whitespace sound follows = bare_reads sound (white_read rest (follows.no_blank refl))
  token_reads cdo sound follows = bare_reads sound (cdo_read rest)
  token_reads cdc sound follows = bare_reads sound (cdc_read rest)
  token_reads kind sound follows = bare_reads sound (mark_read rest refl refl refl)
