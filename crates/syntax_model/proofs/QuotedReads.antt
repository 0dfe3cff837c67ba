-- The written text of a string and of a url reads as it.
use Rattle.std.proofs.Common.{◌≡◌, ℕ, ◌+◌, Bool, false, [], ◌∷◌, ◌++◌, length, refl, ap, ◌∙◌, arith, append_assoc, length-append}
use Rattle.std.specs.Prelude.{codes, flat_map}
use Rattle.std.specs.List.{prefix_len}
use Rattle.std.proofs.lemmas.Bool.{cond_both, cond-false, cond-true, not_from_false}
use Rattle.std.proofs.lemmas.Bool.Decides.{nat_tests}
use Rattle.base_model.specs.Text.{Characters}
use Rattle.syntax_model.specs.Letters.{begins, is_blank, is_quote}
use Rattle.syntax_model.specs.Token.{string, url, with_name}
use Rattle.syntax_model.specs.Pieces.{ident_production, named, quote_follows, string_production, url_piece}
use Rattle.syntax_model.specs.Written.{hex_escape, string_char_text, url_char_text}
use Rattle.syntax_model.proofs.CharacterLemmas.{in_url}
use Rattle.syntax_model.proofs.NameLemmas.{string_reads, url_reads}
use Rattle.syntax_model.proofs.TokenReads.{ReadsOne, one_piece, run_is}

pub string_read : (name rest : Characters) → ReadsOne (34 ∷ flat_map string_char_text name ++ 34 ∷ []) (with_name string name) rest
string_read name rest =
    let body : Characters = flat_map string_char_text name in
    let is = run_is body name (34 ∷ rest) (string_reads name rest) in
    one_piece string_production refl (omega arith) refl
    (rw (append_assoc body (34 ∷ []) rest, is.size, is.same, is.left) (ap (named string name) (omega (arith, length-append body (34 ∷ [])))))

-- a url's text begins with no blank and no quote
url_char_begins : (p : ℕ → Bool) (c : ℕ) (more : Characters) → p 92 ≡ false → (in_url c ≡ false → p c ≡ false) → begins p (url_char_text c ++ more) ≡ false
url_char_begins p c more h k = cond_both (in_url c) (hex_escape c) (c ∷ []) (λ (w : Characters). begins p (w ++ more) ≡ false) (λ _. h) k

url_begins : (p : ℕ → Bool) (name rest : Characters) → p 92 ≡ false → p 41 ≡ false → ((c : ℕ) → in_url c ≡ false → p c ≡ false) → begins p (flat_map url_char_text name ++ 41 ∷ rest) ≡ false
url_begins p [] rest h k each = k
url_begins p (c ∷ cs) rest h k each = rw append_assoc (url_char_begins p c (flat_map url_char_text cs ++ 41 ∷ rest) h (each c))

no_blank : (c : ℕ) → in_url c ≡ false → is_blank c ≡ false
no_blank c h = grind (arith, nat_tests)

no_quote : (c : ℕ) → in_url c ≡ false → is_quote c ≡ false
no_quote c h = grind (arith, nat_tests)

pub prefix_none : (p : ℕ → Bool) (text : Characters) → begins p text ≡ false → prefix_len p text ≡ 0
prefix_none p [] h = refl
prefix_none p (c ∷ cs) h = cond-false _ _ _ h

module _ (name rest : Characters) where
  abbrev body : Characters
  body = flat_map url_char_text name

  no_blank_first : prefix_len is_blank (body ++ 41 ∷ rest) ≡ 0
  no_blank_first = prefix_none is_blank (body ++ 41 ∷ rest) (url_begins is_blank name rest refl refl no_blank)

  -- the text of a url after `url(`
  url_piece_is : url_piece 4 (body ++ 41 ∷ rest) ≡ named url name (5 + length body)
  url_piece_is =
      let is = run_is body name (41 ∷ rest) (url_reads name rest) in
      rw (no_blank_first, is.size, is.same, is.left) (ap (named url name) (omega arith))

  no_quote_follows : quote_follows (body ++ 41 ∷ rest) ≡ false
  no_quote_follows = rw no_blank_first (url_begins is_quote name rest refl refl no_quote)

  pub url_read : ReadsOne (codes "url(" ++ body ++ 41 ∷ []) (with_name url name) rest
  url_read =
      one_piece ident_production refl (omega arith) refl
      (rw (append_assoc body (41 ∷ []) rest)
      (cond-true _ _ _ (not_from_false _ no_quote_follows)
      ∙ (url_piece_is ∙ ap (named url name) (omega (arith, length-append body (41 ∷ []))))))
