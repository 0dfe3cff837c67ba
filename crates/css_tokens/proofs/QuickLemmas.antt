-- The tokens that take one look.
use Rattle.std.proofs.Common.{◌≡◌, ℕ, true, false, eqb, [], ◌∷◌, length, take, drop, refl, sym, ap, ap₂, ◌∙◌, arith, inl, inr}
use Rattle.std.specs.Prelude.{not}
use Rattle.std.specs.List.{prefix_len}
use Rattle.std.proofs.lemmas.Bool.{and_left, cond-false, cond-true, or_cases}
use Rattle.std.proofs.lemmas.Bool.Decides.{nat_tests}
use Rattle.std.proofs.lemmas.List.Folds.{length-prefix_len}
use Rattle.base_model.specs.Text.{Characters}
use Rattle.syntax_model.specs.Letters.{begins, is_blank, is_name_char, is_name_start}
use Rattle.syntax_model.specs.TextUnits.{len_of, name_unit}
use Rattle.syntax_model.specs.Token.{TokenKind, ident, whitespace}
use Rattle.syntax_model.specs.Pieces.{Piece, Production, ident_piece, ident_production, mark_production, name_in, name_len, named}
use Rattle.syntax_model.specs.Pieces.{plain, production_at, production_len, production_tokens, token_of, white_production}
use Rattle.css_tokens.specs.Scanned.{IsFirst, IsMark, is_lone, is_lone_point}
use Rattle.css_tokens.specs.declared.text_unit.Grammar.TheVariants as grammar
use Rattle.css_tokens.proofs.ProductionLemmas.{ident_first, lone_first, point_first}
use Rattle.css_tokens.proofs.RunLemmas.{ends_there, plain_len, plain_said}

-- the piece of the production that fits
is_first : (P : Production) (c : ℕ) (cs : Characters) (piece : Piece) → production_at (c ∷ cs) ≡ P → piece.length ≡ production_len P c cs → ((start : ℕ) → token_of start piece ∷ [] ≡ production_tokens P start c cs) → IsFirst piece (c ∷ cs)
is_first P c cs piece fits len tokens = record {
  len = len ∙ ap (λ p. production_len p c cs) (sym fits);
  tokens = λ start. tokens start ∙ ap (λ p. production_tokens p start c cs) (sym fits);
}

no_solidus : (c : ℕ) → is_blank c ≡ true → eqb c 47 ≡ false
no_solidus c h = grind (arith, nat_tests)

pub white_is_first : (c : ℕ) (cs text : Characters) (n : ℕ) → text ≡ c ∷ cs → is_blank c ≡ true → n ≡ prefix_len is_blank text → IsFirst (plain whitespace n) text
white_is_first c cs text n is blank is_n =
    let fits : production_at (c ∷ cs) ≡ white_production = cond-false _ _ _ (and_left (eqb c 47) _ (no_solidus c blank)) ∙ cond-true _ _ _ blank in
    rw (is_n, is) (is_first white_production c cs _ fits refl (λ start. refl))

pub mark_is_first : (c : ℕ) (cs text : Characters) (kind : TokenKind) → text ≡ c ∷ cs → IsMark kind c cs → IsFirst (plain kind 1) text
mark_is_first c cs text kind is mark =
    let fits : production_at (c ∷ cs) ≡ mark_production = elim (or_cases (is_lone c) (is_lone_point c cs) mark.alone) [
      | inl h ↦ lone_first c cs h
      | inr h ↦ point_first c cs h
    ] in
    rw (is, mark.same_kind) (is_first mark_production c cs _ fits refl (λ start. refl))

-- an identifier of plain characters
ident_is : (text name rest : Characters) (n : ℕ) → n ≡ prefix_len is_name_char text → name ≡ take n text → rest ≡ drop n text
    → begins (λ d. eqb d 40) rest ≡ false → begins (λ d. eqb d 92) rest ≡ false → named ident name (length name) ≡ ident_piece text
ident_is text name rest n is_n is_name is_rest no_bracket no_escape =
    let none : len_of name_unit rest ≡ 0 = ends_there grammar.Name text rest n is_n is_rest no_escape in
    let len : n ≡ name_len text = omega (arith, plain_len grammar.Name text rest n 0 is_n is_rest (sym none)) in
    let said : name ≡ name_in text = plain_said grammar.Name text name rest n is_n is_name is_rest none in
    let whole : length name ≡ n = rw (is_name, is_n) (length-prefix_len is_name_char text) in
    let after : drop (name_len text) text ≡ rest = ap (λ k. drop k text) (sym len) ∙ sym is_rest in
    ap₂ (named ident) said (whole ∙ len) ∙ sym (cond-true _ _ _ (ap not (ap (begins (λ d. eqb d 40)) after ∙ no_bracket)))

pub ident_is_first : (c : ℕ) (cs text name rest : Characters) (n : ℕ) → text ≡ c ∷ cs → is_name_start c ≡ true → n ≡ prefix_len is_name_char text → name ≡ take n text → rest ≡ drop n text
    → begins (λ d. eqb d 40) rest ≡ false → begins (λ d. eqb d 92) rest ≡ false → IsFirst (named ident name (length name)) text
ident_is_first c cs text name rest n is starts is_n is_name is_rest no_bracket no_escape =
    let piece : named ident name (length name) ≡ ident_piece (c ∷ cs) = ident_is text name rest n is_n is_name is_rest no_bracket no_escape ∙ ap ident_piece is in
    rw is (is_first ident_production c cs _ (ident_first c cs starts) (ap (λ (p : Piece). p.length) piece) (λ start. ap (λ p. token_of start p ∷ []) piece))
