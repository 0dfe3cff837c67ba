-- The written text of identifiers, functions, at-keywords and hashes reads as them.
use Rattle.std.proofs.Common.{◌≡◌, ℕ, ◌<◌, true, false, eqb, [], ◌∷◌, ◌++◌, length, refl, sym, ap, arith, inl, inr, append_assoc, length-append}
use Rattle.std.specs.Prelude.{◌&&◌, ◌||◌, not, codes}
use Rattle.std.proofs.lemmas.Bool.{and_cases, and_left, and_right, cases_Bool, false≢true, or_from, or_parts}
use Rattle.base_model.specs.Lists.{is_nil}
use Rattle.base_model.specs.Text.{Characters, is_word}
use Rattle.syntax_model.specs.Letters.{begins, is_name_start}
use Rattle.syntax_model.specs.TextUnits.{name_unit, starts_escape}
use Rattle.syntax_model.specs.Token.{ident, function, at_keyword, hash, with_name}
use Rattle.syntax_model.specs.Pieces.{at_keyword_production, hash_production, ident_production, named, quote_follows, production_at, starts_ident}
use Rattle.syntax_model.specs.Written.{ident_text, name_text}
use Rattle.syntax_model.proofs.IdentLemmas.{ident_no_cdc, ident_text_starts, name_text_starts}
use Rattle.syntax_model.proofs.NameLemmas.{ident_reads, name_reads, name_text_some}
use Rattle.syntax_model.proofs.PieceLemmas.{ident_starts}
use Rattle.syntax_model.proofs.ProductionLemmas.{at_production_at, hash_production_at, ident_production_at}
use Rattle.syntax_model.proofs.TokenEndLemmas.{EndsToken}
use Rattle.syntax_model.proofs.TokenReads.{IsRun, ReadsOne, one_piece, run_is}

-- what begins with an identifier is some text
starts_some : (text : Characters) → starts_ident (text ++ []) ≡ true → 0 < length text
starts_some [] h = absurd (false≢true h)
starts_some (c ∷ cs) h = omega arith

module _ (name rest : Characters) (some : is_nil name ≡ false) where
  abbrev text : Characters
  text = ident_text name ++ rest

  starts : starts_ident text ≡ true
  starts = ident_text_starts name rest some

  ident_at : begins (λ d. eqb d 62) rest ≡ false → production_at text ≡ ident_production
  ident_at no_greater = ident_production_at text starts (ident_no_cdc name rest some no_greater)

  of_ident : (name_unit rest).taken ≡ 0 → IsRun name_unit (ident_text name) name rest
  of_ident none = run_is (ident_text name) name rest (ident_reads name rest none)

  pub ident_read : EndsToken rest → ReadsOne (ident_text name) (with_name ident name) rest
  ident_read ends =
      let is = of_ident ends.no_name in
      one_piece ident_production refl (starts_some (ident_text name) (ident_text_starts name [] some)) (ident_at ends.no_greater)
      (rw (is.size, is.same, is.left, ends.no_open))

  pub at_read : EndsToken rest → ReadsOne (64 ∷ ident_text name) (with_name at_keyword name) rest
  at_read ends =
      let is = of_ident ends.no_name in
      one_piece at_keyword_production refl (omega arith) (at_production_at text starts)
      (rw (is.size, is.same) (ap (named at_keyword name) (omega arith)))

  pub id_read : EndsToken rest → ReadsOne (35 ∷ ident_text name) (with_name (hash true) name) rest
  id_read ends =
      let is = of_ident ends.no_name in
      one_piece hash_production refl (omega arith) (hash_production_at text (ident_starts text starts))
      (rw (starts, is.size, is.same) (ap (named (hash true) name) (omega arith)))

module _ (name rest : Characters) (some : is_nil name ≡ false) (quote : is_word (codes "url") name ≡ true → quote_follows rest ≡ true) where
  pub function_read : ReadsOne (ident_text name ++ 40 ∷ []) (with_name function name) rest
  function_read =
      let is = of_ident name (40 ∷ rest) some refl in
      let none : (is_word (codes "url") name && not (quote_follows rest)) ≡ false =
      elim (cases_Bool (is_word (codes "url") name)) [ inl e ↦ and_right _ _ (ap not (quote e)) | inr e ↦ and_left _ _ e ] in
      one_piece ident_production refl (omega (arith, length-append (ident_text name) (40 ∷ [])))
      (rw append_assoc (ident_at name (40 ∷ rest) some refl))
      (rw (append_assoc, is.size, is.same, is.left, none) (ap (named function name) (omega (arith, length-append (ident_text name) (40 ∷ [])))))

-- no escape, where none is before another text
escape_stays : (c : ℕ) (cs rest : Characters) → starts_escape (c ∷ cs) ≡ false → starts_escape (c ∷ cs ++ rest) ≡ false
escape_stays c [] rest h = elim (and_cases (eqb c 92) true h) [ inl e ↦ and_left _ _ e | inr e ↦ absurd (false≢true (sym e)) ]
escape_stays c (d ∷ ds) rest h = h

-- no identifier, where none is before a text that goes on with no token
pub no_ident_stays : (text rest : Characters) → 0 < length text → EndsToken rest → starts_ident text ≡ false → starts_ident (text ++ rest) ≡ false
no_ident_stays [] rest some ends h = absurd (omega (arith, some))
no_ident_stays (c ∷ []) rest some ends h =
    elim (cases_Bool (eqb c 45)) [
      | inl e ↦ rw e (or_from _ _ ends.no_dash ends.no_escape)
      | inr e ↦
          let parts = or_parts (is_name_start c) (starts_escape (c ∷ [])) (rw e at h) in
          rw e (or_from _ _ parts.0 (escape_stays c [] rest parts.1))
    ]
no_ident_stays (c ∷ d ∷ cs) rest some ends h =
    elim (cases_Bool (eqb c 45)) [
      | inl e ↦
          let parts = or_parts (is_name_start d || eqb d 45) (starts_escape (d ∷ cs)) (rw e at h) in
          rw e (or_from _ _ parts.0 (escape_stays d cs rest parts.1))
      | inr e ↦ rw e (rw e at h)
    ]

pub hash_read : (name rest : Characters) → is_nil name ≡ false → starts_ident (name_text name) ≡ false → EndsToken rest → ReadsOne (35 ∷ name_text name) (with_name (hash false) name) rest
hash_read name rest some none ends =
    let is = run_is (name_text name) name rest (name_reads name rest ends.no_name) in
    let stays = no_ident_stays (name_text name) rest (name_text_some name some) ends none in
    one_piece hash_production refl (omega arith) (hash_production_at (name_text name ++ rest) (name_text_starts name rest some))
    (rw (stays, is.size, is.same) (ap (named (hash false) name) (omega arith)))
