-- The written text of a number, a percentage and a dimension reads as it.
use Rattle.std.proofs.Common.{◌≡◌, ℕ, ◌+◌, ◌<◌, Bool, true, false, cond, eqb, [], ◌∷◌, ◌++◌, length, refl, ap, ◌∙◌, arith, append_assoc, length-append}
use Rattle.std.specs.Prelude.{not}
use Rattle.std.proofs.lemmas.Bool.{and_parts, not-true}
use Rattle.std.proofs.lemmas.List.{drop_at, take_at}
use Rattle.base_model.specs.Lists.{is_nil}
use Rattle.base_model.specs.Text.{Characters}
use Rattle.syntax_model.specs.Letters.{begins}
use Rattle.syntax_model.specs.Numbers.{is_integer}
use Rattle.syntax_model.specs.Token.{dimension, number, percentage, with_number}
use Rattle.syntax_model.specs.Pieces.{Piece, name_in, name_len, number_production, starts_ident}
use Rattle.syntax_model.specs.Written.{is_number, is_number_as, unit_text}
use Rattle.syntax_model.proofs.ExponentLemmas.{unit_ends_number}
use Rattle.syntax_model.proofs.IdentLemmas.{unit_text_starts}
use Rattle.syntax_model.proofs.NameLemmas.{unit_reads}
use Rattle.syntax_model.proofs.NumberLemmas.{EndsNumber, NumberReads, number_reads, number_text_some}
use Rattle.syntax_model.proofs.ProductionLemmas.{ident_no, number_production_at}
use Rattle.syntax_model.proofs.TokenEndLemmas.{EndsToken}
use Rattle.syntax_model.proofs.TokenReads.{ReadsOne, one_piece, piece_at, piece_saying, run_is}

-- a piece of the production of numbers, by its spelling, the length of that, and what is after it
number_from : Bool → Characters → ℕ → Characters → Piece
number_from integer spelling taken rest =
    cond (begins (λ c. eqb c 37) rest) (record { kind = percentage; name = []; spelling = spelling; length = taken + 1 })
    (cond (starts_ident rest) (record { kind = dimension integer; name = name_in rest; spelling = spelling; length = taken + name_len rest })
    (record { kind = number integer; name = []; spelling = spelling; length = taken }))

number_at : (text rest : Characters) → NumberReads text rest → piece_at number_production (text ++ rest) ≡ number_from (is_integer text) text (length text) rest
unfolding number_from
number_at text rest reads = rw (reads.size, take_at text rest (length text) refl, drop_at text rest (length text) refl, reads.integer)

-- a test says which
integer_is : (integer b : Bool) → cond integer b (not b) ≡ true → b ≡ integer
integer_is true b h = h
integer_is false b h = not-true b h

spelling_some : (text : Characters) → is_number text ≡ true → 0 < length text
spelling_some text is = number_text_some text (and_parts _ _ is).0

pub percentage_read : (text rest : Characters) → is_number text ≡ true → ReadsOne (text ++ 37 ∷ []) (with_number percentage text []) rest
unfolding number_from
percentage_read text rest is =
    let ends : EndsNumber (37 ∷ rest) = record { no_digit = refl; no_fraction = refl; no_exponent = refl } in
    let reads : NumberReads text (37 ∷ rest) = number_reads text (37 ∷ rest) is ends in
    one_piece number_production refl (omega (arith, length-append text (37 ∷ [])))
    (rw append_assoc (number_production_at (text ++ 37 ∷ rest) reads.starts))
    (rw append_assoc
    (number_at text (37 ∷ rest) reads ∙ ap (piece_saying (with_number percentage text [])) (omega (arith, length-append text (37 ∷ [])))))

module _ (integer : Bool) (text : Characters) (is : is_number_as integer text ≡ true) where
  counted : is_number text ≡ true
  counted = (and_parts (is_number text) _ is).0

  kept : is_integer text ≡ integer
  kept = integer_is integer (is_integer text) (and_parts (is_number text) _ is).1

  pub number_read : (rest : Characters) → EndsToken rest → ReadsOne text (with_number (number integer) text []) rest
  unfolding number_from
  number_read rest ends =
      let reads : NumberReads text rest = number_reads text rest counted ends.number in
      one_piece number_production refl (spelling_some text counted) (number_production_at (text ++ rest) reads.starts)
      (number_at text rest reads ∙ rw (ends.no_percent, ends.no_ident, kept))

  pub dimension_read : (name rest : Characters) → is_nil name ≡ false → EndsToken rest → ReadsOne (text ++ unit_text name) (with_number (dimension integer) text name) rest
  unfolding number_from
  dimension_read name rest some ends =
      let unit : Characters = unit_text name in
      let starts : starts_ident (unit ++ rest) ≡ true = unit_text_starts name rest some in
      let reads : NumberReads text (unit ++ rest) = number_reads text (unit ++ rest) counted (unit_ends_number name rest some ends) in
      let is = run_is unit name rest (unit_reads name rest ends.no_name) in
      one_piece number_production refl (omega (arith, spelling_some text counted, length-append text unit))
      (rw append_assoc (number_production_at (text ++ (unit ++ rest)) reads.starts))
      (rw append_assoc
      (number_at text (unit ++ rest) reads
      ∙ rw ((ident_no (unit ++ rest) starts).1.1.1, starts, is.size, is.same, kept)
      (ap (piece_saying (with_number (dimension integer) text name)) (omega (arith, length-append text unit)))))
