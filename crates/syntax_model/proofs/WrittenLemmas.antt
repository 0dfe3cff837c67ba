-- What is written reads back, where preprocessing leaves it as it is.
use Rattle.std.proofs.Common.{◌≡◌, ℕ, zero, suc, ◌+◌, ◌≤◌, true, false, List, [], ◌∷◌, ◌++◌, length, map, refl, sym, ap, ◌∙◌, arith, append_assoc, length-append}
use Rattle.std.specs.Prelude.{◌&&◌, ◌||◌, codes}
use Rattle.std.proofs.lemmas.Bool.{and_parts, cond_both, false≢true, not-true}
use Rattle.std.proofs.lemmas.List.{drop-drop}
use Rattle.std.specs.List.{prefix_len}
use Rattle.base_model.specs.Lists.{is_nil}
use Rattle.base_model.specs.Text.{Characters}
use Rattle.syntax_model.specs.Letters.{begins, is_blank, is_quote}
use Rattle.syntax_model.specs.Token.{Token, said, TokenKind, ident, function, hash, string, delim, number, percentage, dimension, whitespace}
use Rattle.syntax_model.specs.TokenKinds.{begins_with, is_white, without_white}
use Rattle.syntax_model.specs.Pieces.{quote_follows}
use Rattle.syntax_model.specs.TokensIn.{tokens_from, tokens_in}
use Rattle.syntax_model.specs.Written.{begins_itself, ends_itself, gap, goes_before, has_name, ident_text, is_clean_token, is_number, is_sound, is_string, is_url_function, is_writable, says_nothing}
use Rattle.syntax_model.specs.Written.{token_text, unit_text, written}
use Rattle.syntax_model.proofs.IdentLemmas.{ident_text_starts}
use Rattle.syntax_model.proofs.ProductionLemmas.{ident_no, number_no_blank}
use Rattle.syntax_model.proofs.TokenEndLemmas.{ends_token, gap_stops, of_kind}
use Rattle.syntax_model.proofs.TokenReads.{ReadsOne}
use Rattle.syntax_model.proofs.SoundReads.{Follows, token_reads}
use Rattle.syntax_model.proofs.MarkReads.{delim_no_blank}

-- no token but whitespace begins with a blank
module _ (t : Token) (more : Characters) where
  no_blank_begins : (kind : TokenKind) → is_sound (of_kind t kind) ≡ true → is_white kind ≡ false → begins is_blank (token_text (of_kind t kind) ++ more) ≡ false
  no_blank_begins ident sound other =
      (ident_no (ident_text t.name ++ more) (ident_text_starts t.name more (not-true _ (and_parts (has_name t) _ sound).0))).0
  no_blank_begins function sound other =
      rw append_assoc (ident_no (ident_text t.name ++ 40 ∷ more) (ident_text_starts t.name (40 ∷ more) (not-true _ (and_parts (has_name t) _ sound).0))).0
  no_blank_begins (hash true) sound other = refl
  no_blank_begins (hash false) sound other = refl
  no_blank_begins (delim c) sound other = delim_no_blank c (and_parts _ (says_nothing t) sound).0
  no_blank_begins (number integer) sound other =
      number_no_blank t.spelling more (and_parts _ _ (and_parts (is_number t.spelling) _ (and_parts _ (is_nil t.name) sound).0).0).0
  no_blank_begins percentage sound other =
      rw append_assoc (number_no_blank t.spelling (37 ∷ more) (and_parts _ _ (and_parts (is_number t.spelling) (is_nil t.name) sound).0).0)
  no_blank_begins (dimension integer) sound other =
      let parts = and_parts (is_number t.spelling) _ (and_parts _ (has_name t) sound).0 in
      rw append_assoc (number_no_blank t.spelling (unit_text t.name ++ more) (and_parts _ _ parts.0).0)
  no_blank_begins whitespace sound other = absurd (false≢true (sym other))
  no_blank_begins kind sound other = refl

-- no comment is written after a token that ends itself
no_gap : (kind : TokenKind) (tokens : List Token) → ends_itself kind ≡ true → gap kind tokens ≡ []
no_gap kind [] ends = refl
no_gap kind (next ∷ tokens) ends = rw ends

-- the parts of a list that can be written
pub record IsWritable (first : Token) (tokens : List Token) : Type 0 where
  pub sound : is_sound first ≡ true
  pub clean : is_clean_token first ≡ true
  pub goes : goes_before first tokens ≡ true
  pub rest : is_writable tokens ≡ true

pub writable_parts : (first : Token) (tokens : List Token) → is_writable (first ∷ tokens) ≡ true → IsWritable first tokens
unfolding is_writable
writable_parts first tokens h =
    let parts : ((is_sound first && is_clean_token first) ≡ true) × ((goes_before first tokens && is_writable tokens) ≡ true) = and_parts _ _ h in
    let own = and_parts (is_sound first) _ parts.0 in
    let others = and_parts (goes_before first tokens) _ parts.1 in
    record { sound = own.0; clean = own.1; goes = others.0; rest = others.1 }

-- what begins with no whitespace is written with no blank first
no_blank_first : (tokens : List Token) → is_writable tokens ≡ true → begins_with is_white tokens ≡ false → begins is_blank (written tokens) ≡ false
unfolding written
no_blank_first [] writable h = refl
no_blank_first (next ∷ tokens) writable h =
    rw (append_assoc (token_text next)) (no_blank_begins next _ next.kind (writable_parts next tokens writable).sound h)

-- a blank before a text whose blanks a quote follows
quote_past_blank : (text : Characters) → quote_follows text ≡ true → quote_follows (32 ∷ text) ≡ true
quote_past_blank text h = ap (begins is_quote) (sym (drop-drop (prefix_len is_blank text) 1 (32 ∷ text))) ∙ h

-- the text of a list begins with a quote, after blanks or none
abbrev QuoteFirst : List Token → Type 0
QuoteFirst tokens = begins_with is_string (without_white tokens) ≡ true → quote_follows (written tokens) ≡ true

module _ (t : Token) (tokens : List Token) where
  -- a string after optional whitespace is written as a quote after optional blanks
  quote_first : (kind : TokenKind) → QuoteFirst tokens → QuoteFirst (of_kind t kind ∷ tokens)
  unfolding written
  quote_first whitespace later h = quote_past_blank (gap whitespace tokens ++ written tokens) (rw (no_gap whitespace tokens refl) (later h))
  quote_first string later h = refl
  quote_first kind later h = absurd (false≢true h)

  -- after whitespace and after a function, what is written is what goes before it
  white_follows : (kind : TokenKind) → goes_before (of_kind t kind) tokens ≡ true → is_writable tokens ≡ true → is_white kind ≡ true → begins is_blank (gap kind tokens ++ written tokens) ≡ false
  white_follows whitespace goes writable h = rw (no_gap whitespace tokens refl) (no_blank_first tokens writable (not-true _ goes))
  white_follows kind goes writable h = absurd (false≢true h)

  quote_after : (kind : TokenKind) → QuoteFirst tokens → goes_before (of_kind t kind) tokens ≡ true → is_url_function (of_kind t kind) ≡ true → quote_follows (gap kind tokens ++ written tokens) ≡ true
  quote_after function first goes h = rw (no_gap function tokens refl) (first (rw h at goes))
  quote_after kind first goes h = absurd (false≢true h)

quote_written : (tokens : List Token) → QuoteFirst tokens
quote_written [] h = absurd (false≢true h)
quote_written (next ∷ tokens) h = quote_first next tokens next.kind (quote_written tokens) h

follows : (first : Token) (tokens : List Token) → goes_before first tokens ≡ true → is_writable tokens ≡ true → Follows first (gap first.kind tokens ++ written tokens)
follows first tokens goes writable = record {
  stop = λ h. ends_token (gap_stops first.kind tokens h);
  no_blank = white_follows first tokens first.kind goes writable;
  quote = quote_after first tokens first.kind (quote_written tokens) goes;
}

-- the text reads as the list, from any offset, in enough steps
abbrev Reads : Characters → List Token → Type 0
Reads text tokens = (n start : ℕ) → length text ≤ n → map said (tokens_from n start text) ≡ map said tokens

-- an empty comment is no token
past_comment : (text : Characters) (tokens : List Token) → Reads text tokens → Reads (codes "/**/" ++ text) tokens
past_comment text tokens reads zero start h = absurd (omega (arith, h))
past_comment text tokens reads (suc n) start h = reads n (start + 4) (omega (arith, h))

over_gap : (kind : TokenKind) (tokens : List Token) (text : Characters) → Reads text tokens → Reads (gap kind tokens ++ text) tokens
over_gap kind [] text reads = reads
over_gap kind (next ∷ tokens) text reads =
    cond_both (ends_itself kind || begins_itself next.kind) _ _ (λ (w : Characters). Reads (w ++ text) (next ∷ tokens)) (λ _. reads)
    (λ _. past_comment text (next ∷ tokens) reads)

one_more : (text rest : Characters) (first : Token) (tokens : List Token) → ReadsOne text (said first) rest → Reads rest tokens → Reads (text ++ rest) (first ∷ tokens)
one_more text rest first tokens one later zero start h = absurd (omega (arith, one.some, h, length-append text rest))
one_more text rest first tokens one later (suc n) start h =
    one.reads n start ∙ ap (λ ts. said first ∷ ts) (later n (start + length text) (omega (arith, one.some, h, length-append text rest)))

list_reads : (tokens : List Token) → is_writable tokens ≡ true → Reads (written tokens) tokens
unfolding written
list_reads [] writable zero start h = refl
list_reads [] writable (suc n) start h = refl
list_reads (first ∷ tokens) writable n start h =
    let parts : IsWritable first tokens = writable_parts first tokens writable in
    let rest : Characters = gap first.kind tokens ++ written tokens in
    let one = token_reads first rest first.kind parts.sound (follows first tokens parts.goes parts.rest) in
    rw (append_assoc (token_text first))
    (one_more (token_text first) rest first tokens one (over_gap first.kind tokens (written tokens) (list_reads tokens parts.rest)) n start
    (rw (append_assoc (token_text first)) at h))

-- What is written of a list that can be written reads, as it is, as tokens that say the same.
pub written_reads : (tokens : List Token) → is_writable tokens ≡ true → map said (tokens_in (written tokens)) ≡ map said tokens
unfolding tokens_in
written_reads tokens writable = list_reads tokens writable (length (written tokens)) 0 (omega arith)
