-- Preprocessing leaves what is written as it is, so it reads back.
use Rattle.std.proofs.Common.{◌≡◌, true, false, eqb, List, [], ◌∷◌, map, refl, sym, ap, append_assoc}
use Rattle.std.specs.Prelude.{◌||◌, flat_map}
use Rattle.std.proofs.lemmas.Bool.{and_from, and_parts, cond_both, eqb-true, not-true, or_parts}
use Rattle.base_model.specs.Lists.{is_nil}
use Rattle.base_model.specs.Text.{Characters}
use Rattle.syntax_model.specs.Preprocess.{is_clean, is_preprocessed, preprocessed, preprocessed_after}
use Rattle.syntax_model.specs.Token.{Token, said, TokenKind, ident, function, at_keyword, hash, string, url, delim, number, percentage, dimension}
use Rattle.syntax_model.specs.TokensIn.{tokens_in}
use Rattle.syntax_model.specs.Written.{begins_itself, ends_itself, gap, has_name, ident_text, is_clean_token, is_number, is_sound, is_writable, no_null, string_char_text, token_text, unit_text}
use Rattle.syntax_model.specs.Written.{url_char_text, written}
use Rattle.syntax_model.proofs.CleanLemmas.{IsClean, clean_both, ident_text_clean, name_text_clean, number_clean, string_text_clean, unit_text_clean, url_text_clean}
use Rattle.syntax_model.proofs.TokenEndLemmas.{of_kind}
use Rattle.syntax_model.proofs.WrittenLemmas.{IsWritable, writable_parts, written_reads}

-- no CR and FF are left to change, and no U+0000
same_after : (text : Characters) → is_preprocessed text ≡ true → preprocessed_after false text ≡ text
same_after [] h = refl
same_after (c ∷ cs) h =
    let parts = and_parts (is_clean c) _ h in
    let others = or_parts (eqb c 13) _ (not-true _ parts.0) in
    let two = or_parts (eqb c 12) (eqb c 0) others.1 in
    rw (others.0, two.0, two.1, same_after cs parts.1)
    (cond_both (eqb c 10) _ _ (λ (w : Characters). w ≡ c ∷ cs) (λ e. ap (λ n. n ∷ cs) (sym (eqb-true c 10 e))) (λ _. refl))

module _ (t : Token) (none : no_null t.name ≡ true) where
  token_clean : (kind : TokenKind) → is_sound (of_kind t kind) ≡ true → is_clean_token (of_kind t kind) ≡ true → IsClean (token_text (of_kind t kind))
  token_clean ident sound clean = ident_text_clean t.name none
  token_clean function sound clean = clean_both (ident_text t.name) (40 ∷ []) (ident_text_clean t.name none) refl
  token_clean at_keyword sound clean = ident_text_clean t.name none
  token_clean (hash true) sound clean = ident_text_clean t.name none
  token_clean (hash false) sound clean = name_text_clean t.name none
  token_clean string sound clean = clean_both (flat_map string_char_text t.name) (34 ∷ []) (string_text_clean t.name none) refl
  token_clean url sound clean = clean_both (flat_map url_char_text t.name) (41 ∷ []) (url_text_clean t.name none) refl
  token_clean (delim c) sound clean = and_from _ _ (and_parts (no_null t.name) _ clean).1 refl
  token_clean (number integer) sound clean =
      number_clean t.spelling (and_parts (is_number t.spelling) _ (and_parts _ (is_nil t.name) sound).0).0
  token_clean percentage sound clean =
      clean_both t.spelling (37 ∷ []) (number_clean t.spelling (and_parts (is_number t.spelling) (is_nil t.name) sound).0) refl
  token_clean (dimension integer) sound clean =
      let number = (and_parts (is_number t.spelling) _ (and_parts _ (has_name t) sound).0).0 in
      clean_both t.spelling (unit_text t.name) (number_clean t.spelling number) (unit_text_clean t.name none)
  token_clean kind sound clean = refl

gap_clean : (kind : TokenKind) (tokens : List Token) → IsClean (gap kind tokens)
gap_clean kind [] = refl
gap_clean kind (next ∷ tokens) = cond_both (ends_itself kind || begins_itself next.kind) _ _ IsClean (λ _. refl) (λ _. refl)

pub written_clean : (tokens : List Token) → is_writable tokens ≡ true → IsClean (written tokens)
unfolding written
written_clean [] writable = refl
written_clean (first ∷ tokens) writable =
    let parts : IsWritable first tokens = writable_parts first tokens writable in
    let none = (and_parts (no_null first.name) _ parts.clean).0 in
    rw (append_assoc (token_text first))
    (clean_both (token_text first) _ (token_clean first none first.kind parts.sound parts.clean)
    (clean_both (gap first.kind tokens) (written tokens) (gap_clean first.kind tokens) (written_clean tokens parts.rest)))

-- What is written of a list that can be written reads, like any other text, as tokens that say the same.
pub reads_back : (tokens : List Token) → is_writable tokens ≡ true → map said (tokens_in (preprocessed (written tokens))) ≡ map said tokens
reads_back tokens writable = rw (same_after (written tokens) (written_clean tokens writable)) (written_reads tokens writable)
