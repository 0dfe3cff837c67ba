-- What is written of tokens stands within a line, where each of them is sound.
use Rattle.std.proofs.Common.{◌≡◌, ℕ, ◌/◌, ◌%◌, true, false, eqb, List, [], ◌∷◌, ◌++◌, refl, arith, inl, inr}
use Rattle.std.specs.Prelude.{nat_le, ◌&&◌, ◌||◌, not, flat_map}
use Rattle.std.proofs.lemmas.Bool.{and_from, and_parts, cases_Bool, cond_both, eqb-true, false≢true, not_from_false}
use Rattle.std.proofs.lemmas.Bool.Decides.{nat_tests}
use Rattle.base_model.specs.Lists.{is_nil}
use Rattle.base_model.specs.Text.{Characters}
use Rattle.base_model.proofs.LineFeedLemmas.{IsWithinLine, within_line-append, within_line-flat_map}
use Rattle.syntax_model.specs.Letters.{is_digit, is_name_char}
use Rattle.syntax_model.specs.Token.{Token, TokenKind, ident, function, at_keyword, hash, string, bad_string, url, delim, number, percentage, dimension}
use Rattle.syntax_model.specs.Written.{after_hyphen, begins_itself, ends_itself, gap, has_name, hex_digit, hex_escape, ident_text, is_control, is_delim_char, is_number, is_sound, is_writable}
use Rattle.syntax_model.specs.Written.{looks_like_exponent, name_char_text, name_text, says_nothing, string_char_text, token_text, unit_text, url_char_text, written}
use Rattle.syntax_model.proofs.CharacterLemmas.{in_url}
use Rattle.syntax_model.proofs.NumberCharacters.{number_passes}
use Rattle.syntax_model.proofs.TokenEndLemmas.{of_kind}
use Rattle.syntax_model.proofs.WrittenLemmas.{IsWritable, writable_parts}

digit_within : (d : ℕ) → not (eqb (hex_digit d) 10) ≡ true
digit_within d =
    cond_both (nat_le d 9) _ _ (λ n. not (eqb n 10) ≡ true) (λ _. grind (arith, nat_tests)) (λ _. grind (arith, nat_tests))

hex_within : (c : ℕ) → IsWithinLine (hex_escape c)
hex_within c =
    cond_both (nat_le 16 c) _ _ (λ (w : Characters). IsWithinLine (w ++ 32 ∷ []))
    (λ _. and_from _ _ (digit_within (c / 16)) (and_from _ _ (digit_within (c % 16)) refl))
    (λ _. and_from _ _ (digit_within c) refl)

-- a line feed is a control, so it is escaped
name_char_within : (c : ℕ) → IsWithinLine (name_char_text c)
name_char_within c =
    cond_both (is_name_char c) _ _ IsWithinLine (λ h. and_from _ _ (grind (arith, nat_tests)) refl)
    (λ _. cond_both (is_control c) _ _ IsWithinLine (λ _. hex_within c) (λ h. and_from _ _ (grind (arith, nat_tests)) refl))

string_char_within : (c : ℕ) → IsWithinLine (string_char_text c)
string_char_within c =
    cond_both (eqb c 34 || eqb c 92) _ _ IsWithinLine (λ h. and_from _ _ (grind (arith, nat_tests)) refl)
    (λ _. cond_both (is_control c) _ _ IsWithinLine (λ _. hex_within c) (λ h. and_from _ _ (grind (arith, nat_tests)) refl))

url_char_within : (c : ℕ) → IsWithinLine (url_char_text c)
url_char_within c =
    cond_both (in_url c) _ _ IsWithinLine (λ _. hex_within c) (λ h. and_from _ _ (grind (arith, nat_tests)) refl)

name_text_within : (name : Characters) → IsWithinLine (name_text name)
name_text_within name = within_line-flat_map name_char_text name_char_within name

escaped_within : (c : ℕ) (cs : Characters) → IsWithinLine (hex_escape c ++ name_text cs)
escaped_within c cs = within_line-append (hex_escape c) (name_text cs) (hex_within c) (name_text_within cs)

after_hyphen_within : (name : Characters) → IsWithinLine (after_hyphen name)
after_hyphen_within [] = refl
after_hyphen_within (c ∷ cs) =
    cond_both (is_digit c) _ _ IsWithinLine (λ _. escaped_within c cs) (λ _. name_text_within (c ∷ cs))

-- every name
pub ident_text_within : (name : Characters) → IsWithinLine (ident_text name)
ident_text_within [] = refl
ident_text_within (c ∷ cs) =
    cond_both (is_digit c) _ _ IsWithinLine (λ _. escaped_within c cs)
    (λ _. cond_both (eqb c 45 && is_nil cs) _ _ IsWithinLine (λ _. refl)
    (λ _. cond_both (eqb c 45) _ _ IsWithinLine (λ _. after_hyphen_within cs) (λ _. name_text_within (c ∷ cs))))

unit_text_within : (name : Characters) → IsWithinLine (unit_text name)
unit_text_within [] = refl
unit_text_within (c ∷ cs) =
    cond_both (looks_like_exponent (c ∷ cs)) _ _ IsWithinLine (λ _. escaped_within c cs) (λ _. ident_text_within (c ∷ cs))

number_within : (text : Characters) → is_number text ≡ true → IsWithinLine text
number_within text is = number_passes (λ c. not (eqb c 10)) (λ c h. grind (arith, nat_tests)) text is

-- a line feed is whitespace, and so no delim
delim_within : (c : ℕ) → is_delim_char c ≡ true → IsWithinLine (c ∷ [])
delim_within c h =
    elim (cases_Bool (eqb c 10)) [
      | inl e ↦ absurd (false≢true (rw (eqb-true c 10 e) at h))
      | inr e ↦ and_from _ _ (not_from_false _ e) refl
    ]

module _ (t : Token) where
  token_within : (kind : TokenKind) → is_sound (of_kind t kind) ≡ true → IsWithinLine (token_text (of_kind t kind))
  token_within ident sound = ident_text_within t.name
  token_within function sound = within_line-append (ident_text t.name) (40 ∷ []) (ident_text_within t.name) refl
  token_within at_keyword sound = ident_text_within t.name
  token_within (hash true) sound = ident_text_within t.name
  token_within (hash false) sound = name_text_within t.name
  token_within string sound =
      within_line-append (flat_map string_char_text t.name) (34 ∷ []) (within_line-flat_map string_char_text string_char_within t.name) refl
  token_within bad_string sound = absurd (false≢true sound)
  token_within url sound =
      within_line-append (flat_map url_char_text t.name) (41 ∷ []) (within_line-flat_map url_char_text url_char_within t.name) refl
  token_within (delim c) sound = delim_within c (and_parts _ (says_nothing t) sound).0
  token_within (number integer) sound =
      number_within t.spelling (and_parts (is_number t.spelling) _ (and_parts _ (is_nil t.name) sound).0).0
  token_within percentage sound =
      within_line-append t.spelling (37 ∷ []) (number_within t.spelling (and_parts (is_number t.spelling) (is_nil t.name) sound).0) refl
  token_within (dimension integer) sound =
      let number = (and_parts (is_number t.spelling) _ (and_parts _ (has_name t) sound).0).0 in
      within_line-append t.spelling (unit_text t.name) (number_within t.spelling number) (unit_text_within t.name)
  token_within kind sound = refl

gap_within : (kind : TokenKind) (tokens : List Token) → IsWithinLine (gap kind tokens)
gap_within kind [] = refl
gap_within kind (next ∷ tokens) =
    cond_both (ends_itself kind || begins_itself next.kind) _ _ IsWithinLine (λ _. refl) (λ _. refl)

-- What is written of a list that can be written holds no line feed.
pub written_within : (tokens : List Token) → is_writable tokens ≡ true → IsWithinLine (written tokens)
unfolding written
written_within [] writable = refl
written_within (first ∷ tokens) writable =
    let parts : IsWritable first tokens = writable_parts first tokens writable in
    within_line-append (token_text first ++ gap first.kind tokens) (written tokens)
    (within_line-append (token_text first) (gap first.kind tokens) (token_within first first.kind parts.sound) (gap_within first.kind tokens))
    (written_within tokens parts.rest)
