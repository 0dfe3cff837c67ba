-- What is written holds no CR, FF and U+0000 but those of names and of delims.
use Rattle.std.proofs.Common.{◌≡◌, ℕ, ◌/◌, ◌%◌, true, false, eqb, [], ◌∷◌, ◌++◌, refl, ◌∙◌, arith}
use Rattle.std.specs.Prelude.{nat_le, ◌&&◌, ◌||◌, not, flat_map}
use Rattle.std.proofs.lemmas.Bool.{and_from, and_parts, cond_both}
use Rattle.std.proofs.lemmas.Bool.Decides.{nat_tests}
use Rattle.std.proofs.lemmas.List.Folds.{list_all-append}
use Rattle.base_model.specs.Lists.{is_nil}
use Rattle.base_model.specs.Text.{Characters}
use Rattle.syntax_model.specs.Letters.{is_digit, is_name_char}
use Rattle.syntax_model.specs.Preprocess.{is_clean, is_preprocessed}
use Rattle.syntax_model.specs.Written.{after_hyphen, hex_digit, hex_escape, ident_text, is_control, is_number, looks_like_exponent, name_char_text, name_text, no_null, string_char_text, unit_text}
use Rattle.syntax_model.specs.Written.{url_char_text}
use Rattle.syntax_model.proofs.CharacterLemmas.{in_url}
use Rattle.syntax_model.proofs.NumberCharacters.{number_passes}

abbrev pub IsClean : Characters → Type 0
IsClean text = is_preprocessed text ≡ true

pub clean_both : (first second : Characters) → IsClean first → IsClean second → IsClean (first ++ second)
clean_both first second h k = list_all-append is_clean first second ∙ and_from _ _ h k

clean_onto : (c : ℕ) (cs : Characters) → is_clean c ≡ true → IsClean cs → IsClean (c ∷ cs)
clean_onto c cs h k = and_from _ _ h k

digit_clean : (d : ℕ) → is_clean (hex_digit d) ≡ true
digit_clean d = cond_both (nat_le d 9) _ _ (λ n. is_clean n ≡ true) (λ _. grind (arith, nat_tests)) (λ _. grind (arith, nat_tests))

hex_clean : (c : ℕ) → IsClean (hex_escape c)
hex_clean c =
    cond_both (nat_le 16 c) _ _ (λ (w : Characters). IsClean (w ++ 32 ∷ []))
    (λ _. and_from _ _ (digit_clean (c / 16)) (and_from _ _ (digit_clean (c % 16)) refl))
    (λ _. and_from _ _ (digit_clean c) refl)

other_clean : (c : ℕ) → not (eqb c 0) ≡ true → is_control c ≡ false → is_clean c ≡ true
other_clean c h k = grind (arith, nat_tests)

name_char_clean : (c : ℕ) → not (eqb c 0) ≡ true → IsClean (name_char_text c)
name_char_clean c h =
    cond_both (is_name_char c) _ _ IsClean (λ k. clean_onto c [] (grind (arith, nat_tests)) refl)
    (λ _. cond_both (is_control c) _ _ IsClean (λ _. hex_clean c) (λ k. clean_onto c [] (other_clean c h k) refl))

string_char_clean : (c : ℕ) → not (eqb c 0) ≡ true → IsClean (string_char_text c)
string_char_clean c h =
    cond_both (eqb c 34 || eqb c 92) _ _ IsClean (λ k. clean_onto c [] (grind (arith, nat_tests)) refl)
    (λ _. cond_both (is_control c) _ _ IsClean (λ _. hex_clean c) (λ k. clean_onto c [] (other_clean c h k) refl))

url_char_clean : (c : ℕ) → not (eqb c 0) ≡ true → IsClean (url_char_text c)
url_char_clean c h = cond_both (in_url c) _ _ IsClean (λ _. hex_clean c) (λ k. clean_onto c [] (grind (arith, nat_tests)) refl)

flat_clean : (f : ℕ → Characters) → ((c : ℕ) → not (eqb c 0) ≡ true → IsClean (f c)) → (name : Characters) → no_null name ≡ true → IsClean (flat_map f name)
flat_clean f each [] h = refl
flat_clean f each (c ∷ cs) h =
    let parts : (not (eqb c 0) ≡ true) × (no_null cs ≡ true) = and_parts _ _ h in
    clean_both (f c) (flat_map f cs) (each c parts.0) (flat_clean f each cs parts.1)

pub name_text_clean : (name : Characters) → no_null name ≡ true → IsClean (name_text name)
name_text_clean name h = flat_clean name_char_text name_char_clean name h

pub string_text_clean : (name : Characters) → no_null name ≡ true → IsClean (flat_map string_char_text name)
string_text_clean name h = flat_clean string_char_text string_char_clean name h

pub url_text_clean : (name : Characters) → no_null name ≡ true → IsClean (flat_map url_char_text name)
url_text_clean name h = flat_clean url_char_text url_char_clean name h

rest_clean : (c : ℕ) (cs : Characters) → no_null (c ∷ cs) ≡ true → no_null cs ≡ true
rest_clean c cs h = (and_parts (not (eqb c 0)) _ h).1

escaped_clean : (c : ℕ) (cs : Characters) → no_null (c ∷ cs) ≡ true → IsClean (hex_escape c ++ name_text cs)
escaped_clean c cs h = clean_both (hex_escape c) (name_text cs) (hex_clean c) (name_text_clean cs (rest_clean c cs h))

after_hyphen_clean : (name : Characters) → no_null name ≡ true → IsClean (after_hyphen name)
after_hyphen_clean [] h = refl
after_hyphen_clean (c ∷ cs) h =
    cond_both (is_digit c) _ _ IsClean (λ _. escaped_clean c cs h) (λ _. name_text_clean (c ∷ cs) h)

pub ident_text_clean : (name : Characters) → no_null name ≡ true → IsClean (ident_text name)
ident_text_clean [] h = refl
ident_text_clean (c ∷ cs) h =
    cond_both (is_digit c) _ _ IsClean (λ _. escaped_clean c cs h)
    (λ _. cond_both (eqb c 45 && is_nil cs) _ _ IsClean (λ _. refl)
    (λ _. cond_both (eqb c 45) _ _ IsClean (λ _. after_hyphen_clean cs (rest_clean c cs h)) (λ _. name_text_clean (c ∷ cs) h)))

pub unit_text_clean : (name : Characters) → no_null name ≡ true → IsClean (unit_text name)
unit_text_clean [] h = refl
unit_text_clean (c ∷ cs) h =
    cond_both (looks_like_exponent (c ∷ cs)) _ _ IsClean (λ _. escaped_clean c cs h) (λ _. ident_text_clean (c ∷ cs) h)

pub number_clean : (text : Characters) → is_number text ≡ true → IsClean text
number_clean text is = number_passes is_clean (λ c h. grind (arith, nat_tests)) text is
