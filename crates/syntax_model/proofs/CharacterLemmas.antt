-- Each character of a name, a string or a url, as it is written, is read as one unit that says it, whatever is after it.
use Rattle.std.proofs.Common.{◌≡◌, ℕ, ◌<◌, Bool, true, false, eqb, [], ◌∷◌, ◌++◌, length, drop, ◌∙◌, arith}
use Rattle.std.specs.Prelude.{Some, ◌||◌}
use Rattle.std.proofs.lemmas.Bool.{cond_both, cond-true, cond-false, and_left, not_from_false}
use Rattle.std.proofs.lemmas.Bool.Decides.{nat_tests}
use Rattle.base_model.specs.Text.{Characters}
use Rattle.syntax_model.specs.Letters.{is_hex_digit, is_name_char, is_quote}
use Rattle.syntax_model.specs.TextUnits.{TextUnit, ends_url, name_unit, starts_escape, string_unit, url_unit}
use Rattle.syntax_model.specs.Written.{hex_escape, is_control, name_char_text, string_char_text, url_char_text}
use Rattle.syntax_model.proofs.EscapeLemmas.{escape_reads, escape_starts, plain_escape, string_escape_is}

-- the unit that a text of a character is to be
abbrev pub AsOne : (Characters → TextUnit) → Characters → ℕ → Type 0
AsOne unit text c = (more : Characters) → unit (text ++ more) ≡ record { taken = length text; said = Some c }

-- a control is a character of ASCII, and not U+0000
control_small : (c : ℕ) → is_control c ≡ true → (0 < c) × (c < 128)
control_small c h = (grind (arith, nat_tests), grind (arith, nat_tests))

-- what is no name character is no hexadecimal digit
no_hex_digit : (c : ℕ) → is_name_char c ≡ false → is_hex_digit c ≡ false
no_hex_digit c h = grind (arith, nat_tests)

no_line_feed : (c : ℕ) → is_control c ≡ false → eqb c 10 ≡ false
no_line_feed c h = grind (arith, nat_tests)

-- an escape, where a name may go on
pub name_escape : (c : ℕ) → (0 < c) × (c < 128) → AsOne name_unit (hex_escape c) c
name_escape c small more = cond-true _ _ _ (escape_starts c more) ∙ escape_reads c more small

pub name_char : (c : ℕ) → AsOne name_unit (name_char_text c) c
name_char c =
    let P : Characters → Type 0 = λ w. AsOne name_unit w c in
    cond_both (is_name_char c) _ _ P (λ h more. cond-true _ _ _ h)
    (λ h. cond_both (is_control c) _ _ P (λ k. name_escape c (control_small c k))
    (λ k more. cond-true _ _ _ (not_from_false _ (no_line_feed c k)) ∙ plain_escape c more (no_hex_digit c h)))

-- A text that goes on with a valid escape, whatever is after it: `\` comes before it.
abbrev pub Escapes : Characters → Type 0
Escapes text = (more : Characters) → starts_escape (92 ∷ text ++ more) ≡ true

-- a name's character is written as itself or as an escape
pub written_char : (P : Characters → Type 0) (c : ℕ) → (is_name_char c ≡ true → P (c ∷ []))
    → ((text : Characters) → Escapes text → P (92 ∷ text)) → P (name_char_text c)
written_char P c plain escaped =
    cond_both (is_name_char c) _ _ P plain (λ _. cond_both (is_control c) _ _ P (λ _. escaped (drop 1 (hex_escape c)) (escape_starts c))
    (λ k. escaped (c ∷ []) (λ _. not_from_false _ (no_line_feed c k))))

no_hex_marked : (c : ℕ) → (eqb c 34 || eqb c 92) ≡ true → (eqb c 10 ≡ false) × (is_hex_digit c ≡ false)
no_hex_marked c h = (grind (arith, nat_tests), grind (arith, nat_tests))

string_plain : (c : ℕ) → (eqb c 34 || eqb c 92) ≡ false → is_control c ≡ false → ((eqb c 34 || eqb c 10) ≡ false) × (eqb c 92 ≡ false)
string_plain c h k = (grind (arith, nat_tests), grind (arith, nat_tests))

pub string_char : (c : ℕ) → AsOne (string_unit 34) (string_char_text c) c
string_char c =
    let P : Characters → Type 0 = λ w. AsOne (string_unit 34) w c in
    cond_both (eqb c 34 || eqb c 92) _ _ P (λ h more. cond-false _ _ _ (no_hex_marked c h).0 ∙ plain_escape c more (no_hex_marked c h).1)
    (λ h. cond_both (is_control c) _ _ P
    (λ k more. string_escape_is c more ∙ escape_reads c more (control_small c k))
    (λ k more. cond-false _ _ _ (string_plain c h k).0 ∙ cond-false _ _ _ (string_plain c h k).1))

-- what is escaped in a url
abbrev pub in_url : ℕ → Bool
in_url c =
    is_quote c || (eqb c 40 || (eqb c 41 || (eqb c 92 || (eqb c 32 || is_control c))))

url_small : (c : ℕ) → in_url c ≡ true → (0 < c) × (c < 128)
url_small c h = (grind (arith, nat_tests), grind (arith, nat_tests))

url_plain : (c : ℕ) → in_url c ≡ false → (eqb c 92 ≡ false) × (ends_url c ≡ false)
url_plain c h = (grind (arith, nat_tests), grind (arith, nat_tests))

pub url_char : (c : ℕ) → AsOne url_unit (url_char_text c) c
url_char c =
    let P : Characters → Type 0 = λ w. AsOne url_unit w c in
    cond_both (in_url c) _ _ P (λ h more. cond-true _ _ _ (escape_starts c more) ∙ escape_reads c more (url_small c h))
    (λ h more. cond-false _ _ _ (and_left _ _ (url_plain c h).0) ∙ cond-false _ _ _ (url_plain c h).1)
