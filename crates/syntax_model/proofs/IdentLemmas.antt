-- What the text of a name begins with, whatever is after it: an identifier, and neither a `-->` nor an exponent.
use Rattle.std.proofs.Common.{◌≡◌, ℕ, Bool, true, false, eqb, [], ◌∷◌, ◌++◌, drop, refl, sym, ap, ◌∙◌, arith, append_assoc}
use Rattle.std.specs.Prelude.{◌&&◌, ◌||◌}
use Rattle.std.proofs.lemmas.Bool.{eq-eqb, and_left, and_right, cond_both, cond-false, false≢true, or_left}
use Rattle.std.proofs.lemmas.Bool.Decides.{nat_tests}
use Rattle.base_model.specs.Lists.{is_nil}
use Rattle.base_model.specs.Text.{Characters}
use Rattle.syntax_model.specs.Letters.{begins, is_digit, is_name_char, is_name_start}
use Rattle.syntax_model.specs.Pieces.{starts_cdc, starts_ident, starts_name}
use Rattle.syntax_model.specs.Written.{after_hyphen, hex_escape, ident_text, looks_like_exponent, name_text, unit_text}
use Rattle.syntax_model.proofs.CharacterLemmas.{Escapes, written_char}
use Rattle.syntax_model.proofs.EscapeLemmas.{escape_starts}

pub begins_name : (p : ℕ → Bool) (name rest : Characters) → p 92 ≡ false → begins p rest ≡ false
    → ((c : ℕ) → begins (eqb c) name ≡ true → is_name_char c ≡ true → p c ≡ false) → begins p (name_text name ++ rest) ≡ false
begins_name p [] rest h k each = k
begins_name p (c ∷ cs) rest h k each =
    written_char (λ w. begins p ((w ++ name_text cs) ++ rest) ≡ false) c (each c (eq-eqb c c refl)) (λ _ _. h)

start_or_dash : (c : ℕ) → is_name_char c ≡ true → is_digit c ≡ false → (is_name_start c || eqb c 45) ≡ true
start_or_dash c h k = grind (arith, nat_tests)

start_char : (c : ℕ) → is_name_char c ≡ true → is_digit c ≡ false → eqb c 45 ≡ false → is_name_start c ≡ true
start_char c h k fails = grind (arith, nat_tests)

-- What is true of each text that an identifier's text can begin with is true of it.
module _ (P : Characters → Type 0) (escaped : (text : Characters) → Escapes text → P (92 ∷ text)) where
  hex_any : (c : ℕ) (cs : Characters) → P (hex_escape c ++ name_text cs)
  hex_any c cs = escaped (drop 1 (hex_escape c) ++ name_text cs) (λ more. rw append_assoc (escape_starts c (name_text cs ++ more)))

  name_any : (c : ℕ) (cs : Characters) → (is_name_char c ≡ true → P (c ∷ name_text cs)) → P (name_text (c ∷ cs))
  name_any c cs plain =
      written_char (λ w. P (w ++ name_text cs)) c plain (λ text e. escaped (text ++ name_text cs) (λ more. rw append_assoc (e (name_text cs ++ more))))

pub ident_any : (P : Characters → Type 0) (c : ℕ) (cs : Characters)
    → ((text : Characters) → Escapes text → P (92 ∷ text)) → ((text : Characters) → Escapes text → P (45 ∷ 92 ∷ text))
    → ((d : ℕ) (ds : Characters) → (is_name_start d || eqb d 45) ≡ true → P (45 ∷ d ∷ name_text ds))
    → (is_name_start c ≡ true → eqb c 45 ≡ false → P (c ∷ name_text cs)) → P (ident_text (c ∷ cs))
ident_any P c cs escaped hyphen_escaped hyphen plain =
    cond_both (is_digit c) _ _ P (λ _. hex_any P escaped c cs)
    (λ fails. cond_both (eqb c 45 && is_nil cs) _ _ P (λ _. escaped (45 ∷ []) (λ _. refl))
    (λ two. cond_both (eqb c 45) _ _ P (λ h. after cs (sym (ap (λ x. x && is_nil cs) h) ∙ two))
    (λ other. name_any P escaped c cs (λ h. plain (start_char c h fails other) other))))
  where
    after : (name : Characters) → is_nil name ≡ false → P (45 ∷ after_hyphen name)
    after [] some = absurd (false≢true (sym some))
    after (d ∷ ds) some =
        let Q : Characters → Type 0 = λ w. P (45 ∷ w) in
        cond_both (is_digit d) _ _ Q (λ _. hex_any Q hyphen_escaped d ds) (λ fails. name_any Q hyphen_escaped d ds (λ h. hyphen d ds (start_or_dash d h fails)))

-- the text of an identifier begins with one
pub ident_text_starts : (name rest : Characters) → is_nil name ≡ false → starts_ident (ident_text name ++ rest) ≡ true
ident_text_starts [] rest some = absurd (false≢true (sym some))
ident_text_starts (c ∷ cs) rest some = ident_any (λ w. starts_ident (w ++ rest) ≡ true) c cs (λ _ e. e rest) (λ _ e. e rest)
    (λ _ _ h. or_left _ _ h) (λ start other. cond-false _ _ _ other ∙ or_left _ _ start)

pub unit_text_starts : (name rest : Characters) → is_nil name ≡ false → starts_ident (unit_text name ++ rest) ≡ true
unit_text_starts [] rest some = absurd (false≢true (sym some))
unit_text_starts (c ∷ cs) rest some =
    let P : Characters → Type 0 = λ w. starts_ident (w ++ rest) ≡ true in
    cond_both (looks_like_exponent (c ∷ cs)) _ _ P (λ _. hex_any P (λ _ e. e rest) c cs) (λ _. ident_text_starts (c ∷ cs) rest some)

-- the text of a name begins with one
pub name_text_starts : (name rest : Characters) → is_nil name ≡ false → starts_name (name_text name ++ rest) ≡ true
name_text_starts [] rest some = absurd (false≢true (sym some))
name_text_starts (c ∷ cs) rest some = name_any (λ w. starts_name (w ++ rest) ≡ true) (λ _ e. e rest) c cs (λ h. or_left _ _ h)

-- no `-->`, where the first, the second or the third character is another
pub cdc_first : (a : ℕ) (text : Characters) → eqb a 45 ≡ false → starts_cdc (a ∷ text) ≡ false
cdc_first a [] h = refl
cdc_first a (b ∷ []) h = refl
cdc_first a (b ∷ c ∷ cs) h = and_left _ _ h

pub cdc_second : (a : ℕ) (text : Characters) → begins (λ d. eqb d 45) text ≡ false → starts_cdc (a ∷ text) ≡ false
cdc_second a [] h = refl
cdc_second a (b ∷ []) h = refl
cdc_second a (b ∷ c ∷ cs) h = and_right _ _ (and_left _ _ h)

cdc_third : (a b : ℕ) (text : Characters) → begins (λ d. eqb d 62) text ≡ false → starts_cdc (a ∷ b ∷ text) ≡ false
cdc_third a b [] h = refl
cdc_third a b (c ∷ cs) h = and_right _ _ (and_right _ _ h)

no_greater : (c : ℕ) → is_name_char c ≡ true → eqb c 62 ≡ false
no_greater c h = grind (arith, nat_tests)

-- the text of an identifier begins with no `-->`
pub ident_no_cdc : (name rest : Characters) → is_nil name ≡ false → begins (λ d. eqb d 62) rest ≡ false → starts_cdc (ident_text name ++ rest) ≡ false
ident_no_cdc [] rest some fails = absurd (false≢true (sym some))
ident_no_cdc (c ∷ cs) rest some fails = ident_any (λ w. starts_cdc (w ++ rest) ≡ false) c cs
    (λ text _. cdc_first 92 (text ++ rest) refl) (λ text _. cdc_second 45 (92 ∷ text ++ rest) refl)
    (λ d ds _. cdc_third 45 d (name_text ds ++ rest) (begins_name (λ d. eqb d 62) ds rest refl fails (λ d _ k. no_greater d k)))
    (λ _ other. cdc_first c (name_text cs ++ rest) other)
