-- The letters of the name `url`.
use Rattle.std.proofs.Common.{◌≡◌, ℕ, ◌<◌, true, eqb, ◌&&◌, [], ◌∷◌, ◌++◌, drop, sym, ap, ◌∙◌, arith}
use Rattle.std.specs.Prelude.{Option, Some, option_to_list}
use Rattle.std.specs.Char.{to_ascii_lowercase}
use Rattle.std.specs.Str.{bytes_eq}
use Rattle.std.proofs.lemmas.Bool.{cond_both}
use Rattle.std.proofs.lemmas.Bool.Decides.{nat_tests}
use Rattle.base_model.specs.Text.{Characters, ascii_lower, is_word}
use Rattle.syntax_model.specs.Letters.{is_name_char}
use Rattle.syntax_model.specs.TextUnits.{TextUnit, name_unit, starts_escape}
use Rattle.syntax_model.specs.Pieces.{name_in}
use Rattle.syntax_model.proofs.PieceLemmas.{escape_some}
use Rattle.css_tokens.proofs.RunLemmas.{said_more}
use Rattle.css_tokens.specs.declared.text_unit.Grammar.TheVariants.{Name}

-- a unit of a name that says a character has one at least
says_some : (text : Characters) (c : ℕ) → (name_unit text).said ≡ Some c → 0 < (name_unit text).taken
says_some [] c says = cc
says_some (d ∷ ds) c says =
    let P : TextUnit → Type 0 = λ u. u.said ≡ Some c → 0 < u.taken in
    cond_both (is_name_char d) _ _ P (λ _ _. omega arith) (λ _. cond_both (starts_escape (d ∷ ds)) _ _ P (λ _ _. escape_some ds) (λ _ none. cc)) says

same_head : (x : ℕ) (xs ys : Characters) → bytes_eq (x ∷ xs) (x ∷ ys) ≡ bytes_eq xs ys
same_head x xs ys = ap (λ b. b && bytes_eq xs ys) (self x)
  where
    self : (x : ℕ) → eqb x x ≡ true
    self x = grind (arith, nat_tests)

pub letter_taken : (letter : ℕ) (text rest : Characters) (taken c : ℕ) (said : Option ℕ) → record { taken = taken; said = said } ≡ name_unit text → said ≡ Some c → to_ascii_lowercase c ≡ letter → rest ≡ drop taken text → (word : Characters) → is_word (letter ∷ word) (name_in text) ≡ is_word word (name_in rest)
letter_taken letter text rest taken c said is says lower is_rest word =
    let taken_is : taken ≡ (name_unit text).taken = ap (λ (u : TextUnit). u.taken) is in
    let said_is : (name_unit text).said ≡ Some c = sym (ap (λ (u : TextUnit). u.said) is) ∙ says in
    let more : name_in text ≡ c ∷ name_in rest = rw (is_rest, taken_is) (said_more Name text (says_some text c said_is) ∙ ap (λ o. option_to_list o ++ name_in (drop (name_unit text).taken text)) said_is) in
    ap (is_word (letter ∷ word)) more ∙ (ap (λ l. bytes_eq (l ∷ ascii_lower (name_in rest)) (letter ∷ word)) lower ∙ same_head letter (ascii_lower (name_in rest)) word)
