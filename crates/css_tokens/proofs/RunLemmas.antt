-- Runs of units, as the code goes through them.
use Rattle.std.proofs.Common.{◌≡◌, ℕ, zero, suc, ◌+◌, ◌-◌, ◌<◌, ◌≤◌, Bool, true, false, eqb, ◌||◌, [], ◌∷◌, ◌++◌, length, take, drop, refl, sym, ap, ◌∙◌, arith, append-nil, append_assoc, length-drop}
use Rattle.std.specs.Prelude.{Option, option_to_list}
use Rattle.std.specs.List.{prefix_len}
use Rattle.std.proofs.lemmas.Bool.{and_left, cond_both, cond-false, cond-true, false≢true, not-false, not-true, or_from, or_parts}
use Rattle.std.proofs.lemmas.Bool.Decides.{nat_tests}
use Rattle.std.proofs.lemmas.List.Sums.{prefix_len-le-length}
use Rattle.base_model.specs.Text.{Characters}
use Rattle.syntax_model.specs.Letters.{begins}
use Rattle.syntax_model.specs.TextUnits.{Run, TextUnit, ends_url, itself, len_of, run_of, said_of, starts_escape, then_run}
use Rattle.syntax_model.proofs.TextUnitLemmas.{Fits, comment_fits, name_fits, remnant_fits, run_any, run_of_more, run_of_none, string_fits, url_fits}
use Rattle.css_tokens.specs.Scanned.{is_plain, may_go_on, unit_by}
use Rattle.css_tokens.specs.declared.text_unit.Grammar.{Grammar}
use Rattle.css_tokens.specs.declared.text_unit.Grammar.TheVariants as grammar

-- units of every part of the grammar lie inside the text
pub grammar_fits : (g : Grammar) → Fits (unit_by g)
grammar_fits grammar.Name = name_fits
grammar_fits (grammar.String quote) = string_fits quote
grammar_fits grammar.Url = url_fits
grammar_fits grammar.Remnants = remnant_fits
grammar_fits grammar.Comment = comment_fits

-- a plain character is a unit
plain_unit : (g : Grammar) (c : ℕ) (cs : Characters) → is_plain g c ≡ true → unit_by g (c ∷ cs) ≡ itself c
plain_unit grammar.Name c cs h = cond-true _ _ _ h
plain_unit (grammar.String quote) c cs h =
    let parts = or_parts (eqb c quote) (eqb c 10 || eqb c 92) (not-true _ h) in
    let others = or_parts (eqb c 10) (eqb c 92) parts.1 in
    cond-false (eqb c quote || eqb c 10) _ _ (or_from _ _ parts.0 others.0) ∙ cond-false (eqb c 92) _ _ others.1
plain_unit grammar.Url c cs h =
    let stays : ends_url c ≡ false = not-true _ h in
    cond-false (starts_escape (c ∷ cs)) _ _ (and_left _ _ (no_escape c stays)) ∙ cond-false (ends_url c) _ _ stays
  where
    no_escape : (c : ℕ) → ends_url c ≡ false → eqb c 92 ≡ false
    no_escape c h = grind (arith, nat_tests)
plain_unit grammar.Remnants c cs h =
    let parts = or_parts (eqb c 41) (eqb c 92) (not-true _ h) in
    cond-false (starts_escape (c ∷ cs)) _ _ (and_left _ _ parts.1) ∙ cond-false (eqb c 41) _ _ parts.0
plain_unit grammar.Comment c cs h = cond-false _ _ _ (and_left _ _ (not-true _ h))

plain_more : (g : Grammar) (c : ℕ) (cs : Characters) → is_plain g c ≡ true → run_of (unit_by g) (c ∷ cs) ≡ then_run (itself c) (run_of (unit_by g) cs)
plain_more g c cs h =
    let is : unit_by g (c ∷ cs) ≡ itself c = plain_unit g c cs h in
    let some : 0 < (unit_by g (c ∷ cs)).taken = rw is (omega arith) in
    run_of_more (unit_by g) (grammar_fits g) (c ∷ cs) some ∙ ap (λ (u : TextUnit). then_run u (run_of (unit_by g) (drop u.taken (c ∷ cs)))) is

-- so many plain characters, and the run of what is after them
pub record IsPlainFront (g : Grammar) (n : ℕ) (text : Characters) : Type 0 where
  pub taken : len_of (unit_by g) text ≡ n + len_of (unit_by g) (drop n text)
  pub said : said_of (unit_by g) text ≡ take n text ++ said_of (unit_by g) (drop n text)

pub plain_front : (g : Grammar) (n : ℕ) (text : Characters) → n ≤ prefix_len (is_plain g) text → IsPlainFront g n text
plain_front g zero text h = record { taken = omega arith; said = refl }
plain_front g (suc n) [] h = absurd (omega (arith, h))
plain_front g (suc n) (c ∷ cs) h =
    cond_both (is_plain g c) (1 + prefix_len (is_plain g) cs) 0 (λ k. suc n ≤ k → IsPlainFront g (suc n) (c ∷ cs)) (λ passes few. longer (plain_more g c cs passes) (plain_front g n cs (omega (arith, few))))
    (λ _ few. absurd (omega (arith, few))) h
  where
    longer : run_of (unit_by g) (c ∷ cs) ≡ then_run (itself c) (run_of (unit_by g) cs) → IsPlainFront g n cs → IsPlainFront g (suc n) (c ∷ cs)
    longer more rest = record {
      taken = omega (arith, ap (λ (r : Run). r.taken) more, rest.taken);
      said = ap (λ (r : Run). r.said) more ∙ ap (λ cs. c ∷ cs) rest.said;
    }

-- where the run has no character, it says nothing
pub said_none : (g : Grammar) (text : Characters) → len_of (unit_by g) text ≡ 0 → said_of (unit_by g) text ≡ []
said_none g text =
    run_any (unit_by g) (grammar_fits g) (λ text r. r.taken ≡ 0 → r.said ≡ []) (λ _ _ _. refl) (λ text more some _ none. absurd (omega (arith, some, none))) text

-- a run of plain characters says these
pub plain_said : (g : Grammar) (text front rest : Characters) (n : ℕ) → n ≡ prefix_len (is_plain g) text → front ≡ take n text → rest ≡ drop n text → len_of (unit_by g) rest ≡ 0 → front ≡ said_of (unit_by g) text
plain_said g text front rest n is_n is_front is_rest none =
    let said : said_of (unit_by g) text ≡ take n text ++ said_of (unit_by g) (drop n text) = (plain_front g n text (omega (arith, is_n))).said in
    let nothing : said_of (unit_by g) (drop n text) ≡ [] = said_none g (drop n text) (ap (λ cs. len_of (unit_by g) cs) (sym is_rest) ∙ none) in
    is_front ∙ (sym (append-nil (take n text)) ∙ (ap (λ cs. take n text ++ cs) (sym nothing) ∙ sym said))

pub plain_len : (g : Grammar) (text rest : Characters) (n more : ℕ) → n ≡ prefix_len (is_plain g) text → rest ≡ drop n text → more ≡ len_of (unit_by g) rest → n + more ≡ len_of (unit_by g) text
plain_len g text rest n more is_n is_rest is_more =
    let taken : len_of (unit_by g) text ≡ n + len_of (unit_by g) rest = rw is_rest (plain_front g n text (omega (arith, is_n))).taken in
    omega (arith, taken, is_more)

-- what is after the characters that pass begins with none
pub stops : (p : ℕ → Bool) (cs : Characters) → begins p (drop (prefix_len p cs) cs) ≡ false
stops p [] = refl
stops p (c ∷ cs) =
    let one : 1 + prefix_len p cs ≡ suc (prefix_len p cs) = omega arith in
    cond_both (p c) (1 + prefix_len p cs) 0 (λ k. begins p (drop k (c ∷ cs)) ≡ false) (λ _. ap (λ k. begins p (drop k (c ∷ cs))) one ∙ stops p cs) (λ fails. fails)

-- no unit is there
no_more : (g : Grammar) (text : Characters) → begins (is_plain g) text ≡ false → may_go_on g text ≡ false → (unit_by g text).taken ≡ 0
no_more grammar.Name [] h k = refl
no_more grammar.Name (c ∷ cs) h k = ap (λ (u : TextUnit). u.taken) (cond-false _ _ _ h ∙ cond-false _ _ _ (and_left _ _ k))
no_more (grammar.String quote) [] h k = refl
no_more (grammar.String quote) (c ∷ cs) h k = ap (λ (u : TextUnit). u.taken) (cond-true _ _ _ (ends c h k))
  where
    ends : (c : ℕ) → is_plain (grammar.String quote) c ≡ false → eqb c 92 ≡ false → (eqb c quote || eqb c 10) ≡ true
    ends c h k = grind (arith, nat_tests)
no_more grammar.Url [] h k = refl
no_more grammar.Url (c ∷ cs) h k = ap (λ (u : TextUnit). u.taken) (cond-false _ _ _ (and_left _ _ k) ∙ cond-true _ _ _ (not-false _ h))
no_more grammar.Remnants [] h k = refl
no_more grammar.Remnants (c ∷ cs) h k = ap (λ (u : TextUnit). u.taken) (cond-false _ _ _ (and_left _ _ k) ∙ cond-true _ _ _ (ends c h k))
  where
    ends : (c : ℕ) → is_plain grammar.Remnants c ≡ false → eqb c 92 ≡ false → eqb c 41 ≡ true
    ends c h k = grind (arith, nat_tests)
no_more grammar.Comment [] h k = refl
no_more grammar.Comment (c ∷ cs) h k = absurd (false≢true (sym k ∙ not-false _ h))

pub ends_there : (g : Grammar) (text rest : Characters) (n : ℕ) → n ≡ prefix_len (is_plain g) text → rest ≡ drop n text → may_go_on g rest ≡ false → len_of (unit_by g) rest ≡ 0
ends_there g text rest n is_n is_rest none =
    let stop : begins (is_plain g) rest ≡ false = rw (is_rest, is_n) (stops (is_plain g) text) in
    ap (λ (r : Run). r.taken) (run_of_none (unit_by g) rest (no_more g rest stop none))

-- so many characters of a run are read, and the others are left
pub record IsReadUpTo (unit : Characters → TextUnit) (text : Characters) (len : ℕ) (rest : Characters) : Type 0 where
  pub value : len + len_of unit rest ≡ len_of unit text
  pub inside : len + length rest ≡ length text

pub read_none : (unit : Characters → TextUnit) (text : Characters) → IsReadUpTo unit text 0 text
read_none unit text = record { value = omega arith; inside = omega arith }

pub read_plain : (g : Grammar) (text : Characters) (len : ℕ) (rest after : Characters) (n : ℕ) → IsReadUpTo (unit_by g) text len rest → n ≡ prefix_len (is_plain g) rest → after ≡ drop n rest → IsReadUpTo (unit_by g) text (len + n) after
read_plain g text len rest after n up is_n is_after =
    let more : n + len_of (unit_by g) after ≡ len_of (unit_by g) rest = plain_len g rest after n _ is_n is_after refl in
    let left : length after ≡ length rest - n = rw is_after (length-drop n rest) in
    record { value = omega (arith, more, up.value); inside = omega (arith, up.inside, left, is_n, prefix_len-le-length (is_plain g) rest) }

pub read_more : (g : Grammar) (text : Characters) (len : ℕ) (rest after : Characters) (taken : ℕ) → IsReadUpTo (unit_by g) text len rest → taken ≡ (unit_by g rest).taken → 0 < taken → after ≡ drop taken rest → IsReadUpTo (unit_by g) text (len + taken) after
read_more g text len rest after taken up is some is_after =
    let more : len_of (unit_by g) rest ≡ taken + len_of (unit_by g) after = rw (is_after, is) (ap (λ (r : Run). r.taken) (run_of_more (unit_by g) (grammar_fits g) rest (rw (← is) some))) in
    let left : length after ≡ length rest - taken = rw is_after (length-drop taken rest) in
    let fits : taken ≤ length rest = rw is (grammar_fits g rest) in
    record { value = omega (arith, more, up.value); inside = omega (arith, up.inside, left, fits) }

-- the run ends where a unit has no character
pub read_all : (g : Grammar) (text : Characters) (len : ℕ) (rest : Characters) → IsReadUpTo (unit_by g) text len rest → (unit_by g rest).taken ≡ 0 → len ≡ len_of (unit_by g) text
read_all g text len rest up none = omega (arith, up.value, ap (λ (r : Run). r.taken) (run_of_none (unit_by g) rest none))

-- what the run says, unit by unit
pub said_more : (g : Grammar) (rest : Characters) → 0 < (unit_by g rest).taken → said_of (unit_by g) rest ≡ option_to_list (unit_by g rest).said ++ said_of (unit_by g) (drop (unit_by g rest).taken rest)
said_more g rest some = ap (λ (r : Run). r.said) (run_of_more (unit_by g) (grammar_fits g) rest some)

pub said_on : (g : Grammar) (text rest after old new : Characters) (taken : ℕ) (said : Option ℕ) → old ++ said_of (unit_by g) rest ≡ said_of (unit_by g) text → record { taken = taken; said = said } ≡ unit_by g rest → 0 < taken → after ≡ drop taken rest → new ≡ old ++ option_to_list said → new ++ said_of (unit_by g) after ≡ said_of (unit_by g) text
said_on g text rest after old new taken said up is some is_after is_new =
    let taken_is : taken ≡ (unit_by g rest).taken = ap (λ (u : TextUnit). u.taken) is in
    let said_is : said ≡ (unit_by g rest).said = ap (λ (u : TextUnit). u.said) is in
    let more : said_of (unit_by g) rest ≡ option_to_list said ++ said_of (unit_by g) after = rw (is_after, said_is, taken_is) (said_more g rest (rw (← taken_is) some)) in
    rw is_new (append_assoc old (option_to_list said) (said_of (unit_by g) after) ∙ (ap (λ cs. old ++ cs) (sym more) ∙ up))
