-- Runs of units: they lie inside the text, and each begins with its first unit.
use Rattle.std.proofs.Common.{◌≡◌, ℕ, zero, suc, ◌+◌, ◌<◌, ◌≤◌, Bool, false, cond, eqb, ◌&&◌, ◌||◌, [], ◌∷◌, length, take, drop}
use Rattle.std.proofs.Common.{refl, sym, ap, ◌∙◌, arith, length-drop, length-take}
use Rattle.std.specs.Prelude.{option_to_list}
use Rattle.std.specs.List.{prefix_len}
use Rattle.std.proofs.lemmas.Bool.{cond_both, cond-true, cond-false, eqb-true}
use Rattle.std.proofs.lemmas.Bool.Decides.{nat_tests}
use Rattle.base_model.specs.Lists.{is_nil}
use Rattle.base_model.specs.Text.{Characters}
use Rattle.syntax_model.specs.Letters.{begins, is_blank, is_hex_digit, is_name_char}
use Rattle.syntax_model.specs.TextUnits.{Run, TextUnit, comment_unit, ends_url, escape, hex_len, len_of, name_unit, no_run, one_if, remnant_unit, run, run_of, starts_escape}
use Rattle.syntax_model.specs.TextUnits.{string_escape, string_unit, then_run, url_unit}

pub prefix_inside : (p : ℕ → Bool) (cs : Characters) → prefix_len p cs ≤ length cs
prefix_inside p [] = omega arith
prefix_inside p (c ∷ cs) =
    cond_both (p c) (1 + prefix_len p cs) 0 (λ n. n ≤ length (c ∷ cs)) (λ passes. omega (arith, prefix_inside p cs)) (λ fails. omega arith)

-- units lie inside the text
abbrev pub Fits : (Characters → TextUnit) → Type 0
Fits unit = (text : Characters) → (unit text).taken ≤ length text

pub is_some : (k : ℕ) → 0 < k → eqb k 0 ≡ false
is_some k some = grind (arith, nat_tests)

some_from : (k : ℕ) → eqb k 0 ≡ false → 0 < k
some_from k e = grind (arith, nat_tests)

module _ (unit : Characters → TextUnit) where
  -- where a unit has no character, the run ends
  run_ends : (n : ℕ) (text : Characters) → (unit text).taken ≡ 0 → run unit n text ≡ no_run
  run_ends zero text none = refl
  run_ends (suc n) text none = cond-true _ _ _ (ap (λ k. eqb k 0) none)

  -- the whole run: nothing where the first unit is none
  pub run_of_none : (text : Characters) → (unit text).taken ≡ 0 → run_of unit text ≡ no_run
  run_of_none text none = run_ends (length text) text none

  -- what is after a unit
  abbrev past : Characters → Characters
  past text = drop (unit text).taken text

  module _ (fits : Fits unit) where
    past_shorter : (text : Characters) (n : ℕ) → 0 < (unit text).taken → length text ≤ suc n → length (past text) ≤ n
    past_shorter text n some h = omega (arith, some, h, fits text, length-drop (unit text).taken text)

    -- What is true of no run where no unit begins, and of a run with a unit more, is true of a run of enough steps.
    module _ (P : Characters → Run → Type 0) (none : (text : Characters) → (unit text).taken ≡ 0 → P text no_run) where
      module _ (some : (text : Characters) (more : Run) → 0 < (unit text).taken → P (drop (unit text).taken text) more → P text (then_run (unit text) more)) where
        run_by : (n : ℕ) (text : Characters) → length text ≤ n → P text (run unit n text)
        run_by zero text h = none text (omega (arith, h, fits text))
        run_by (suc n) text h = cond_both (eqb (unit text).taken 0) _ _ (P text) (λ e. none text (eqb-true _ 0 e))
            (λ e. some text _ (some_from _ e) (run_by n (past text) (past_shorter text n (some_from _ e) h)))

        pub run_any : (text : Characters) → P text (run_of unit text)
        run_any text = run_by (length text) text (omega arith)

    -- a run lies inside the text
    pub run_inside : (text : Characters) → len_of unit text ≤ length text
    run_inside = run_any (λ text r. r.taken ≤ length text) (λ _ _. omega arith)
        (λ text more _ h. omega (arith, h, fits text, length-drop (unit text).taken text))

    -- enough steps are enough
    run_enough : (n : ℕ) (text : Characters) → length text ≤ n → (m : ℕ) → length text ≤ m → run unit n text ≡ run unit m text
    run_enough = run_by (λ text r. (m : ℕ) → length text ≤ m → r ≡ run unit m text) (λ text none m _. sym (run_ends m text none)) more
      where
        more : (text : Characters) (r : Run) → 0 < (unit text).taken → ((m : ℕ) → length (past text) ≤ m → r ≡ run unit m (past text))
            → (m : ℕ) → length text ≤ m → then_run (unit text) r ≡ run unit m text
        more text r some same zero h = absurd (omega (arith, some, fits text, h))
        more text r some same (suc m) h = ap (then_run (unit text)) (same m (past_shorter text m some h)) ∙ sym (cond-false _ _ _ (is_some _ some))

    -- else that unit and the run of what follows
    pub run_of_more : (text : Characters) → 0 < (unit text).taken
        → run_of unit text ≡ then_run (unit text) (run_of unit (drop (unit text).taken text))
    run_of_more [] some = absurd (omega (arith, some, fits []))
    run_of_more (c ∷ cs) some = cond-false _ _ _ (is_some _ some)
        ∙ ap (then_run (unit (c ∷ cs))) (run_enough (length cs) (past (c ∷ cs)) (past_shorter (c ∷ cs) (length cs) some (omega arith)) _ (omega arith))

-- each unit of the grammar lies inside the text
pub one_inside : (p : ℕ → Bool) (cs : Characters) → one_if p cs ≤ length cs
one_inside p [] = omega arith
one_inside p (c ∷ cs) = cond_both (p c) 1 0 (λ n. n ≤ length (c ∷ cs)) (λ _. omega arith) (λ _. omega arith)

escape_fits : (cs : Characters) → (escape cs).taken ≤ 1 + length cs
escape_fits [] = omega arith
escape_fits (c ∷ cs) =
    let digits : ℕ = hex_len (c ∷ cs) in
    cond_both (eqb digits 0) _ _ (λ (u : TextUnit). u.taken ≤ 1 + length (c ∷ cs)) (λ _. omega arith)
    (λ _. omega (arith, prefix_inside is_hex_digit (take 6 (c ∷ cs)), length-take 6 (c ∷ cs), length-drop digits (c ∷ cs), one_inside is_blank (drop digits (c ∷ cs))))

-- a unit is none, an escape or one character
module _ (c : ℕ) (cs : Characters) where
  abbrev Inside : TextUnit → Type 0
  Inside unit = unit.taken ≤ length (c ∷ cs)

  unit_inside : (b d : Bool) (first second third : TextUnit) → Inside first → Inside second → Inside third → Inside (cond b first (cond d second third))
  unit_inside b d first second third one two more = cond_both b _ _ Inside (λ _. one) (λ _. cond_both d _ _ Inside (λ _. two) (λ _. more))

pub name_fits : Fits name_unit
name_fits [] = omega arith
name_fits (c ∷ cs) = unit_inside c cs (is_name_char c) (starts_escape (c ∷ cs)) _ _ _ (omega arith) (omega (arith, escape_fits cs)) (omega arith)

string_escape_fits : (cs : Characters) → (string_escape cs).taken ≤ 1 + length cs
string_escape_fits [] = omega arith
string_escape_fits (c ∷ cs) =
    cond_both (eqb c 10) _ _ (λ (u : TextUnit). u.taken ≤ 1 + length (c ∷ cs)) (λ _. omega arith) (λ _. escape_fits (c ∷ cs))

pub string_fits : (quote : ℕ) → Fits (string_unit quote)
string_fits quote [] = omega arith
string_fits quote (c ∷ cs) = unit_inside c cs (eqb c quote || eqb c 10) (eqb c 92) _ _ _ (omega arith) (omega (arith, string_escape_fits cs)) (omega arith)

pub url_fits : Fits url_unit
url_fits [] = omega arith
url_fits (c ∷ cs) = unit_inside c cs (starts_escape (c ∷ cs)) (ends_url c) _ _ _ (omega (arith, escape_fits cs)) (omega arith) (omega arith)

pub remnant_fits : Fits remnant_unit
remnant_fits [] = omega arith
remnant_fits (c ∷ cs) = unit_inside c cs (starts_escape (c ∷ cs)) (eqb c 41) _ _ _ (omega (arith, escape_fits cs)) (omega arith) (omega arith)

pub comment_fits : Fits comment_unit
comment_fits [] = omega arith
comment_fits (c ∷ cs) =
    cond_both (eqb c 42 && begins (λ d. eqb d 47) cs) _ _ (λ (u : TextUnit). u.taken ≤ length (c ∷ cs)) (λ _. omega arith) (λ _. omega arith)

-- A unit has a character, and says one: so does an escape.
pub record IsFull (unit : TextUnit) : Type 0 where
  pub some : 0 < unit.taken
  pub says : is_nil (option_to_list unit.said) ≡ false

pub escape_full : (cs : Characters) → IsFull (escape cs)
escape_full [] = record { some = omega arith; says = refl }
escape_full (c ∷ cs) = cond_both (eqb (hex_len (c ∷ cs)) 0) _ _ IsFull
    (λ _. record { some = omega arith; says = refl }) (λ _. record { some = omega arith; says = refl })

pub escape_some : (cs : Characters) → 0 < (escape cs).taken
escape_some cs = (escape_full cs).some
