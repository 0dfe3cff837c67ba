-- From the parts of a value to the steps that its tokens make.
use Rattle.std.proofs.Common.{◌≡◌, ℕ, zero, suc, ◌<◌, ◌≤◌, List, [], ◌∷◌, ◌++◌, map, length, Bool, true, false, ◌&&◌, not, Option, Some, None, option_map, refl, sym, ap, ◌∙◌, arith, append_assoc, append-nil}
use Rattle.std.specs.Prelude.{if◌then◌else◌, ◌||◌}
use Rattle.base_model.specs.Options.{◌>>=◌}
use Rattle.base_model.specs.Lists.{is_nil}
use Rattle.base_model.specs.Text.{Characters}
use Rattle.syntax_model.specs.Token.{Said, TokenKind}
use Rattle.syntax_model.specs.TokenKinds.{is_white, is_comma, is_close_round}
use Rattle.syntax_model.specs.Brackets.{Bracket, opened_by, closed_by, same_bracket, with_opened, without_closed}
use Rattle.custom_model.specs.Value.{CustomValue}
use Rattle.custom_model.specs.Parts.{Parts, Reading, Reader, after, done, plain, reference, with_fallback, is_name, is_unfit, is_var, named_by, open_beyond, parts, parts_by, parts_within, var_by, without_white}
use Rattle.custom_model.specs.Steps.{Step, token, alone, begins, ends, steps, steps_in}
use Rattle.css_tokens.specs.Opened.{Opened, Read, anywhere, in_var, after_name, beyond, brackets_in, finished, first_then, invalid, is_in_fallback, outside, steps_from, whole, with_bracket, without_bracket}

-- what is open outside the innermost fallback, with this one itself
abbrev around : Bool → Opened → Opened
around true outer = None ∷ outer
around false outer = []

abbrev all_open : List Bracket → Bool → Opened → Opened
all_open pending within outer = map (λ b. Some b) pending ++ around within outer

in_fallback_is : (pending : List Bracket) (within : Bool) (outer : Opened) → is_in_fallback (all_open pending within outer) ≡ (within && is_nil pending)
in_fallback_is [] true outer = refl
in_fallback_is [] false outer = refl
in_fallback_is (b ∷ pending) true outer = refl
in_fallback_is (b ∷ pending) false outer = refl

brackets_are : (pending : List Bracket) (within : Bool) (outer : Opened) → brackets_in (all_open pending within outer) ≡ pending
brackets_are [] true outer = refl
brackets_are [] false outer = refl
brackets_are (b ∷ pending) within outer = ap (λ l. b ∷ l) (brackets_are pending within outer)

closed_is : (pending : List Bracket) (within : Bool) (outer : Opened) (closer : Option Bracket)
    → without_bracket (all_open pending within outer) closer ≡ all_open (without_closed pending closer) within outer
closed_is pending within outer None = refl
closed_is [] true outer (Some b) = refl
closed_is [] false outer (Some b) = refl
closed_is (innermost ∷ pending) within outer (Some b) = elim (same_bracket innermost b) as (λ same. ◌≡◌ {A = Opened} (if same then all_open pending within outer else (Some innermost ∷ all_open pending within outer)) (all_open (if same then pending else innermost ∷ pending) within outer)) [
  | true ↦ refl
  | false ↦ refl
]

opened_is : (pending : List Bracket) (within : Bool) (outer : Opened) (opener : Option Bracket)
    → with_bracket opener (all_open pending within outer) ≡ all_open (with_opened opener pending) within outer
opened_is pending within outer None = refl
opened_is pending within outer (Some b) = refl

beyond_is : (pending : List Bracket) (within : Bool) (outer : Opened) (kind : TokenKind)
    → beyond (all_open pending within outer) kind ≡ all_open (open_beyond pending kind) within outer
beyond_is pending within outer kind =
    ap (with_bracket (opened_by kind)) (closed_is pending within outer (closed_by kind))
    ∙ opened_is (without_closed pending (closed_by kind)) within outer (opened_by kind)

is_empty_is : (pending : List Bracket) (within : Bool) (outer : Opened) → is_nil (all_open pending within outer) ≡ not (within || not (is_nil pending))
is_empty_is [] true outer = refl
is_empty_is [] false outer = refl
is_empty_is (b ∷ pending) true outer = refl
is_empty_is (b ∷ pending) false outer = refl

ending_is : (pending : List Bracket) (within : Bool) (outer : Opened) (closes : Bool)
    → (is_in_fallback (all_open pending within outer) && closes) ≡ (within && (is_nil pending && closes))
ending_is [] true outer closes = refl
ending_is [] false outer closes = refl
ending_is (b ∷ pending) true outer closes = refl
ending_is (b ∷ pending) false outer closes = refl

-- after `var(`, and after the name in it, whitespace is skipped

abbrev pub named_from : Opened → Characters → List Said → Read
named_from openers name [] = invalid
named_from openers name (said ∷ tokens) =
    if is_close_round said.kind then first_then (alone name) (steps_from anywhere openers tokens)
    else if is_comma said.kind then first_then (begins name) (steps_from anywhere (None ∷ openers) tokens)
    else invalid

abbrev pub var_from : Opened → List Said → Read
var_from openers [] = invalid
var_from openers (said ∷ tokens) = if is_name said then steps_from (after_name said.name) openers tokens else invalid

pub named_is : (openers : Opened) (name : Characters) (tokens : List Said) → steps_from (after_name name) openers tokens ≡ named_from openers name (without_white tokens)
unfolding steps_from
named_is openers name [] = refl
named_is openers name (said ∷ tokens) = elim (is_white said.kind) as (λ white. ◌≡◌ {A = Read} (if white then steps_from (after_name name) openers tokens else named_from openers name (said ∷ tokens)) (named_from openers name (if white then without_white tokens else said ∷ tokens))) [
  | true ↦ named_is openers name tokens
  | false ↦ refl
]

pub var_is : (openers : Opened) (tokens : List Said) → steps_from in_var openers tokens ≡ var_from openers (without_white tokens)
unfolding steps_from
var_is openers [] = refl
var_is openers (said ∷ tokens) = elim (is_white said.kind) as (λ white. ◌≡◌ {A = Read} (if white then steps_from in_var openers tokens else var_from openers (said ∷ tokens)) (var_from openers (if white then without_white tokens else said ∷ tokens))) [
  | true ↦ var_is openers tokens
  | false ↦ refl
]

-- what a reading leaves is no longer than so many tokens
abbrev IsWithin : ℕ → Reading → Type 0
IsWithin most None = Unit {0}
IsWithin most (Some r) = length r.1 ≤ most

after_within : (most : ℕ) (before : Parts → Parts) (r : Reading) → IsWithin most r → IsWithin most (after before r)
after_within most before None h = tt
after_within most before (Some r) h = h

wider : (less most : ℕ) (r : Reading) → less ≤ most → IsWithin less r → IsWithin most r
wider less most None few h = tt
wider less most (Some r) few h = omega arith

module _ (again : Reader) (shrinks : (within : Bool) (pending : List Bracket) (tokens : List Said) → IsWithin (length tokens) (again within pending tokens)) where
  fallback_within : (within : Bool) (pending : List Bracket) (name : Characters) (most : ℕ) (r : Reading) → IsWithin most r
      → IsWithin most (r >>= λ fallback. after (with_fallback name fallback.0) (again within pending fallback.1))
  fallback_within within pending name most None h = tt
  fallback_within within pending name most (Some r) h =
      after_within most (with_fallback name r.0) (again within pending r.1) (wider (length r.1) most _ h (shrinks within pending r.1))

  named_within : (within : Bool) (pending : List Bracket) (name : Characters) (tokens : List Said) → IsWithin (length tokens) (named_by again within pending name tokens)
  named_within within pending name [] = tt
  named_within within pending name (said ∷ tokens) =
      elim (is_close_round said.kind) as (λ closes. IsWithin (suc (length tokens)) (if closes then after (reference name) (again within pending tokens) else (if is_comma said.kind then (again true [] tokens >>= λ fallback. after (with_fallback name fallback.0) (again within pending fallback.1)) else None))) [
        | true ↦ after_within _ (reference name) _ (wider _ _ _ (omega arith) (shrinks within pending tokens))
        | false ↦ elim (is_comma said.kind) as (λ comma. IsWithin (suc (length tokens)) (if comma then (again true [] tokens >>= λ fallback. after (with_fallback name fallback.0) (again within pending fallback.1)) else None)) [
          | true ↦ fallback_within within pending name _ _ (wider _ _ _ (omega arith) (shrinks true [] tokens))
          | false ↦ tt
        ]
      ]

  without_white_shorter : (tokens : List Said) → length (without_white tokens) ≤ length tokens
  without_white_shorter [] = omega arith
  without_white_shorter (said ∷ tokens) = elim (is_white said.kind) as (λ white. length (if white then without_white tokens else said ∷ tokens) ≤ suc (length tokens)) [
    | true ↦ omega (arith, without_white_shorter tokens)
    | false ↦ omega arith
  ]

  var_within : (within : Bool) (pending : List Bracket) (tokens : List Said) → IsWithin (length tokens) (var_by again within pending tokens)
  var_within within pending [] = tt
  var_within within pending (said ∷ tokens) =
      elim (is_name said) as (λ is. IsWithin (suc (length tokens)) (if is then named_by again within pending said.name (without_white tokens) else None)) [
        | true ↦ wider _ _ _ (omega (arith, without_white_shorter tokens)) (named_within within pending said.name (without_white tokens))
        | false ↦ tt
      ]

  parts_are_within : (within : Bool) (pending : List Bracket) (tokens : List Said) → IsWithin (length tokens) (parts_by again within pending tokens)
  parts_are_within within pending [] = elim (within || not (is_nil pending)) as (λ lacks. IsWithin 0 (if lacks then None else Some (done, []))) [ true ↦ tt | false ↦ omega arith ]
  parts_are_within within pending (said ∷ tokens) =
      elim (within && (is_nil pending && is_close_round said.kind)) as (λ ending. IsWithin (suc (length tokens)) (if ending then Some (done, tokens) else if is_unfit pending said.kind then None else if is_var said then var_by again within pending (without_white tokens) else after (plain said) (again within (open_beyond pending said.kind) tokens))) [
        | true ↦ omega arith
        | false ↦ elim (is_unfit pending said.kind) as (λ unfit. IsWithin (suc (length tokens)) (if unfit then None else if is_var said then var_by again within pending (without_white tokens) else after (plain said) (again within (open_beyond pending said.kind) tokens))) [
          | true ↦ tt
          | false ↦ elim (is_var said) as (λ var. IsWithin (suc (length tokens)) (if var then var_by again within pending (without_white tokens) else after (plain said) (again within (open_beyond pending said.kind) tokens))) [
            | true ↦ wider _ _ _ (omega (arith, without_white_shorter tokens)) (var_within within pending (without_white tokens))
            | false ↦ after_within _ (plain said) _ (wider _ _ _ (omega arith) (shrinks within (open_beyond pending said.kind) tokens))
          ]
        ]
      ]

within_all : (most : ℕ) (within : Bool) (pending : List Bracket) (tokens : List Said) → IsWithin (length tokens) (parts_within most within pending tokens)
within_all zero within pending tokens = tt
within_all (suc most) within pending tokens = parts_are_within (parts_within most) (within_all most) within pending tokens

-- the steps after the parts of a value, or of a fallback that is in it
abbrev before : Step → Option (List Step) → Option (List Step)
before step steps = option_map (λ rest. step ∷ rest) steps

abbrev after_end : Bool → Opened → List Said → Option (List Step)
after_end true outer tokens = before ends (whole (steps_from anywhere outer tokens))
after_end false outer tokens = Some []

abbrev followed : Bool → Opened → Reading → Option (List Step)
followed within outer None = None
followed within outer (Some r) = option_map (λ rest. steps r.0 ++ rest) (after_end within outer r.1)

twice : (f g h : List Step → List Step) → ((s : List Step) → f (g s) ≡ h s) → (o : Option (List Step)) → option_map f (option_map g o) ≡ option_map h o
twice f g h e None = refl
twice f g h e (Some s) = ap Some (e s)

followed_plain : (within : Bool) (outer : Opened) (said : Said) (r : Reading) → before (token said) (followed within outer r) ≡ followed within outer (after (plain said) r)
followed_plain within outer said None = refl
followed_plain within outer said (Some r) = twice _ _ _ (λ s. refl) (after_end within outer r.1)

followed_reference : (within : Bool) (outer : Opened) (name : Characters) (r : Reading) → before (alone name) (followed within outer r) ≡ followed within outer (after (reference name) r)
followed_reference within outer name None = refl
followed_reference within outer name (Some r) = twice _ _ _ (λ s. refl) (after_end within outer r.1)

followed_fallback : (within : Bool) (outer : Opened) (name : Characters) (fallback : Parts) (r : Reading)
    → before (begins name) (option_map (λ rest. steps fallback ++ rest) (before ends (followed within outer r))) ≡ followed within outer (after (with_fallback name fallback) r)
followed_fallback within outer name fallback None = refl
followed_fallback within outer name fallback (Some r) =
    ap (λ o. before (begins name) (option_map (λ rest. steps fallback ++ rest) o)) (twice (λ s. ends ∷ s) (λ s. steps r.0 ++ s) (λ s. ends ∷ (steps r.0 ++ s)) (λ s. refl) (after_end within outer r.1))
    ∙ ap (before (begins name)) (twice (λ s. steps fallback ++ s) (λ s. ends ∷ (steps r.0 ++ s)) (λ s. steps fallback ++ (ends ∷ (steps r.0 ++ s))) (λ s. refl) (after_end within outer r.1))
    ∙ twice (λ s. begins name ∷ s) (λ s. steps fallback ++ (ends ∷ (steps r.0 ++ s))) (λ s. (begins name ∷ (steps fallback ++ (ends ∷ steps r.0))) ++ s) (λ s. ap (λ l. begins name ∷ l) (sym (append_assoc (steps fallback) (ends ∷ steps r.0) s))) (after_end within outer r.1)

itself : (o : Option (List Step)) → o ≡ option_map (λ rest. [] ++ rest) o
itself None = refl
itself (Some s) = refl

ending : (within : Bool) (outer : Opened) (pending : List Bracket) (closes : Bool) (tokens : List Said) → (within && (is_nil pending && closes)) ≡ true
    → before ends (whole (steps_from anywhere (outside (all_open pending within outer)) tokens)) ≡ followed within outer (Some (done, tokens))
ending true outer [] closes tokens e = itself _
ending true outer (b ∷ pending) closes tokens e = cc
ending false outer pending closes tokens e = cc

module _ (again : Reader) (most : ℕ) (shrinks : (within : Bool) (pending : List Bracket) (tokens : List Said) → IsWithin (length tokens) (again within pending tokens))
    (reads : (within : Bool) (outer : Opened) (pending : List Bracket) (tokens : List Said) → length tokens < most → whole (steps_from anywhere (all_open pending within outer) tokens) ≡ followed within outer (again within pending tokens)) where
  fallback_reads : (within : Bool) (outer : Opened) (pending : List Bracket) (name : Characters) (tokens : List Said) → length tokens < most → (r : Reading) → IsWithin (length tokens) r
      → before (begins name) (followed true (all_open pending within outer) r) ≡ followed within outer (r >>= λ fallback. after (with_fallback name fallback.0) (again within pending fallback.1))
  fallback_reads within outer pending name tokens few None h = refl
  fallback_reads within outer pending name tokens few (Some r) h =
      ap (λ o. before (begins name) (option_map (λ rest. steps r.0 ++ rest) (before ends o))) (reads within outer pending r.1 (omega arith))
      ∙ followed_fallback within outer name r.0 (again within pending r.1)

  named_reads : (within : Bool) (outer : Opened) (pending : List Bracket) (name : Characters) (tokens : List Said) → length tokens < suc most
      → whole (named_from (all_open pending within outer) name tokens) ≡ followed within outer (named_by again within pending name tokens)
  named_reads within outer pending name [] few = refl
  named_reads within outer pending name (said ∷ tokens) few =
      elim (is_close_round said.kind) as (λ closes. whole (if closes then first_then (alone name) (steps_from anywhere (all_open pending within outer) tokens) else (if is_comma said.kind then first_then (begins name) (steps_from anywhere (None ∷ all_open pending within outer) tokens) else invalid)) ≡ followed within outer (if closes then after (reference name) (again within pending tokens) else (if is_comma said.kind then (again true [] tokens >>= λ fallback. after (with_fallback name fallback.0) (again within pending fallback.1)) else None))) [
        | true ↦ ap (before (alone name)) (reads within outer pending tokens (omega arith)) ∙ followed_reference within outer name _
        | false ↦ elim (is_comma said.kind) as (λ comma. whole (if comma then first_then (begins name) (steps_from anywhere (None ∷ all_open pending within outer) tokens) else invalid) ≡ followed within outer (if comma then (again true [] tokens >>= λ fallback. after (with_fallback name fallback.0) (again within pending fallback.1)) else None)) [
          | true ↦
              ap (before (begins name)) (reads true (all_open pending within outer) [] tokens (omega arith))
              ∙ fallback_reads within outer pending name tokens (omega arith) (again true [] tokens) (shrinks true [] tokens)
          | false ↦ refl
        ]
      ]

  var_reads : (within : Bool) (outer : Opened) (pending : List Bracket) (tokens : List Said) → length tokens < suc most
      → whole (var_from (all_open pending within outer) tokens) ≡ followed within outer (var_by again within pending tokens)
  var_reads within outer pending [] few = refl
  var_reads within outer pending (said ∷ tokens) few =
      elim (is_name said) as (λ is. whole (if is then steps_from (after_name said.name) (all_open pending within outer) tokens else invalid) ≡ followed within outer (if is then named_by again within pending said.name (without_white tokens) else None)) [
        | true ↦ ap whole (named_is (all_open pending within outer) said.name tokens)
            ∙ named_reads within outer pending said.name (without_white tokens) (omega (arith, without_white_shorter again shrinks tokens))
        | false ↦ refl
      ]

  parts_read : (within : Bool) (outer : Opened) (pending : List Bracket) (tokens : List Said) → length tokens < suc most
      → whole (steps_from anywhere (all_open pending within outer) tokens) ≡ followed within outer (parts_by again within pending tokens)
  unfolding steps_from
  parts_read within outer pending [] few = rw (is_empty_is pending within outer) (at_end within (is_nil pending))
    where
      at_end : (within none : Bool) → whole (if not (within || not none) then finished else invalid) ≡ followed within outer (if within || not none then None else Some (done, []))
      at_end true none = refl
      at_end false true = refl
      at_end false false = refl
  parts_read within outer pending (said ∷ tokens) few =
      rw (ending_is pending within outer (is_close_round said.kind), brackets_are pending within outer, beyond_is pending within outer said.kind)
      (elim (within && (is_nil pending && is_close_round said.kind)) as (λ ending. (within && (is_nil pending && is_close_round said.kind)) ≡ ending → whole (if ending then first_then ends (steps_from anywhere (outside (all_open pending within outer)) tokens) else if is_unfit pending said.kind then invalid else if is_var said then steps_from in_var (all_open pending within outer) tokens else first_then (token said) (steps_from anywhere (all_open (open_beyond pending said.kind) within outer) tokens)) ≡ followed within outer (if ending then Some (done, tokens) else if is_unfit pending said.kind then None else if is_var said then var_by again within pending (without_white tokens) else after (plain said) (again within (open_beyond pending said.kind) tokens))) [
        | true ↦ λ e. ending within outer pending (is_close_round said.kind) tokens e
        | false ↦ λ e. elim (is_unfit pending said.kind) as (λ unfit. whole (if unfit then invalid else if is_var said then steps_from in_var (all_open pending within outer) tokens else first_then (token said) (steps_from anywhere (all_open (open_beyond pending said.kind) within outer) tokens)) ≡ followed within outer (if unfit then None else if is_var said then var_by again within pending (without_white tokens) else after (plain said) (again within (open_beyond pending said.kind) tokens))) [
          | true ↦ refl
          | false ↦ elim (is_var said) as (λ var. whole (if var then steps_from in_var (all_open pending within outer) tokens else first_then (token said) (steps_from anywhere (all_open (open_beyond pending said.kind) within outer) tokens)) ≡ followed within outer (if var then var_by again within pending (without_white tokens) else after (plain said) (again within (open_beyond pending said.kind) tokens))) [
            | true ↦ ap whole (var_is (all_open pending within outer) tokens) ∙ var_reads within outer pending (without_white tokens) (omega (arith, without_white_shorter again shrinks tokens))
            | false ↦ ap (before (token said)) (reads within outer (open_beyond pending said.kind) tokens (omega arith)) ∙ followed_plain within outer said _
          ]
        ]
      ] refl)

read_all : (most : ℕ) (within : Bool) (outer : Opened) (pending : List Bracket) (tokens : List Said) → length tokens < most
    → whole (steps_from anywhere (all_open pending within outer) tokens) ≡ followed within outer (parts_within most within pending tokens)
read_all zero within outer pending tokens few = absurd (omega arith)
read_all (suc most) within outer pending tokens few = parts_read (parts_within most) most (within_all most) (read_all most) within outer pending tokens few

followed_alone : (r : Reading) → followed false [] r ≡ option_map steps (option_map (λ r. r.0) r)
followed_alone None = refl
followed_alone (Some r) = ap Some (append-nil (steps r.0))

-- where nothing is open, the steps are those of the value
pub steps_are : (tokens : CustomValue) → whole (steps_from anywhere [] tokens) ≡ steps_in tokens
unfolding steps_in parts
steps_are tokens = read_all (suc (length tokens)) false [] [] tokens (omega arith) ∙ followed_alone _
