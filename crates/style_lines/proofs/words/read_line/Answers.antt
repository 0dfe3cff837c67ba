use Rattle.std.proofs.Common.{◌≡◌, Option, Some, None, Result, Ok, Err, IfOk, IfSome, map, string_bytes, sym, ap, ◌∙◌, subst}
use Rattle.std.specs.Option.{ok_or}
use Rattle.clap.specs.Faults.{is_simple_and_free}
use Rattle.clap.specs.Simple.{is_simple}
use Rattle.style_lines.specs.Words.{IsInRange, line_of}
use Rattle.style_lines.proofs.WordLemmas.{line_none, line_taken}
use Rattle.style_lines.proofs.words.read_line.Goals as goal

pub returns-in_default-clause-none : goal.returns-in_default-clause-none
returns-in_default-clause-none c = λ is. cc

-- what was found, as a result
found : {X E : Type 0} (o line : Option X) (why : E) (r : Result X E) → r ≡ ok_or o why → line ≡ o → IfOk r (λ x. line ≡ Some x)
found o line why (Err e) is same = tt
found None line why (Ok x) is same = cc
found (Some y) line why (Ok x) is same = let one : Some y ≡ Some x = cc in same ∙ one

none_found : {X E : Type 0} (o line : Option X) (why : E) (r : Result X E) → r ≡ ok_or o why → line ≡ o → r ≡ Err why → line ≡ None
none_found None line why r is same none = same
none_found (Some y) line why r is same none = absurd (cc)

within : {X E : Type 0} (P : X → Type 0) (o : Option X) (why : E) (r : Result X E) → r ≡ ok_or o why → IfSome o P → IfOk r P
within P None why r is all = subst (λ q. IfOk q P) (sym is) tt
within P (Some x) why r is all = subst (λ q. IfOk q P) (sym is) all

module _ (c : goal.Joined-matches) where
  taken : line_of (map string_bytes c.args.words.now) ≡ c.line_in.result
  taken =
      let ran = c.in-Ok-try_get_matches_from.ensures in
      let is = c.in-Ok.ensures in
      line_taken _ _ _ is (ran.kinds (ap is_simple_and_free is ∙ c.style_command_is_simple.ensures.faults))
      (ran.matches (ap is_simple is ∙ c.style_command_is_simple.ensures.matches)).1 ∙ sym c.line_in.ensures.line

pub returns-in-Ok-try_get_matches_from-clause-line : goal.returns-in-Ok-try_get_matches_from-clause-line
returns-in-Ok-try_get_matches_from-clause-line c = found c.line_in.result _ _ c.ok_or.result c.ok_or.ensures.value (taken c)

pub returns-in-Ok-try_get_matches_from-clause-none : goal.returns-in-Ok-try_get_matches_from-clause-none
returns-in-Ok-try_get_matches_from-clause-none c = none_found c.line_in.result _ _ c.ok_or.result c.ok_or.ensures.value (taken c)

pub returns-in-Ok-try_get_matches_from-clause-ranges : goal.returns-in-Ok-try_get_matches_from-clause-ranges
returns-in-Ok-try_get_matches_from-clause-ranges c = within IsInRange c.line_in.result _ c.ok_or.result c.ok_or.ensures.value c.line_in.ensures.ranges

pub returns-in-Err-clause-none : goal.returns-in-Err-clause-none
returns-in-Err-clause-none c = λ none.
    let is = c.in-Ok.ensures in
    let ran = c.in-Err.ensures in
    line_none _ _ _ is (λ memory. let told = c.words_error.ensures.memory (c.kind.ensures ∙ memory) in cc) (ran.kinds (ap is_simple_and_free is ∙ c.style_command_is_simple.ensures.faults))
