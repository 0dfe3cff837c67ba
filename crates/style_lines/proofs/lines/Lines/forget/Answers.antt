use Rattle.std.proofs.Common.{◌≡◌, ℕ, List, [], Option, None, Some, IfSome, refl, sym, ap, ◌∙◌, subst, arith}
use Rattle.std.proofs.lemmas.List.{drop_all}
use Rattle.style_lines.specs.KeptLines.{kept_line}
use Rattle.style_lines.proofs.KeptLemmas.{forgotten, forgotten_gone, forgotten_left}
use Rattle.style_lines.proofs.lines.Lines.forget.Goals as goal

all_forgotten : (lines initial : List (Option (List ℕ))) (numbers rest : List ℕ) → rest ≡ [] → forgotten None rest lines ≡ forgotten None numbers initial → lines ≡ forgotten None numbers initial
all_forgotten lines initial numbers rest none is = sym (ap (λ ns. forgotten None ns lines) none) ∙ is

pub returns-else-dead-self-clause-gone : goal.returns-else-dead-self-clause-gone
returns-else-dead-self-clause-gone c = λ x named.
    let done = all_forgotten c.loop-number.self c.args.self.now c.args.numbers.now _ (drop_all c.loop-number.number-index c.args.numbers.now (omega arith)) c.loop-number.invariant in
    ap (λ l. kept_line l x) done ∙ forgotten_gone None c.args.numbers.now c.args.self.now x named

pub returns-else-dead-self-clause-left : goal.returns-else-dead-self-clause-left
returns-else-dead-self-clause-left c = λ x.
    let done = all_forgotten c.loop-number.self c.args.self.now c.args.numbers.now _ (drop_all c.loop-number.number-index c.args.numbers.now (omega arith)) c.loop-number.invariant in
    subst (λ l. IfSome (kept_line l x) (λ line. kept_line c.args.self.now x ≡ Some line)) (sym done) (forgotten_left (λ o. o) None c.args.numbers.now c.args.self.now x refl)
