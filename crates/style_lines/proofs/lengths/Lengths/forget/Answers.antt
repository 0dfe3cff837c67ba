use Rattle.std.proofs.Common.{◌≡◌, ℕ, List, [], Some, IfSome, refl, sym, ap, ◌∙◌, subst, arith}
use Rattle.std.proofs.lemmas.List.{drop_all}
use Rattle.style_lines.specs.KeptLines.{kept_length, some_length}
use Rattle.style_lines.proofs.KeptLemmas.{forgotten, forgotten_gone, forgotten_left}
use Rattle.style_lines.proofs.lengths.Lengths.forget.Goals as goal

all_forgotten : (now initial numbers rest : List ℕ) → rest ≡ [] → forgotten 0 rest now ≡ forgotten 0 numbers initial → now ≡ forgotten 0 numbers initial
all_forgotten now initial numbers rest none is = sym (ap (λ ns. forgotten 0 ns now) none) ∙ is

pub returns-clause-gone : goal.returns-clause-gone
returns-clause-gone c = λ x named.
    let done = all_forgotten c.loop-number.self.kept.items c.args.self.now.kept.items c.args.numbers.now _ (drop_all c.loop-number.number-index c.args.numbers.now (omega arith)) c.loop-number.invariant in
    ap (λ l. kept_length l x) done ∙ ap some_length (forgotten_gone 0 c.args.numbers.now c.args.self.now.kept.items x named)

pub returns-clause-left : goal.returns-clause-left
returns-clause-left c = λ x.
    let done = all_forgotten c.loop-number.self.kept.items c.args.self.now.kept.items c.args.numbers.now _ (drop_all c.loop-number.number-index c.args.numbers.now (omega arith)) c.loop-number.invariant in
    subst (λ l. IfSome (kept_length l x) (λ len. kept_length c.args.self.now.kept.items x ≡ Some len)) (sym done) (forgotten_left some_length 0 c.args.numbers.now c.args.self.now.kept.items x refl)
