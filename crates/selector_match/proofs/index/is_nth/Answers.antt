use Rattle.std.proofs.Common.{rules, ◌≡◌, pos, ◌-ℤ◌, FitsSigned, to_z, of_z, w32, w64, arith}
use Rattle.std.proofs.lemmas.Int.{ints}
use Rattle.selector_types.specs.SimpleView.{formula_of}
use Rattle.selector_match.proofs.NthLemmas.{is_nth-test}
use Rattle.selector_match.proofs.index.is_nth.Goals as goal

pub returns : goal.returns
returns c =
    let step_fits : FitsSigned w32 c.args.formula.a = search rules in
    let first_fits : FitsSigned w32 c.args.formula.b = search rules in
    let step : to_z w64 (of_z w64 c.from-2.result) ≡ c.args.formula.a = omega (arith, ints) in
    let gap : to_z w64 (of_z w64 (to_z w64 c.args.index -ℤ to_z w64 (of_z w64 c.from.result))) ≡ pos c.args.index -ℤ c.args.formula.b = omega (arith, ints) in
    is_nth-test (formula_of c.args.formula) c.args.index _ _ c.is_whole.result step gap c.is_whole.ensures
