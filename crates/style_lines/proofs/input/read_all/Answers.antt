use Rattle.std.proofs.Common.{◌≤◌, ◌+◌, ℕ, List, length, refl, arith}
use Rattle.std.proofs.KnownBytes.{Consumes-kept}
use Rattle.base_model.specs.Limits.{input_limit}
use Rattle.style_lines.proofs.Told.{LosesFront-read}
use Rattle.style_lines.proofs.input.read_all.Goals as goal

pub returns-in_err-count-clause-most : goal.returns-in_err-count-clause-most
returns-in_err-count-clause-most g c =
    let items : List ℕ = c.reading.found.items in
    let few : length items ≤ input_limit + 1 = omega (arith, c.reading.invariant.fits) in
    (length items, few, LosesFront-read _ _ items _ refl (Consumes-kept _ (g.S.Source.left c.reading.source) _ items c.reading.invariant.taken c.in_err-count.ensures.err))

pub returns-in_err-count-clause-fault : goal.returns-in_err-count-clause-fault
returns-in_err-count-clause-fault g c = λ _.
    let items : List ℕ = c.reading.found.items in
    (length items, c.reading.invariant.fits, LosesFront-read _ _ items _ refl (Consumes-kept _ (g.S.Source.left c.reading.source) _ items c.reading.invariant.taken c.in_err-count.ensures.err))

pub returns-then-count-eq0-clause-most : goal.returns-then-count-eq0-clause-most
returns-then-count-eq0-clause-most g c =
    let items : List ℕ = c.read_piece.new.found.items in
    (length items, omega (arith, c.reading.invariant.fits, c.in_ok-count.ensures.grown, c.if-count-eq0.true), LosesFront-read _ _ items _ refl (c.in_ok-count.ensures.read _ c.reading.invariant.taken))

pub returns-then-len-gt-INPUT_LIMIT-clause-too_long : goal.returns-then-len-gt-INPUT_LIMIT-clause-too_long
returns-then-len-gt-INPUT_LIMIT-clause-too_long g c = λ _. LosesFront-read _ _ c.read_piece.new.found.items _ (omega (arith, c.in_ok-count.ensures.bound, c.in_ok-count.ensures.grown))
    (c.in_ok-count.ensures.read _ c.reading.invariant.taken)

pub returns-then-len-gt-INPUT_LIMIT-clause-most : goal.returns-then-len-gt-INPUT_LIMIT-clause-most
returns-then-len-gt-INPUT_LIMIT-clause-most g c = (
  input_limit + 1,
  omega arith,
  LosesFront-read _ _ c.read_piece.new.found.items _ (omega (arith, c.in_ok-count.ensures.bound, c.in_ok-count.ensures.grown))
      (c.in_ok-count.ensures.read _ c.reading.invariant.taken),
)
