use Rattle.std.proofs.Common.{sym, subst, arith}
use Rattle.selector_match.specs.TwoWay.{IsCut}
use Rattle.selector_match.proofs.TwoWayLemmas.{IsCut-known, IsCut-unknown}
use Rattle.selector_match.proofs.two_way.cut_of.Goals as goal

pub returns-then-same_to-place : goal.returns-then-same_to-place
returns-then-same_to-place c =
    let part = c.args.part.now in
    let place = c.later_suffix-place.result.place in
    let differs = c.if-same_to-place.true in
    subst (λ n. IsCut part (record { place = place; shift = n; known = 0 })) (sym c.max.ensures)
    (IsCut-unknown part place c.later_suffix-place.result.period c.later_suffix-place.ensures c.same_to.result differs (c.same_to.ensures.differs differs))

pub returns-else-same_to-place : goal.returns-else-same_to-place
returns-else-same_to-place c =
    let all = c.if-same_to-place.false in
    IsCut-known c.args.part.now c.later_suffix-place.result.place c.later_suffix-place.result.period c.later_suffix-place.ensures
    (λ k l. c.same_to.ensures.same k (omega arith) (omega arith))
