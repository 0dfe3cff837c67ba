use Rattle.std.proofs.Common.{◌+◌, [], Some, refl, ap, sym, ◌∙◌, subst, arith}
use Rattle.std.proofs.lemmas.Option.{slice_get-get_or}
use Rattle.cascade_core.specs.Declarations.{in_order}
use Rattle.cascade_core.specs.View.{lent_of}
use Rattle.cascade_core.specs.Won.{AreWinners}
use Rattle.cascade_core.proofs.WonLemmas.{one_more, at_first, at_second}
use Rattle.cascade_core.proofs.places.Places.of.Goals as goal

pub loop-d-init : goal.loop-d-init
loop-d-init c = (c.none-places.ensures (in_order c.args.declarations), refl)

pub add-requires : goal.add-requires
add-requires c =
    let declarations = c.args.declarations in
    let i = c.loop-d.d-index in
    at_first declarations.matched.now declarations.attached.now c.in_ok-place.place i (omega (arith, c.in_ok-place.ensures, c.loop-d.invariant.1)) c.loop-d-test.true
    ∙ (slice_get-get_or declarations.matched.now i c.d-item.result c.loop-d-test.true
    ∙ ap Some (sym c.d-item.is))

pub loop-d-preserved : goal.loop-d-preserved
loop-d-preserved c =
    let more = one_more lent_of [] c.args.declarations.matched.now c.loop-d.d-index c.d-item.result c.loop-d-test.true c.d-item.is in (
      subst (AreWinners (in_order c.args.declarations) c.add.new.self) more (c.add.ensures _ c.loop-d.invariant.0),
      c.in_ok-place.ensures ∙ ap (λ n. n + 1) c.loop-d.invariant.1,
    )

pub add-requires-in-loop-d-2 : goal.add-requires-in-loop-d-2
add-requires-in-loop-d-2 c =
    let declarations = c.args.declarations in
    let i = c.loop-d-2.d-index in
    at_second declarations.matched.now declarations.attached.now c.in_ok-place-2.place i (omega (arith, c.in_ok-place-2.ensures, c.loop-d-2.invariant.1))
    ∙ (slice_get-get_or declarations.attached.now i c.d-item-in-loop-d-2.result c.loop-d-2-test.true
    ∙ ap Some (sym c.d-item-in-loop-d-2.is))

pub loop-d-2-preserved : goal.loop-d-2-preserved
loop-d-2-preserved c =
    let declarations = c.args.declarations in
    let more = one_more lent_of declarations.matched.now declarations.attached.now c.loop-d-2.d-index c.d-item-in-loop-d-2.result c.loop-d-2-test.true c.d-item-in-loop-d-2.is in (
      subst (AreWinners (in_order declarations) c.add-in-loop-d-2.new.self) more (c.add-in-loop-d-2.ensures _ c.loop-d-2.invariant.0),
      omega (arith, c.in_ok-place-2.ensures, c.loop-d-2.invariant.1),
    )
