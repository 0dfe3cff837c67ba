use Rattle.std.proofs.Common.{sym, ap, ◌∙◌, refl}
use Rattle.std.specs.Ordering.{is_lt}
use Rattle.std.proofs.lemmas.Bool.{eq-eqb}
use Rattle.cascade_model.specs.Winner.{declares_longhand}
use Rattle.cascade_model.proofs.WinnerLemmas.{winner_first, winner_greater, winner_stays}
use Rattle.property_table.specs.View.{property_of}
use Rattle.cascade_core.specs.View.{entry_of}
use Rattle.cascade_core.proofs.places.Places.better.Goals as goal

pub returns-in_default : goal.returns-in_default
returns-in_default c = λ ds h.
    let p = property_of c.args.id in
    let none = rw (← c.at_place.ensures, c.in_default.is) at (h.best p _ c.place-winning.ensures) in
    rw c.requires (winner_first (declares_longhand p) ds (entry_of p c.args.d.now) (eq-eqb p p refl) none)

pub returns-then-is_lt : goal.returns-then-is_lt
returns-then-is_lt c = λ ds h.
    let p = property_of c.args.id in
    let won = rw (← c.at_place.ensures, c.in-Some.is) at (h.best p _ c.place-winning.ensures) in
    let less = ap is_lt (sym c.compare_for.ensures) ∙ (sym c.is_lt.ensures ∙ c.if-is_lt.true) in
    rw c.requires (winner_greater (declares_longhand p) ds (entry_of p c.args.d.now) (entry_of p c.in-Some.winner.now) (eq-eqb p p refl) won less)

pub returns-else-is_lt : goal.returns-else-is_lt
returns-else-is_lt c = λ ds h.
    let p = property_of c.args.id in
    let won = rw (← c.at_place.ensures, c.in-Some.is) at (h.best p _ c.place-winning.ensures) in
    let not_less = ap is_lt (sym c.compare_for.ensures) ∙ (sym c.is_lt.ensures ∙ c.if-is_lt.false) in
    rw (← c.at_place.ensures, c.in-Some.is)
    (winner_stays (declares_longhand p) ds (entry_of p c.args.d.now) (entry_of p c.in-Some.winner.now) (eq-eqb p p refl) won not_less)
