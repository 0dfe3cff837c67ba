use Rattle.std.proofs.Common.{◌≡◌, refl}
use Rattle.std.specs.declared.cmp.Ordering.{Ordering}
use Rattle.std.specs.declared.cmp.Ordering.TheVariants.{Less, Equal, Greater}
use Rattle.std.specs.Ordering.{ordering_then}
use Rattle.cascade_core.proofs.matched.compare_placed.Goals as goal

-- what is compared in turn may be joined from either end
then_assoc : (a b c : Ordering) → ordering_then (ordering_then a b) c ≡ ordering_then a (ordering_then b c)
then_assoc Less b c = refl
then_assoc Equal b c = refl
then_assoc Greater b c = refl

pub returns : goal.returns
returns c =
    rw (c.then-5.ensures, c.then-4.ensures, c.then-3.ensures, c.then-2.ensures, c.then.ensures)
    (rw (c.cmp.ensures, c.band.ensures, c.band-2.ensures, c.cmp-2.ensures, c.compare_layers.ensures, c.cmp-3.ensures, c.cmp-4.ensures, c.cmp-5.ensures)
    (simp then_assoc))
