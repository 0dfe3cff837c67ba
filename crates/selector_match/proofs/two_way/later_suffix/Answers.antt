use Rattle.std.proofs.Common.{true, false, arith}
use Rattle.memchr.proofs.lemmas.CriticalLemmas.{IsCutPlace-of}
use Rattle.selector_match.specs.TwoWay.{Precedes}
use Rattle.selector_match.proofs.TwoWayLemmas.{Precedes-trans, Precedes-irrefl, Precedes-opposed}
use Rattle.selector_match.proofs.two_way.later_suffix.Goals as goal

pub returns-then-most-least : goal.returns-then-most-least
returns-then-most-least c =
    let least = c.greatest_suffix-least.ensures in
    let most = c.greatest_suffix-most.ensures in
    let fits = least.fits in
    let some = least.some in
    IsCutPlace-of (Precedes true) (Precedes false) (Precedes-trans true) (Precedes-irrefl true) (Precedes-irrefl false)
    (λ a b h k. Precedes-opposed a b k h) _ _ _ _ (omega arith) least.greatest most.greatest (omega arith) _ least

pub returns-else-most-least : goal.returns-else-most-least
returns-else-most-least c =
    let least = c.greatest_suffix-least.ensures in
    let most = c.greatest_suffix-most.ensures in
    let fits = most.fits in
    let some = most.some in
    IsCutPlace-of (Precedes false) (Precedes true) (Precedes-trans false) (Precedes-irrefl false) (Precedes-irrefl true)
    Precedes-opposed _ _ _ _ (omega arith) most.greatest least.greatest (omega arith) _ most
