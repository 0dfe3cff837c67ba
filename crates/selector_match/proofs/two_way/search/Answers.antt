use Rattle.std.proofs.Common.{◌≡◌, ℕ, ◌+◌, ◌<◌, ◌≤◌, length, sym, ap, ◌∙◌, arith}
use Rattle.memchr.proofs.lemmas.FindLemmas.{Nowhere-then}
use Rattle.memchr.proofs.lemmas.SearchLemmas.{Nowhere-right, Nowhere-left, Nowhere-end}
use Rattle.selector_match.specs.TwoWay.{lower_at}
use Rattle.selector_match.proofs.TwoWayLemmas.{behind_cut}
use Rattle.selector_match.proofs.two_way.search.Goals as goal

-- a byte behind the cut differs
pub loop-place-preserved-then-end-part : goal.loop-place-preserved-then-end-part
loop-place-preserved-then-end-part c =
    let x = lower_at c.args.part.now in
    let h = lower_at c.args.text.now in
    let place = c.loop-place.place in
    let end = c.same_to-end.result in
    let kept = c.loop-place.invariant in
    let found = c.same_to-end.ensures in
    let below = c.if-end-part.true in
    let right = behind_cut (λ k. x k ≡ h (place + k)) c.args.cut.place c.loop-place.known end c.max.result c.max.ensures kept.stands found.same in
    let low : c.args.cut.place ≤ end = omega (arith, found.low (omega arith)) in
    record {
      within = omega arith;
      passed = Nowhere-then kept.passed (Nowhere-right x _ h _ c.args.cut.place c.requires.critical place end low below right (found.differs below));
      short = omega arith;
      stands = λ k l. absurd (omega arith);
    }

-- all behind the cut stands, and a byte before it differs
pub loop-place-preserved : goal.loop-place-preserved
loop-place-preserved c =
    let x = lower_at c.args.part.now in
    let h = lower_at c.args.text.now in
    let n = length c.args.part.now in
    let place = c.loop-place.place in
    let shift = c.args.cut.shift in
    let kept = c.loop-place.invariant in
    let cut = c.requires in
    let all : n ≤ c.same_to-end.result = omega (arith, c.if-end-part.false) in
    let right : (k : ℕ) → c.args.cut.place ≤ k → k < n → x k ≡ h (place + k) = λ k low high.
    behind_cut (λ k. x k ≡ h (place + k)) c.args.cut.place c.loop-place.known c.same_to-end.result c.max.result c.max.ensures kept.stands c.same_to-end.ensures.same k low (omega arith) in
    let before = c.if-same_to-cut.true in
    record {
      within = omega arith;
      passed = Nowhere-then kept.passed (Nowhere-left x n h _ c.args.cut.place shift cut.critical cut.passes place right
          (λ stands. c.same_to.ensures.differs before (sym (stands.reads c.same_to.result (omega arith)))));
      short = omega arith;
      stands = λ k l. cut.repeats k l ∙ right (k + shift) (omega (arith, cut.behind (omega arith))) (omega arith) ∙ ap h (omega arith);
    }

pub returns : goal.returns
returns c = Nowhere-then c.loop-place.invariant.passed (Nowhere-end _ _ _ _ c.loop-place.place c.loop-place-test.false)
