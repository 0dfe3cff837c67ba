use Rattle.std.proofs.Common.{◌≡◌, ◌+◌, ◌-◌, length, refl, sym, subst, subst₂, ◌∙◌, arith}
use Rattle.std.proofs.lemmas.Bool.{false≢true}
use Rattle.memchr.proofs.lemmas.SuffixLemmas.{IsScan, IsScan-start, IsScan-accept, IsScan-skip, IsScan-push, IsScan-block, IsScan-end}
use Rattle.selector_match.specs.TwoWay.{Precedes, lower_at}
use Rattle.selector_match.proofs.TwoWayLemmas.{Precedes-trans, Precedes-irrefl, Precedes-other}
use Rattle.selector_match.proofs.two_way.greatest_suffix.Goals as goal

pub loop-other-init : goal.loop-other-init
loop-other-init c =
    let r = c.args.reversed in
    IsScan-start (Precedes r) (Precedes-trans r) (Precedes-irrefl r) _ _ c.requires

pub loop-other-preserved-then-offset-period : goal.loop-other-preserved-then-offset-period
loop-other-preserved-then-offset-period c =
    let r = c.args.reversed in
    let same = sym c.lower-a.ensures ∙ c.if-a-b.true ∙ c.lower-b.ensures in
    IsScan-block (Precedes r) (Precedes-trans r) (Precedes-irrefl r) _ _ c.loop-other.invariant c.loop-other-test.true same c.if-offset-period.true

pub loop-other-preserved-else-offset-period : goal.loop-other-preserved-else-offset-period
loop-other-preserved-else-offset-period c =
    let r = c.args.reversed in
    let same = sym c.lower-a.ensures ∙ c.if-a-b.true ∙ c.lower-b.ensures in
    let short = c.loop-other.invariant.short in
    let apart = c.if-offset-period.false in
    IsScan-push (Precedes r) (Precedes-trans r) (Precedes-irrefl r) _ _ c.loop-other.invariant c.loop-other-test.true same (omega arith)

pub loop-other-preserved-then-precedes : goal.loop-other-preserved-then-precedes
loop-other-preserved-then-precedes c =
    let r = c.args.reversed in
    IsScan-accept (Precedes r) (Precedes-trans r) (Precedes-irrefl r) _ _ c.loop-other.invariant c.loop-other-test.true
    (subst₂ (Precedes r) c.lower-a.ensures c.lower-b.ensures (c.if-precedes.ensures.0 refl))

pub loop-other-preserved : goal.loop-other-preserved
loop-other-preserved c =
    let r = c.args.reversed in
    let s = c.loop-other in
    let x = lower_at c.args.part.now in
    let n = length c.args.part.now in
    let moved : s.other + s.offset + 1 ≡ s.other + (s.offset + 1) = omega arith in
    let after = Precedes-other r c.lower-a.result c.lower-b.result c.if-a-b.false (λ h. false≢true (c.if-precedes.ensures.1 h)) in
    subst (λ k. IsScan (Precedes r) x n s.place (k - s.place) k 0) moved
    (IsScan-skip (Precedes r) (Precedes-trans r) (Precedes-irrefl r) x n s.invariant c.loop-other-test.true
    (subst₂ (Precedes r) c.lower-b.ensures c.lower-a.ensures after))

pub returns : goal.returns
returns c =
    let r = c.args.reversed in
    let within = c.loop-other.invariant.within in
    let ended = c.loop-other-test.false in
    IsScan-end (Precedes r) (Precedes-trans r) (Precedes-irrefl r) _ _ c.loop-other.invariant (omega arith)
