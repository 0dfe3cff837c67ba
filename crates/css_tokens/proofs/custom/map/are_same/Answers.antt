use Rattle.std.proofs.Common.{ap, arith}
use Rattle.css_tokens.specs.CustomView.{entry_of}
use Rattle.css_tokens.proofs.ListLemmas.{same_at}
use Rattle.css_tokens.proofs.custom.map.are_same.Goals as goal
use Rattle.css_tokens.proofs.custom.map.are_same.Goals.{then-not-is_same-via-then-not-is_same, then-not-is_same-via-else-not-is_same+then-not-is_same-2}

pub returns-then-not-is_same : goal.returns-then-not-is_same
returns-then-not-is_same c = (
  λ h. cc,
  λ e.
      let same = same_at entry_of c.args.a.now c.args.b.now _ _ _ (omega arith) c.loop-index-test.true c.index-a-index.is c.index-b-index.is e in
      elim c.then-not-is_same.branch [
        | then-not-is_same-via-then-not-is_same w ↦ let by_name = c.is_same.ensures.1 (ap (λ p. p.0) same) in cc
        | then-not-is_same-via-else-not-is_same+then-not-is_same-2 w ↦ let by_value = w.is_same-else-not-is_same.ensures.1 (ap (λ p. p.1) same) in cc
      ],
)
