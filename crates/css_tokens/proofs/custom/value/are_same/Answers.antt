use Rattle.std.proofs.Common.{arith}
use Rattle.syntax_model.specs.Token.{said}
use Rattle.css_tokens.proofs.ListLemmas.{same_at}
use Rattle.css_tokens.proofs.custom.value.are_same.Goals as goal

pub returns-then-not-says_same : goal.returns-then-not-says_same
returns-then-not-says_same c = (
  λ h. cc,
  λ e. let same = c.says_same.ensures.1 (same_at said c.args.a.now c.args.b.now _ _ _ (omega arith) c.loop-index-test.true c.index-a-index.is c.index-b-index.is e) in cc,
)
