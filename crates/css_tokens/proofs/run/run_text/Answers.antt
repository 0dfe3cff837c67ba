use Rattle.std.proofs.Common.{ap, ◌++◌, arith}
use Rattle.syntax_model.specs.TextUnits.{said_of}
use Rattle.css_tokens.specs.Scanned.{unit_by}
use Rattle.css_tokens.proofs.RunLemmas.{said_on}
use Rattle.css_tokens.proofs.run.run_text.Goals as goal

pub loop-rest-init : goal.loop-rest-init
loop-rest-init c =
    ap (λ cs. cs ++ said_of (unit_by c.args.grammar) c.args.text.now) c.in_ok-said.ensures

pub loop-rest-preserved : goal.loop-rest-preserved
loop-rest-preserved c =
    said_on c.args.grammar _ _ _ _ _ _ _ c.loop-rest.invariant c.unit-taken.ensures.value (omega (arith, c.if-taken-eq0.false)) c.split_at.ensures.back c.in_ok-push_said.ensures
