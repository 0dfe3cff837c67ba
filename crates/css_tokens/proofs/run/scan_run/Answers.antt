use Rattle.std.proofs.Common.{sym, ◌∙◌, arith}
use Rattle.css_tokens.proofs.RunLemmas.{ends_there, plain_len, plain_said}
use Rattle.css_tokens.proofs.run.scan_run.Goals as goal

pub returns-then-not-may_go_on-clause-len : goal.returns-then-not-may_go_on-clause-len
returns-then-not-may_go_on-clause-len c =
    let none = ends_there c.args.grammar _ _ _ c.plain_len-plain.ensures.value c.split_at.ensures.back (sym c.may_go_on.ensures ∙ c.if-not-may_go_on.true) in
    omega (arith, plain_len c.args.grammar _ _ _ 0 c.plain_len-plain.ensures.value c.split_at.ensures.back (sym none))

pub returns-then-not-may_go_on-clause-said : goal.returns-then-not-may_go_on-clause-said
returns-then-not-may_go_on-clause-said c =
    let none = ends_there c.args.grammar _ _ _ c.plain_len-plain.ensures.value c.split_at.ensures.back (sym c.may_go_on.ensures ∙ c.if-not-may_go_on.true) in
    plain_said c.args.grammar _ _ _ _ c.plain_len-plain.ensures.value c.split_at.ensures.front c.split_at.ensures.back none

pub returns-clause-len : goal.returns-clause-len
returns-clause-len c = plain_len c.args.grammar _ _ _ _ c.plain_len-plain.ensures.value c.split_at.ensures.back c.run_len.ensures.value
