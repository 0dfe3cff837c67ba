use Rattle.stylo_base.proofs.CaseLemmas.{same_lower, lower_test}
use Rattle.stylo_base.proofs.ascii_case.eq_ascii_case.Goals as goal

pub returns-clause-value : goal.returns-clause-value
returns-clause-value c =
    lower_test c.args.a.now c.args.b.now c.eq_ignore_ascii_case.result c.utf8.a c.utf8.b c.eq_ignore_ascii_case.ensures.test

pub returns-clause-same : goal.returns-clause-same
returns-clause-same c =
    same_lower c.args.a.now c.args.b.now c.eq_ignore_ascii_case.result c.utf8.a c.utf8.b c.eq_ignore_ascii_case.ensures.test
