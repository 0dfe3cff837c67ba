use Rattle.std.proofs.Common.{◌≡◌, refl, ◌++◌, codes}
use Rattle.std.proofs.lemmas.Result.{on_ok_weaker}
use Rattle.report_text.specs.Lines.{refused_line}
use Rattle.report_text.proofs.AppendLemmas.{before}
use Rattle.report_text.proofs.lines.push_refused_line.Goals as goal

pub returns-clause-ok : goal.returns-clause-ok
unfolding refused_line
returns-clause-ok c =
    on_ok_weaker c.push_str.result (λ (closed : c.push_str.new.self ≡ c.push_refusal.new.line ++ codes "\n").
    let why = before c.push_count.new.line c.push_refusal.new.line _ _ _ c.in_ok-push_refusal.ensures.ok closed in
    before c.args.line.now c.push_count.new.line _ _ _ c.in_ok-push_count.ensures.ok why) (c.push_str.ensures.ascii refl)
