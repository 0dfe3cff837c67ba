use Rattle.std.proofs.Common.{refl}
use Rattle.report_text.specs.Lines.{summary_line}
use Rattle.report_text.proofs.AppendLemmas.{alone, before}
use Rattle.report_text.proofs.lines.summary_line.Goals as goal

pub returns : goal.returns
unfolding summary_line
returns c =
    let bytes = before c.push_count-7.new.line c.push_count-8.new.line _ _ _ c.in_ok-push_count-8.ensures.ok (c.in_ok-push_str.ensures.ascii refl) in
    let lines = before c.push_count-6.new.line c.push_count-7.new.line _ _ _ c.in_ok-push_count-7.ensures.ok bytes in
    let cascaded = before c.push_count-5.new.line c.push_count-6.new.line _ _ _ c.in_ok-push_count-6.ensures.ok lines in
    let matched = before c.push_count-4.new.line c.push_count-5.new.line _ _ _ c.in_ok-push_count-5.ensures.ok cascaded in
    let refused = before c.push_count-3.new.line c.push_count-4.new.line _ _ _ c.in_ok-push_count-4.ensures.ok matched in
    let accepted = before c.push_count-2.new.line c.push_count-3.new.line _ _ _ c.in_ok-push_count-3.ensures.ok refused in
    let batches = before c.push_count.new.line c.push_count-2.new.line _ _ _ c.in_ok-push_count-2.ensures.ok accepted in
    let nodes = before c.new-line.result c.push_count.new.line _ _ _ c.in_ok-push_count.ensures.ok batches in
    alone c.new-line.result _ _ c.new-line.ensures nodes
