use Rattle.std.proofs.Common.{refl}
use Rattle.report_text.specs.Lines.{batch_line}
use Rattle.report_text.proofs.AppendLemmas.{alone, before}
use Rattle.report_text.proofs.lines.batch_line.Goals as goal

pub returns : goal.returns
unfolding batch_line
returns c =
    let cascaded = before c.push_count-4.new.line c.push_count-5.new.line _ _ _ c.in_ok-push_count-5.ensures.ok (c.in_ok-push_str.ensures.ascii refl) in
    let matched = before c.push_count-3.new.line c.push_count-4.new.line _ _ _ c.in_ok-push_count-4.ensures.ok cascaded in
    let refused = before c.push_count-2.new.line c.push_count-3.new.line _ _ _ c.in_ok-push_count-3.ensures.ok matched in
    let accepted = before c.push_count.new.line c.push_count-2.new.line _ _ _ c.in_ok-push_count-2.ensures.ok refused in
    let batch = before c.new-line.result c.push_count.new.line _ _ _ c.in_ok-push_count.ensures.ok accepted in
    alone c.new-line.result _ _ c.new-line.ensures batch
