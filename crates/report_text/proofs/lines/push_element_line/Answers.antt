use Rattle.std.proofs.Common.{◌≡◌, refl, ap, ◌++◌, ◌∙◌, codes}
use Rattle.std.specs.Fmt.{decimal}
use Rattle.std.proofs.lemmas.Result.{on_ok_weaker}
use Rattle.report_text.specs.Lines.{element_line}
use Rattle.report_text.proofs.AppendLemmas.{before, starts-more, starts-on}
use Rattle.report_text.proofs.lines.push_element_line.Goals as goal

pub returns-clause-ok : goal.returns-clause-ok
unfolding element_line
returns-clause-ok c =
    on_ok_weaker c.push_str-4.result (λ (closed : c.push_str-4.new.self ≡ c.push_declarations.new.line ++ codes "}\n").
    let properties = before c.push_str-3.new.self c.push_declarations.new.line _ _ _ c.in_ok-push_declarations.ensures.ok closed in
    let open_brace = before c.push_str-2.new.self c.push_str-3.new.self _ _ _ (c.in_ok-push_str-3.ensures.ascii refl) properties in
    let tag = before c.push_str.new.self c.push_str-2.new.self _ _ _ c.in_ok-push_str-2.ensures.ok open_brace in
    let space = before c.push_number.new.self c.push_str.new.self _ _ _ (c.in_ok-push_str.ensures.ascii refl) tag in
    before c.args.line.now c.push_number.new.self _ _ _ (c.in_ok-push_number.ensures.ok ∙ ap (λ n. c.args.line.now ++ decimal n) c.from.ensures) space) (c.push_str-4.ensures.ascii refl)

pub returns-in_err-push_declarations-clause-begins : goal.returns-in_err-push_declarations-clause-begins
returns-in_err-push_declarations-clause-begins c =
    let number = starts-more c.args.line.now c.push_number.new.self _ c.in_ok-push_number.ensures.ok in
    let space = starts-on c.args.line.now c.push_number.new.self c.push_str.new.self number (starts-more _ _ _ (c.in_ok-push_str.ensures.ascii refl)) in
    let tag = starts-on c.args.line.now c.push_str.new.self c.push_str-2.new.self space (starts-more _ _ _ c.in_ok-push_str-2.ensures.ok) in
    let brace = starts-on c.args.line.now c.push_str-2.new.self c.push_str-3.new.self tag (starts-more _ _ _ (c.in_ok-push_str-3.ensures.ascii refl)) in
    starts-on c.args.line.now c.push_str-3.new.self c.push_declarations.new.line brace c.in_err-push_declarations.ensures.begins
