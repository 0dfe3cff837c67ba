use Rattle.std.proofs.Common.{◌≡◌, ◌++◌, [], length, sym, ap, ◌∙◌}
use Rattle.std.specs.Str.{chars}
use Rattle.std.proofs.lemmas.Bool.{eqb-true}
use Rattle.std.proofs.lemmas.List.{nil_from_length}
use Rattle.std.proofs.lemmas.Result.{on_ok_weaker}
use Rattle.custom_model.specs.Printed.{custom_declarations}
use Rattle.report_text.proofs.DeclarationLemmas.{printed_alone, printed_whole}
use Rattle.report_text.proofs.lines.push_declarations.Goals as goal

pub returns-then-is_empty-clause-ok : goal.returns-then-is_empty-clause-ok
returns-then-is_empty-clause-ok c =
    let none : c.text-custom.result.now ≡ [] = nil_from_length c.text-custom.result.now (eqb-true (length c.text-custom.result.now) 0 (sym c.is_empty.ensures ∙ c.if-is_empty.true)) in
    printed_alone c.args.style.now c.text-own.result.now c.text-custom.result.now c.args.line.now c.push_str.new.self c.text-own.utf8 c.text-custom.utf8 c.text-own.ensures (c.text-custom.ensures ∙ ap custom_declarations c.custom.ensures) c.in_ok-push_str.ensures.ok none

pub returns-clause-ok : goal.returns-clause-ok
returns-clause-ok c =
    let parted = c.in_ok-push_str-2.ensures.ascii c.separator.ensures.ascii ∙ ap (λ text. c.push_str.new.self ++ text) c.separator.ensures.text in
    on_ok_weaker c.push_str-3.result (λ (whole : c.push_str-3.new.self ≡ c.push_str-2.new.self ++ chars c.text-custom.result.now).
    printed_whole c.args.style.now c.text-own.result.now c.text-custom.result.now c.args.line.now c.push_str.new.self c.push_str-2.new.self c.push_str-3.new.self c.text-own.utf8 c.text-custom.utf8 c.text-own.ensures (c.text-custom.ensures ∙ ap custom_declarations c.custom.ensures) c.in_ok-push_str.ensures.ok parted whole) c.push_str-3.ensures.ok
