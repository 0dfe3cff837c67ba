use Rattle.std.proofs.Common.{◌≡◌, ◌++◌, OnOk, List, ℕ, drop, sym, ap, subst, ◌∙◌}
use Rattle.std.specs.Str.{IsAscii, IsUtf8, chars}
use Rattle.std.proofs.lemmas.Str.{IsAscii-append, IsUtf8-from_ascii, chars-IsAscii}
use Rattle.base_model.specs.Thousandths as thousandths
use Rattle.stylo_base.proofs.NumberLemmas.{rest_is}
use Rattle.stylo_base.proofs.text.Text.push_fixed.Goals as goal

pub unreachable-requires : goal.unreachable-requires
unreachable-requires c =
    let text = thousandths.printed_number c.args.number ++ drop c.args.unit c.args.buffer in
    let ascii : IsAscii text = IsAscii-append _ _ c.write_fixed-start.ensures.ascii c.requires.ascii in
    let is = rest_is _ text _ c.write_fixed-start.array_long c.write_fixed-start.ensures.written in
    c.in-Err.ensures.cases.0 (subst IsUtf8 (sym is) (IsUtf8-from_ascii text ascii))

pub returns-clause-ok : goal.returns-clause-ok
returns-clause-ok c =
    let text = thousandths.printed_number c.args.number ++ drop c.args.unit c.args.buffer in
    let ascii : IsAscii text = IsAscii-append _ _ c.write_fixed-start.ensures.ascii c.requires.ascii in
    let is = rest_is _ text _ c.write_fixed-start.array_long c.write_fixed-start.ensures.written in
    subst (λ (put : List ℕ). OnOk c.push_str.result (c.push_str.new.self ≡ c.args.self.now ++ put)) (ap chars (c.in-Ok.ensures.cases.0 ∙ is) ∙ chars-IsAscii text ascii) c.push_str.ensures.ok
