use Rattle.std.proofs.Common.{◌≡◌, ◌++◌, OnOk, List, ℕ, rules, subst, ◌∙◌}
use Rattle.property_table.specs.View.{color_of}
use Rattle.property_table.proofs.ColorLemmas.{color_text_is, printed-IsUtf8, chars-printed}
use Rattle.property_table.proofs.color.Color.write.Goals as goal

pub unreachable-requires : goal.unreachable-requires
unreachable-requires c =
    let text = color_text_is (color_of c.args.self) _ _ c.digits-bytes.ensures c.printed.ensures in
    c.in-Err.ensures.cases.0 (printed-IsUtf8 (color_of c.args.self) _ text (search rules) (search rules) (search rules) (search rules))

pub returns-clause-ok : goal.returns-clause-ok
returns-clause-ok c =
    let text = color_text_is (color_of c.args.self) _ _ c.digits-bytes.ensures c.printed.ensures in
    subst (λ (put : List ℕ). OnOk c.push_str.result (c.push_str.new.self ≡ c.args.text.now ++ put)) (chars-printed (color_of c.args.self) _ (c.in-Ok.ensures.cases.0 ∙ text) (search rules) (search rules) (search rules) (search rules)) c.push_str.ensures.ok
