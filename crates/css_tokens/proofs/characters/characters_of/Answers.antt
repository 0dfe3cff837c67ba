use Rattle.std.proofs.Common.{◌≡◌, ap, rules, sym, ◌∙◌}
use Rattle.std.proofs.lemmas.Result.{IfOk-weaker}
use Rattle.std.proofs.lemmas.Str.{chars_from_encodes}
use Rattle.stylo_base.specs.Ascii.{is_all_ascii}
use Rattle.stylo_base.proofs.TextLemmas.{chars-ascii}
use Rattle.css_tokens.proofs.characters.characters_of.Goals as goal

pub returns : goal.returns
returns c = search (rules, chars_from_encodes)

pub returns-then-are_ascii : goal.returns-then-are_ascii
returns-then-are_ascii c =
    let all = ap is_all_ascii (sym c.as_bytes-bytes.ensures.value) ∙ (sym c.are_ascii.ensures ∙ c.if-are_ascii.true) in
    IfOk-weaker c.widened.result (λ list. list.items ≡ c.as_bytes-bytes.result.now) _ (λ list e. e ∙ (c.as_bytes-bytes.ensures.value ∙ sym (chars-ascii c.args.text.now all))) c.widened.ensures
