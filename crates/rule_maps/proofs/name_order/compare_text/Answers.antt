use Rattle.std.proofs.Common.{sym, ap, ◌∙◌}
use Rattle.std.specs.Ordering.{nat_cmp}
use Rattle.std.specs.Str.{chars}
use Rattle.std.proofs.lemmas.Str.{encodes-chars}
use Rattle.rule_maps.proofs.OrderLemmas.{by_bytes}
use Rattle.rule_maps.proofs.name_order.compare_text.Goals as goal

pub returns-in-Equal : goal.returns-in-Equal
returns-in-Equal c =
    let text = c.args.text.now in
    by_bytes c.args.name.now (chars text) c.key.result text c.as_str.result.now _ (c.in-Equal.ensures ∙ ap (nat_cmp c.key.result) c.requires) c.key.ensures
    c.as_str.ensures.bytes (sym (encodes-chars text c.utf8.text)) c.cmp-in-Equal.ensures
