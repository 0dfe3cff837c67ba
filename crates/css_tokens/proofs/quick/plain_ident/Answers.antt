use Rattle.std.proofs.Common.{sym, ◌∙◌}
use Rattle.css_tokens.proofs.QuickLemmas.{ident_is_first}
use Rattle.css_tokens.proofs.quick.plain_ident.Goals as goal

pub returns : goal.returns
returns c =
    ident_is_first _ _ _ _ _ _ c.in_ok-first.ensures.cases.0 (sym c.is_name_start.ensures ∙ c.if-not-is_name_start.false) c.plain_len-len.ensures.value
    c.split_at.ensures.front c.split_at.ensures.back (sym c.next_is.ensures ∙ c.if-next_is.false) (sym c.next_is-else-next_is.ensures ∙ c.if-next_is-2.false)
