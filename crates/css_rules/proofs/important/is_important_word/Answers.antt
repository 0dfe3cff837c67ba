use Rattle.std.proofs.Common.{sym, ap, ◌∙◌, refl}
use Rattle.std.specs.Prelude.{codes, ◌&&◌}
use Rattle.base_model.specs.Text.{ascii_lower, is_word, same_text}
use Rattle.stylo_base.proofs.TextLemmas.{chars-ascii}
use Rattle.css_rules.proofs.important.is_important_word.Goals as goal

pub returns-then-is_ident : goal.returns-then-is_ident
returns-then-is_ident c =
    c.eq_ascii_case.ensures.value
    ∙ (ap (λ name. same_text (ascii_lower name) _) (c.as_str.ensures.characters ∙ c.name_of.ensures)
    ∙ (ap (λ word. same_text (ascii_lower c.args.token.now.name) (ascii_lower word)) (chars-ascii (codes "important") refl)
    ∙ ap (λ b. b && is_word (codes "important") c.args.token.now.name) (sym (sym c.is_ident.ensures ∙ c.if-is_ident.true))))
