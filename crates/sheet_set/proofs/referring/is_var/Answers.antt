use Rattle.std.proofs.Common.{◌&&◌, sym, ap, ◌∙◌, refl}
use Rattle.std.specs.Prelude.{codes}
use Rattle.base_model.specs.Text.{ascii_lower, is_word, same_text}
use Rattle.stylo_base.proofs.TextLemmas.{chars-ascii}
use Rattle.sheet_set.proofs.referring.is_var.Goals as goal

pub returns-then-is_function : goal.returns-then-is_function
returns-then-is_function c =
    let function = sym c.is_function.ensures ∙ c.if-is_function.true in
    c.eq_ascii_case.ensures.value
    ∙ (ap (λ name. same_text (ascii_lower name) _) (c.as_str.ensures.characters ∙ c.name_of.ensures)
    ∙ (ap (λ word. same_text (ascii_lower c.args.token.now.name) (ascii_lower word)) (chars-ascii (codes "var") refl)
    ∙ ap (λ b. b && is_word (codes "var") c.args.token.now.name) (sym function)))
