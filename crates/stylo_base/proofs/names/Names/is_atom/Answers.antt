use Rattle.std.proofs.Common.{[], unwrap_or, sym, ap, ◌∙◌}
use Rattle.base_model.specs.Text.{same_text}
use Rattle.stylo_base.proofs.TextLemmas.{same_test}
use Rattle.stylo_base.proofs.names.Names.is_atom.Goals as goal

pub returns-then-key : goal.returns-then-key
returns-then-key c =
    let name = ap (λ text. same_text (unwrap_or text []) c.args.atom.now) c.text.ensures in
    let atom = ap (same_text _) c.as_str.ensures.characters in
    c.eq.ensures ∙ (same_test _ _ c.text.utf8 c.as_str.utf8 ∙ (atom ∙ sym name))
