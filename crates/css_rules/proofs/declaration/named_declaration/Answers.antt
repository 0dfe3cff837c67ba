use Rattle.std.proofs.Common.{◌++◌, sym, ◌∙◌}
use Rattle.syntax_model.specs.Brackets.{closers}
use Rattle.css_rules.proofs.DeclarationLemmas.{ends_with_closer, white-append, with_closer}
use Rattle.css_rules.proofs.declaration.named_declaration.Goals as goal

pub returns : goal.returns
returns c =
    let tokens = c.args.tokens.now in
    let some = sym c.is_empty.ensures ∙ c.if-is_empty.false in
    let closed = c.in_ok-append_closers.ensures in
    rw (c.of_vec.ensures, closed, c.in_ok-list.ensures, c.without_white.ensures, ← white-append tokens c.args.brackets)
    (sym (with_closer _ (tokens ++ closers c.args.brackets) (ends_with_closer tokens c.args.brackets some)))
