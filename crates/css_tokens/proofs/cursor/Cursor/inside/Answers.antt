use Rattle.std.proofs.Common.{ap, drop, ◌+◌, ◌∙◌}
use Rattle.syntax_model.specs.Brackets.{past}
use Rattle.css_tokens.specs.View.{bracket_of}
use Rattle.css_tokens.proofs.InsideLemmas.{drop_closer}
use Rattle.css_tokens.proofs.cursor.Cursor.inside.Goals as goal

pub returns-clause-rest : goal.returns-clause-rest
returns-clause-rest c =
    drop_closer _ c.self.inside.rest.now _ _ c.split_at.ensures.back c.next.ensures.rest
    ∙ (ap (λ n. drop (n + 1) c.self.inside.rest.now) c.in_ok-len.ensures.value
    ∙ ap (past (bracket_of c.args.bracket)) c.self.view_is)
