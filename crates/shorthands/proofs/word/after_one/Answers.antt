use Rattle.std.proofs.Common.{option_map, ap, sym, ◌∙◌}
use Rattle.syntax_model.specs.Brackets.{opened_by}
use Rattle.css_tokens.specs.View.{bracket_of}
use Rattle.shorthands.proofs.BlockLemmas.{closed_at_once}
use Rattle.shorthands.proofs.word.after_one.Goals as goal

pub returns-in-None-clause-rest : goal.returns-in-None-clause-rest
returns-in-None-clause-rest c =
    sym (closed_at_once c.args.token.now c.args.tokens.now (ap opened_by (sym c.kind.ensures)
    ∙ (sym c.opens.ensures ∙ ap (option_map bracket_of) c.in-None.is)))
