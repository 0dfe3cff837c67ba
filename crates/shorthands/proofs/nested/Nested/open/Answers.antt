use Rattle.std.proofs.Common.{ap, ◌∙◌, ◌∷◌, arith}
use Rattle.css_tokens.specs.View.{bracket_of}
use Rattle.shorthands.proofs.DigitLemmas.{opened_is}
use Rattle.shorthands.proofs.nested.Nested.open.Goals as goal

pub returns-clause-opened : goal.returns-clause-opened
returns-clause-opened c =
    λ _. opened_is c.self.inside.digits c.digit_of.result (bracket_of c.args.bracket) (omega arith) c.digit_of.ensures.some c.digit_of.ensures.digit c.digit_of.ensures.bracket
    ∙ ap (λ pending. bracket_of c.args.bracket ∷ pending) c.self.view_is
