use Rattle.std.proofs.Common.{map, ap, ◌∙◌}
use Rattle.syntax_model.specs.Token.{said}
use Rattle.css_tokens.specs.Opened.{anywhere, front, steps_from, whole}
use Rattle.css_tokens.proofs.OpenedLemmas.{steps_are}
use Rattle.css_tokens.proofs.custom.parts.PartReader.new.Goals as goal

pub returns-clause-steps : goal.returns-clause-steps
returns-clause-steps c =
    ap (λ openers. whole (steps_from anywhere openers (map said c.args.tokens.now))) c.new.ensures ∙ steps_are (map said c.args.tokens.now)

pub returns-clause-front : goal.returns-clause-front
returns-clause-front c = ap (λ openers. front (steps_from anywhere openers (map said c.args.tokens.now))) c.new.ensures
