use Rattle.std.proofs.Common.{◌∷◌, ap, arith}
use Rattle.syntax_model.specs.TextUnits.{TextUnit}
use Rattle.syntax_model.proofs.TextUnitLemmas.{name_fits, remnant_fits, string_fits, url_fits}
use Rattle.css_tokens.proofs.text_unit.Grammar.unit.Goals as goal

pub returns-in-Name-clause-inside : goal.returns-in-Name-clause-inside
returns-in-Name-clause-inside c = omega (arith, ap (λ (u : TextUnit). u.taken) c.name_unit.ensures, name_fits c.args.text.now)

pub returns-in-String-clause-inside : goal.returns-in-String-clause-inside
returns-in-String-clause-inside c =
    omega (arith, ap (λ (u : TextUnit). u.taken) c.string_unit.ensures, string_fits c.in-String.quote (c.in-Some.first.now ∷ c.in-Some.rest.now), c.in-Some.ensures.cases.1)

pub returns-in-Url-clause-inside : goal.returns-in-Url-clause-inside
returns-in-Url-clause-inside c = omega (arith, ap (λ (u : TextUnit). u.taken) c.url_unit.ensures, url_fits c.args.text.now)

pub returns-in-Remnants-clause-inside : goal.returns-in-Remnants-clause-inside
returns-in-Remnants-clause-inside c = omega (arith, ap (λ (u : TextUnit). u.taken) c.remnant_unit.ensures, remnant_fits c.args.text.now)
