use Rattle.std.proofs.Common.{ap, ◌∙◌, map, Some, true, false}
use Rattle.syntax_model.specs.Token.{said}
use Rattle.custom_properties.specs.ExpanderView.{state_of}
use Rattle.custom_properties.proofs.Expanding.{put-answer}
use Rattle.custom_properties.proofs.expansion.expand.Goals as goal

pub returns-then-branch : goal.returns-then-branch
returns-then-branch g c =
    let list = (state_of c.run.new.self).output.tokens in
    ap (λ l. Some l) c.into_tokens.ensures
    ∙ put-answer (g.V.Values.lookup c.args.values.now) (map said c.args.tokens.now) (state_of c.new-expander.result)
    c.new-reader.result.steps c.in_ok-run.field-0 true list c.new-expander.ensures c.new-reader.ensures.steps
    c.in_ok-run.ensures c.if-branch.true

pub returns : goal.returns
returns g c =
    let list = (state_of c.run.new.self).output.tokens in
    put-answer (g.V.Values.lookup c.args.values.now) (map said c.args.tokens.now) (state_of c.new-expander.result)
    c.new-reader.result.steps c.in_ok-run.field-0 false list c.new-expander.ensures c.new-reader.ensures.steps
    c.in_ok-run.ensures c.if-branch.false
