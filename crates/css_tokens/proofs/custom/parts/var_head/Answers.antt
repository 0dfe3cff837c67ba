use Rattle.std.proofs.Common.{Bool, ◌∷◌, None, map, length, sym, ap, ◌∙◌, arith}
use Rattle.std.specs.Prelude.{if◌then◌else◌}
use Rattle.syntax_model.specs.Token.{said}
use Rattle.syntax_model.specs.TokenKinds.{is_close_round}
use Rattle.custom_model.specs.Steps.{alone, begins}
use Rattle.css_tokens.specs.Opened.{anywhere, first_then, steps_from}
use Rattle.css_tokens.specs.Steps.{steps_behind}
use Rattle.css_tokens.proofs.HeadLemmas.{no_name, other_name, no_end, other_end, at_close, at_comma, not_longer}
use Rattle.css_tokens.proofs.custom.parts.var_head.Goals as goal
use Rattle.css_tokens.proofs.custom.parts.var_head.Goals.{else-not-has_fallback-via-then-not-has_fallback+else-not-is_close_round, else-not-has_fallback-via-else-not-has_fallback}

pub returns-in_err-name-clause-steps : goal.returns-in_err-name-clause-steps
returns-in_err-name-clause-steps c openers =
    no_name c.args.tokens.now c.without_white.result.now c.without_white.ensures c.in_err-name.ensures.cases openers
    ∙ ap (steps_behind openers) (sym c.from_residual.ensures)

pub returns-then-not-is_name-clause-steps : goal.returns-then-not-is_name-clause-steps
returns-then-not-is_name-clause-steps c openers =
    other_name c.args.tokens.now c.without_white.result.now c.in_ok-name.name.now c.in_ok-name.rest.now c.without_white.ensures c.in_ok-name.ensures.cases.0
    (sym c.is_name.ensures ∙ c.if-not-is_name.true) openers

pub returns-in_err-end-clause-steps : goal.returns-in_err-end-clause-steps
returns-in_err-end-clause-steps c openers =
    no_end c.args.tokens.now c.without_white.result.now c.in_ok-name.name.now c.in_ok-name.rest.now c.without_white.ensures c.in_ok-name.ensures.cases.0
    (sym c.is_name.ensures ∙ c.if-not-is_name.false) c.without_white-2.result.now c.without_white-2.ensures c.in_err-end.ensures.cases openers
    ∙ ap (steps_behind openers) (sym c.from_residual-in_err-end.ensures)

pub returns-then-not-is_close_round-clause-steps : goal.returns-then-not-is_close_round-clause-steps
returns-then-not-is_close_round-clause-steps c openers =
    other_end c.args.tokens.now c.without_white.result.now c.in_ok-name.name.now c.in_ok-name.rest.now c.without_white.ensures c.in_ok-name.ensures.cases.0
    (sym c.is_name.ensures ∙ c.if-not-is_name.false) c.without_white-2.result.now c.in_ok-end.end.now c.in_ok-end.rest.now c.without_white-2.ensures c.in_ok-end.ensures.cases.0
    (sym c.is_comma-has_fallback.ensures ∙ c.if-not-has_fallback.true) (sym (ap is_close_round c.kind.ensures) ∙ (sym c.is_close_round.ensures ∙ c.if-not-is_close_round.true)) openers

pub returns-clause-steps : goal.returns-clause-steps
returns-clause-steps c openers =
    let behind = map said c.in_ok-end.rest.now in
    let turn = λ (b : Bool). if b then first_then (begins c.name_of.result.now) (steps_from anywhere (None ∷ openers) behind) else first_then (alone c.name_of.result.now) (steps_from anywhere openers behind) in
    elim c.else-not-has_fallback.branch [
      | else-not-has_fallback-via-then-not-has_fallback+else-not-is_close_round w ↦
          at_close c.args.tokens.now c.without_white.result.now c.in_ok-name.name.now c.in_ok-name.rest.now c.without_white.ensures c.in_ok-name.ensures.cases.0
          (sym c.is_name.ensures ∙ c.if-not-is_name.false) c.without_white-2.result.now c.in_ok-end.end.now c.in_ok-end.rest.now c.without_white-2.ensures c.in_ok-end.ensures.cases.0
          (sym (ap is_close_round w.kind.ensures) ∙ (sym w.is_close_round.ensures ∙ w.if-not-is_close_round.false)) openers
          ∙ (ap (λ name. first_then (alone name) (steps_from anywhere openers behind)) (sym c.name_of.ensures)
          ∙ sym (ap turn w.if-not-has_fallback.true))
      | else-not-has_fallback-via-else-not-has_fallback w ↦
          at_comma c.args.tokens.now c.without_white.result.now c.in_ok-name.name.now c.in_ok-name.rest.now c.without_white.ensures c.in_ok-name.ensures.cases.0
          (sym c.is_name.ensures ∙ c.if-not-is_name.false) c.without_white-2.result.now c.in_ok-end.end.now c.in_ok-end.rest.now c.without_white-2.ensures c.in_ok-end.ensures.cases.0
          (sym c.is_comma-has_fallback.ensures ∙ w.if-not-has_fallback.false) openers
          ∙ (ap (λ name. first_then (begins name) (steps_from anywhere (None ∷ openers) behind)) (sym c.name_of.ensures)
          ∙ sym (ap turn w.if-not-has_fallback.false))
    ]

pub returns-clause-fewer : goal.returns-clause-fewer
returns-clause-fewer c =
    omega (
      arith,
      not_longer c.args.tokens.now c.without_white.result.now c.without_white.ensures,
      ap length c.in_ok-name.ensures.cases.0,
      not_longer c.in_ok-name.rest.now c.without_white-2.result.now c.without_white-2.ensures,
      ap length c.in_ok-end.ensures.cases.0,
    )
