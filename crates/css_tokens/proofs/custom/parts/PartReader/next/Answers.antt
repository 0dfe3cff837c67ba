use Rattle.std.proofs.Common.{◌∷◌, None, sym, ap, ◌∙◌, length, map, arith}
use Rattle.std.specs.Prelude.{if◌then◌else◌}
use Rattle.syntax_model.specs.Token.{said}
use Rattle.custom_model.specs.Steps.{alone, begins, ends, token}
use Rattle.css_tokens.specs.Opened.{anywhere, finished, first_then, front, invalid, steps_from, whole}
use Rattle.css_tokens.specs.Steps.{Left}
use Rattle.css_tokens.proofs.NextLemmas.{at_end, at_token, at_var, fallback_ends, is_invalid}
use Rattle.css_tokens.proofs.custom.parts.PartReader.next.Goals as goal

pub returns-then-is_empty : goal.returns-then-is_empty
returns-then-is_empty c =
    let none =
    at_end c.self.inside.pending c.self.inside.rest.now c.in_default.ensures.cases
    ∙ ap (λ b. if b then finished else invalid) (sym c.is_empty.ensures ∙ c.if-is_empty.true) in
    record {
      known = ap (λ (l : Left). l.steps) (sym c.self.view_is) ∙ ap whole none;
      next = ap (λ (l : Left). l.front) (sym c.self.view_is) ∙ ap front none;
    }

pub returns-in_default : goal.returns-in_default
returns-in_default c =
    let none =
    at_end c.self.inside.pending c.self.inside.rest.now c.in_default.ensures.cases
    ∙ ap (λ b. if b then finished else invalid) (sym c.is_empty.ensures ∙ c.if-is_empty.false) in
    record {
      known = ap (λ (l : Left). l.steps) (sym c.self.view_is) ∙ ap whole none;
      next = ap (λ (l : Left). l.front) (sym c.self.view_is) ∙ ap front none;
    }

pub returns-then-is_end : goal.returns-then-is_end
returns-then-is_end c =
    let e = c.in-Some.ensures.cases.0 in
    let count = ap (λ (l : Left). l.tokens) c.self.view_is in
    let is =
    fallback_ends c.self.inside.pending c.self.inside.rest.now c.in-Some.token.now c.in-Some.rest.now _ e c.kind-kind.ensures (sym c.is_end.ensures ∙ c.if-is_end.true)
    ∙ ap (λ openers. first_then ends (steps_from anywhere openers (map said c.in-Some.rest.now))) (sym c.end_fallback.ensures) in
    record {
      first = ap (λ (l : Left). l.steps) (sym c.self.view_is) ∙ ap whole is;
      next = ap (λ (l : Left). l.front) (sym c.self.view_is) ∙ ap front is;
      fewer = omega (arith, count, ap length e);
    }

pub returns-then-is_unfit : goal.returns-then-is_unfit
returns-then-is_unfit c =
    let none =
    is_invalid c.self.inside.pending c.self.inside.rest.now c.in-Some.token.now c.in-Some.rest.now _ c.in-Some.ensures.cases.0 c.kind-kind.ensures
    (sym c.is_end.ensures ∙ c.if-is_end.false) (sym c.is_unfit.ensures ∙ c.if-is_unfit.true) in
    record {
      known = ap (λ (l : Left). l.steps) (sym c.self.view_is) ∙ ap whole none;
      next = ap (λ (l : Left). l.front) (sym c.self.view_is) ∙ ap front none;
    }

pub returns-in_default-var_head : goal.returns-in_default-var_head
returns-in_default-var_head c =
    let none =
    at_var c.self.inside.pending c.self.inside.rest.now c.in-Some.token.now c.in-Some.rest.now _ c.in-Some.ensures.cases.0 c.kind-kind.ensures
    (sym c.is_end.ensures ∙ c.if-is_end.false) (sym c.is_unfit.ensures ∙ c.if-is_unfit.false) (sym c.is_var.ensures ∙ c.if-is_var.true)
    ∙ c.in_default-var_head.ensures.steps c.self.inside.pending in
    record {
      known = ap (λ (l : Left). l.steps) (sym c.self.view_is) ∙ ap whole none;
      next = ap (λ (l : Left). l.front) (sym c.self.view_is) ∙ ap front none;
    }

pub returns-then-head : goal.returns-then-head
returns-then-head c =
    let e = c.in-Some.ensures.cases.0 in
    let count = ap (λ (l : Left). l.tokens) c.self.view_is in
    let name = c.in-Some-var_head.head.name.now in
    let behind = map said c.in-Some-var_head.head.rest.now in
    let is =
    at_var c.self.inside.pending c.self.inside.rest.now c.in-Some.token.now c.in-Some.rest.now _ e c.kind-kind.ensures
    (sym c.is_end.ensures ∙ c.if-is_end.false) (sym c.is_unfit.ensures ∙ c.if-is_unfit.false) (sym c.is_var.ensures ∙ c.if-is_var.true)
    ∙ (c.in-Some-var_head.ensures.steps c.self.inside.pending
    ∙ (ap (λ b. if b then first_then (begins name) (steps_from anywhere (None ∷ c.self.inside.pending) behind) else first_then (alone name) (steps_from anywhere c.self.inside.pending behind)) c.if-head.true
    ∙ ap (λ openers. first_then (begins name) (steps_from anywhere openers behind)) (sym c.in_ok-begin_fallback.ensures))) in
    record {
      first = ap (λ (l : Left). l.steps) (sym c.self.view_is) ∙ ap whole is;
      next = ap (λ (l : Left). l.front) (sym c.self.view_is) ∙ ap front is;
      fewer = omega (arith, count, ap length e, c.in-Some-var_head.ensures.fewer);
    }

pub returns-then-is_var : goal.returns-then-is_var
returns-then-is_var c =
    let e = c.in-Some.ensures.cases.0 in
    let count = ap (λ (l : Left). l.tokens) c.self.view_is in
    let name = c.in-Some-var_head.head.name.now in
    let behind = map said c.in-Some-var_head.head.rest.now in
    let is =
    at_var c.self.inside.pending c.self.inside.rest.now c.in-Some.token.now c.in-Some.rest.now _ e c.kind-kind.ensures
    (sym c.is_end.ensures ∙ c.if-is_end.false) (sym c.is_unfit.ensures ∙ c.if-is_unfit.false) (sym c.is_var.ensures ∙ c.if-is_var.true)
    ∙ (c.in-Some-var_head.ensures.steps c.self.inside.pending
    ∙ ap (λ b. if b then first_then (begins name) (steps_from anywhere (None ∷ c.self.inside.pending) behind) else first_then (alone name) (steps_from anywhere c.self.inside.pending behind)) c.if-head.false) in
    record {
      first = ap (λ (l : Left). l.steps) (sym c.self.view_is) ∙ ap whole is;
      next = ap (λ (l : Left). l.front) (sym c.self.view_is) ∙ ap front is;
      fewer = omega (arith, count, ap length e, c.in-Some-var_head.ensures.fewer);
    }

pub returns : goal.returns
returns c =
    let e = c.in-Some.ensures.cases.0 in
    let count = ap (λ (l : Left). l.tokens) c.self.view_is in
    let is =
    at_token c.self.inside.pending c.self.inside.rest.now c.in-Some.token.now c.in-Some.rest.now _ e c.kind-kind.ensures
    (sym c.is_end.ensures ∙ c.if-is_end.false) (sym c.is_unfit.ensures ∙ c.if-is_unfit.false) (sym c.is_var.ensures ∙ c.if-is_var.false)
    ∙ ap (λ openers. first_then (token (said c.in-Some.token.now)) (steps_from anywhere openers (map said c.in-Some.rest.now))) (sym c.in_ok-pass.ensures.passed) in
    record {
      first = ap (λ (l : Left). l.steps) (sym c.self.view_is) ∙ ap whole is;
      next = ap (λ (l : Left). l.front) (sym c.self.view_is) ∙ ap front is;
      fewer = omega (arith, count, ap length e);
    }
