use Rattle.std.proofs.Common.{List, false, map, sym, ap, ◌∙◌}
use Rattle.syntax_model.specs.Token.{Token, said}
use Rattle.custom_model.specs.Steps.{steps_in}
use Rattle.css_tokens.specs.Validity.{found_after}
use Rattle.css_tokens.proofs.ValidityLemmas.{stays_unplaced, not_valid, valid}
use Rattle.css_tokens.proofs.custom.value.CustomValue.read.Goals as goal

pub returns-then-not-is_valid : goal.returns-then-not-is_valid
returns-then-not-is_valid c =
    not_valid c.args.tokens.now c.in_ok-list.list.items c.in_ok-found.found c.in_ok-list.ensures
    (c.in_ok-found.ensures ∙ ap (λ (l : List Token). found_after false (steps_in (map said l))) c.deref.ensures.value) (sym c.is_valid.ensures ∙ c.if-not-is_valid.true)

pub kept-requires-clause-unplaced : goal.kept-requires-clause-unplaced
kept-requires-clause-unplaced c = stays_unplaced c.args.tokens.now c.in_ok-list.list.items c.in_ok-found.found c.in_ok-list.ensures

pub returns : goal.returns
returns c =
    valid c.args.tokens.now c.in_ok-list.list.items c.in_ok-found.found c.in_ok-list.ensures
    (c.in_ok-found.ensures ∙ ap (λ (l : List Token). found_after false (steps_in (map said l))) c.deref.ensures.value) c.in_ok-value.value c.in_ok-value.ensures (sym c.is_valid.ensures ∙ c.if-not-is_valid.false)
