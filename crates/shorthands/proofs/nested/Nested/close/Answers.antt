use Rattle.std.proofs.Common.{◌≡◌, Some, ap, sym, ◌∙◌, rules, option_map, ◌<◌, ◌^◌}
use denote.Enum.Bare.{same_true}
use Rattle.syntax_model.specs.Brackets.{without_closed}
use Rattle.css_tokens.specs.View.{bracket_of}
use Rattle.css_tokens.specs.contracts.bracket.Bracket.{the_type}
use Rattle.shorthands.specs.Digits.{brackets_in, first_bracket}
use Rattle.shorthands.proofs.DigitLemmas.{closed_is}
use Rattle.shorthands.proofs.nested.Nested.close.Goals as goal

pub returns-then-eq : goal.returns-then-eq
returns-then-eq c =
    let small : c.self.inside.digits < 2 ^ 128 = search rules in
    let same : c.in-Some-Some.innermost ≡ c.in-Some-Some.closed = same_true the_type tt _ _ (sym c.eq.ensures ∙ c.if-eq.true) in
    let first : first_bracket c.args.self.now ≡ Some (bracket_of c.in-Some-Some.closed) = sym c.innermost.ensures ∙ (ap (option_map bracket_of) c.in-Some-Some.is-0 ∙ ap (λ b. Some (bracket_of b)) same) in
    let view : brackets_in c.self.inside.digits ≡ c.args.self.now = c.self.view_is in
    closed_is c.self.inside.digits (bracket_of c.in-Some-Some.closed) small (ap first_bracket view ∙ first)
    ∙ (ap (λ pending. without_closed pending (Some (bracket_of c.in-Some-Some.closed))) view
    ∙ ap (λ bracket. without_closed c.args.self.now (option_map bracket_of bracket)) (sym c.in-Some-Some.is-1))
