use Rattle.std.proofs.Common.{map, sym, arith}
use Rattle.std.proofs.lemmas.List.{length-map}
use Rattle.syntax_model.specs.Token.{said}
use Rattle.css_tokens.proofs.ValidityLemmas.{plain_few, plain_found, plain_normal}
use Rattle.css_tokens.proofs.custom.value.Validity.is_plain.Goals as goal

pub returns-in_default : goal.returns-in_default
returns-in_default c = (
  λ t. cc,
  λ all. absurd (c.in_default.not-Plain (sym (plain_found (map said c.args.tokens.now) c.args.self c.requires all))),
)

pub returns-then-tokens-gt-TOKEN_LIMIT : goal.returns-then-tokens-gt-TOKEN_LIMIT
returns-then-tokens-gt-TOKEN_LIMIT c = (
  λ t. cc,
  λ all. absurd (omega (arith, length-map c.args.tokens.now said, plain_few (map said c.args.tokens.now) c.args.self c.requires all)),
)

pub returns : goal.returns
returns c =
    plain_normal (map said c.args.tokens.now) c.args.self c.requires (sym c.in-Plain.is) (omega (arith, length-map c.args.tokens.now said)) c.are_normal.result c.are_normal.ensures
