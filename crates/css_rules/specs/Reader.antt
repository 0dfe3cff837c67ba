-- What a reader of rules knows.
use Rattle.std.specs.Prelude.{List, Option, Some, None}
use Rattle.syntax_model.specs.Token.{Token}
use Rattle.syntax_model.specs.Rules as model
use Rattle.css_rules.specs.Left.{rules_left}
use Rattle.css_rules.specs.Parser.{ended_of, walk_of}
use Rattle.css_rules.specs.Reading.{Reading}
use Rattle.css_rules.specs.View.{context_of}
use Rattle.css_rules.specs.declared.rule.Context.{Context}
use Rattle.css_rules.specs.declared.rule.RuleKind.{RuleKind}
use Rattle.css_rules.specs.declared.rule.RuleKind.TheVariants.{Style, Layer}
use Rattle.css_rules.specs.declared.rule_parser.RuleParser.{RuleParser}

-- the rule that was read last, by its kind: that which ended last, or a layer
abbrev pub current_of : Option RuleKind → RuleParser → Context → Option model.Rule
current_of None parser declared = None
current_of (Some Style) parser declared = Some (ended_of parser)
current_of (Some Layer) parser declared = Some (model.layer (context_of declared))

abbrev pub reading_of : List Token → RuleParser → Option RuleKind → Context → Reading
reading_of tokens parser kind declared =
    record { current = current_of kind parser declared; left = rules_left (walk_of parser) tokens }
