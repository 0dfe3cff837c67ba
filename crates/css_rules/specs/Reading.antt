-- What a reader of rules says: the rule that was read last, and those that are left.
use Rattle.std.specs.Prelude.{List, [], ◌∷◌, Option, Some, None}
use Rattle.syntax_model.specs.Rules.{Rule, style, layer, Context}
use Rattle.css_rules.specs.declared.rule.RuleKind.{RuleKind}
use Rattle.css_rules.specs.declared.rule.RuleKind.TheVariants.{Style, Layer}

pub record Reading : Type 0 where
  pub current : Option Rule
  pub left : List Rule

-- before the first rule
abbrev pub unread : List Rule → Reading
unread rules = record { current = None; left = rules }

-- one rule further
abbrev pub moved : List Rule → Reading
moved [] = record { current = None; left = [] }
moved (rule ∷ left) = record { current = Some rule; left = left }

-- which kind of rule it is, and what it is in; a layer that is declared is in itself
abbrev pub kind_in : Rule → RuleKind
kind_in (style rule) = Style
kind_in (layer context) = Layer

abbrev pub context_in : Rule → Context
context_in (style rule) = rule.context
context_in (layer context) = context
