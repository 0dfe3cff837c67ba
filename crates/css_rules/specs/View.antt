-- The rules and declarations of the code, as those of the definitions.
use Rattle.std.specs.Prelude.{List, map}
use Rattle.syntax_model.specs.Token.{Token}
use Rattle.syntax_model.specs.Rules as model
use Rattle.css_rules.specs.declared.rule.Context.{Context}
use Rattle.css_rules.specs.declared.rule.StyleBlock.{StyleBlock}
use Rattle.css_rules.specs.declared.rule.SheetEdition.{SheetEdition}
use Rattle.css_rules.specs.declared.rule.Rule.{Rule}
use Rattle.css_rules.specs.declared.rule.Rule.TheVariants.{Style, Layer}
use Rattle.css_rules.specs.declared.rule.RawDecl.{RawDecl}
use Rattle.css_rules.specs.declared.rule.DeclValue.{DeclValue}
use Rattle.css_rules.specs.declared.rule.DeclValue.TheVariants.{Lent, Closed}

abbrev pub edition_of : SheetEdition → model.SheetEdition
edition_of edition = record { sheet = edition.sheet; edition = edition.edition }

-- of a text that is of no sheet
abbrev pub no_edition : model.SheetEdition
no_edition = record { sheet = 0; edition = 0 }

abbrev pub context_of : Context → model.Context
context_of context = record { layer = context.layer }

abbrev pub contexts_of : List Context → List model.Context
contexts_of contexts = map context_of contexts

abbrev pub style_of : StyleBlock → model.StyleBlock
style_of rule = record { prelude = rule.prelude; block = rule.block; context = context_of rule.context }

abbrev pub rule_of : Rule → model.Rule
rule_of (Style rule) = model.style (style_of rule)
rule_of (Layer context) = model.layer (context_of context)

abbrev pub rules_of : List Rule → List model.Rule
rules_of rules = map rule_of rules

abbrev pub decl_value_of : DeclValue → List Token
decl_value_of (Lent tokens) = tokens.now
decl_value_of (Closed tokens) = tokens

abbrev pub declaration_of : RawDecl → model.Declaration
declaration_of declaration = record {
  name = declaration.name.now;
  value = decl_value_of declaration.value;
  important = declaration.important;
}

abbrev pub declarations_of : List RawDecl → List model.Declaration
declarations_of declarations = map declaration_of declarations
