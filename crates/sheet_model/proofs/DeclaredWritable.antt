-- What the declarations of a text hold of custom properties can be written: the values of these, and the tokens that
-- refer to them.
use Rattle.std.proofs.Common.{List, Option, Some, None, IfSome}
use Rattle.std.specs.List.{AllByRecursion}
use Rattle.base_model.specs.Text.{Characters}
use Rattle.base_model.proofs.Lists.{each_any}
use Rattle.syntax_model.specs.Token.{Token}
use Rattle.syntax_model.specs.Rules.{SheetEdition}
use Rattle.custom_model.proofs.WritableLemmas.{Writable}
use Rattle.value_model.specs.Value.{Value}
use Rattle.sheet_model.specs.Shorthands.{PropertyName, values_in}
use Rattle.sheet_model.specs.Declared.{Given, wide, exactly, referring, holding, Declared, style_declared}
use Rattle.sheet_model.specs.StyleRules.{StyleRule, style_rules_in}
use Rattle.sheet_model.proofs.DeclaredGiven.{style_gives, rules_give}

-- what a property is given holds no value that can't be written
abbrev pub GivenWritable : Given → Type 0
GivenWritable (wide word) = Unit
GivenWritable (exactly value) = Unit
GivenWritable (referring property tokens) = Writable tokens
GivenWritable (holding value) = Writable value

abbrev pub DeclaredWritable : Declared → Type 0
DeclaredWritable declared = GivenWritable declared.given

exact_written : (property_name : PropertyName) (tokens : List Token) → IfSome (values_in property_name tokens) (AllByRecursion (λ (value : Value). GivenWritable (exactly value)))
exact_written property_name tokens = by (values_in property_name tokens) where
  by : (o : Option (List Value)) → IfSome o (AllByRecursion (λ (value : Value). GivenWritable (exactly value)))
  by None = tt
  by (Some values) = each_any (λ (value : Value). GivenWritable (exactly value)) (λ value. tt) values

-- of the text of a `style` attribute
pub style_declared_writable : (text : Characters) → AllByRecursion DeclaredWritable (style_declared text)
style_declared_writable text = style_gives GivenWritable (λ _. tt) exact_written (λ _ _ k. k) (λ _ k. k) text

-- and of the rules of a sheet's text

abbrev pub StyleRuleWritable : StyleRule → Type 0
StyleRuleWritable rule = AllByRecursion DeclaredWritable rule.declarations

pub style_rules_writable : (edition : SheetEdition) (text : Characters) → AllByRecursion StyleRuleWritable (style_rules_in edition text)
style_rules_writable edition text = rules_give GivenWritable (λ _. tt) exact_written (λ _ _ k. k) (λ _ k. k) edition text
