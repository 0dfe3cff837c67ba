-- What keywords, colours, values, forms, properties and rows of the code stand for.
use Rattle.std.specs.Prelude.{ℕ, List, [], filter, map, length, Bool, false, slice_index_or, slice_get, unwrap_or}
use Rattle.std.specs.List.{range_with_len}
use Rattle.std.specs.Option.{option_map_or}
use Rattle.base_model.specs.Thousandths.{clamped}
use Rattle.std.specs.Str.{chars}
use Rattle.base_model.specs.Text.{Characters}
use Rattle.value_model.specs.Color as color_model
use Rattle.value_model.specs.Value as value_model
use Rattle.value_model.specs.Table as model
use denote.Enum.Declared.{tag_of}
use Rattle.property_table.specs.declared.keyword.TheConstants.{WORDS}
use Rattle.property_table.specs.declared.keyword.Keyword.{Keyword}
use Rattle.property_table.specs.contracts.keyword.Keyword.{the_type as keyword_type}
use Rattle.property_table.specs.declared.color.Color.{Color}
use Rattle.property_table.specs.declared.value.Value.{Value}
use Rattle.property_table.specs.declared.value.Value.TheVariants as value
use Rattle.property_table.specs.declared.value_form.ValueForm.{ValueForm}
use Rattle.property_table.specs.declared.value_form.ValueForm.TheVariants.{Word, Named, AnyColor, Length, Percentage, Number}
use Rattle.property_table.specs.declared.value_form.ComputeRule.{ComputeRule}
use Rattle.property_table.specs.declared.value_form.ComputeRule.TheVariants as rule
use Rattle.property_table.specs.declared.constant.Constant.{Constant}
use Rattle.property_table.specs.declared.constant.Constant.TheVariants as constant
use Rattle.property_table.specs.declared.property.PropId.{PropId}
use Rattle.property_table.specs.contracts.property.PropId.{the_type as property_type}
use Rattle.property_table.specs.declared.property.PropertyRow.{PropertyRow}

-- its text, in lower case, as the code lists the texts in the order of the variants
abbrev pub word_of : Keyword → Characters
word_of keyword = unwrap_or (slice_get (map (λ text. text.now) WORDS.now) (tag_of keyword_type keyword)) []

abbrev pub color_of : Color → color_model.Color
color_of c = record { red = c.red; green = c.green; blue = c.blue; alpha = c.alpha }

abbrev pub value_seen : Value → value_model.Value
value_seen (value.Keyword word) = value_model.keyword (word_of word)
value_seen (value.Color color) = value_model.color (color_of color)
value_seen (value.Pixels z) = value_model.pixels z
value_seen (value.Percent z) = value_model.percent z
value_seen (value.Number z) = value_model.number z
value_seen (value.Em z) = value_model.em z
value_seen (value.Rem z) = value_model.rem z

abbrev pub constant_of : Constant → value_model.Value
constant_of (constant.Keyword word) = value_model.keyword (word_of word)
constant_of (constant.Color color) = value_model.color (color_of color)
constant_of (constant.Pixels z) = value_model.pixels (clamped z)
constant_of (constant.Number z) = value_model.number (clamped z)

abbrev pub form_of : ValueForm → model.ValueForm
form_of (Word word) = model.named (word_of word) (value_model.keyword (word_of word))
form_of (Named text constant) = model.named (chars text.now) (constant_of constant)
form_of AnyColor = model.any_color
form_of (Length negative zero) = model.length negative zero
form_of (Percentage negative) = model.percentage negative
form_of (Number least most) = model.number_within least most

abbrev pub compute_rule_of : ComputeRule → model.ComputeRule
compute_rule_of rule.Plain = model.plain
compute_rule_of rule.Color = model.of_color
compute_rule_of rule.FontSize = model.of_font_size
compute_rule_of rule.FontWeight = model.of_font_weight
compute_rule_of rule.LineHeight = model.of_line_height

-- its row in the table
abbrev pub property_of : PropId → ℕ
property_of id = tag_of property_type id

-- what its row says; that the table has it is a clause of `PropertyRow::of`
abbrev pub row_of : PropId → model.PropertyRow
row_of id = slice_index_or model.table (property_of id) model.color_row

-- what a row of the code says
abbrev pub row_seen : PropertyRow → model.PropertyRow
row_seen row = record {
  name = chars row.name.now;
  inherited = row.inherited;
  initial = constant_of row.initial;
  standing = constant_of row.standing;
  forms = map form_of row.forms.now;
  rule = compute_rule_of row.rule;
}

-- whether the property of a row of the table is inherited
abbrev pub is_inherited : ℕ → Bool
is_inherited property =
    option_map_or (λ (row : model.PropertyRow). row.inherited) (slice_get model.table property) false

-- the properties that are inherited, in the order of the table
abbrev pub inherited_properties : List ℕ
inherited_properties = filter is_inherited (range_with_len 0 (length model.table))
