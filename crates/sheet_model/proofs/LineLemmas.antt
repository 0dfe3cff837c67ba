-- The values that tokens are read as hold no line feed in their words: all words come from the table. So the
-- declarations of a text give no others.
use Rattle.std.proofs.Common.{◌≡◌, ℕ, ◌+◌, ℤ, Bool, true, cond, List, [], ◌∷◌, find, map, zip, Option, Some, None, length as count, option_map, slice_get, IfSome, eqb, refl}
use Rattle.std.specs.Prelude.{◌&&◌, codes, int_le, pos}
use Rattle.std.specs.Ordering.{int_eq}
use Rattle.std.specs.List.{AllByRecursion, list_all}
use Rattle.std.specs.Option.{option_or}
use Rattle.std.proofs.lemmas.Bool.{and_parts, cond_both}
use Rattle.base_model.specs.Lists.{every, first_some}
use Rattle.base_model.specs.Options.{◌>>=◌}
use Rattle.base_model.proofs.Lists.{each-append}
use Rattle.base_model.specs.Sheet.{Sheet}
use Rattle.base_model.specs.LineFeeds.{is_within_line}
use Rattle.base_model.specs.Text.{Characters, is_word}
use Rattle.syntax_model.specs.Token.{Token, TokenKind, dimension, number}
use Rattle.syntax_model.specs.Token as token
use Rattle.syntax_model.specs.Numbers.{thousandths}
use Rattle.syntax_model.specs.Rules.{SheetEdition}
use Rattle.custom_model.proofs.WritableLemmas.{Writable}
use Rattle.value_model.specs.Color.{Color}
use Rattle.value_model.specs.Value.{Value, color, current_color}
use Rattle.value_model.specs.Table.{PropertyRow, ValueForm, named, any_color, length, number_within, table}
use Rattle.value_model.specs.Table as form
use Rattle.value_model.proofs.LineLemmas.{AreLineValues, IsLineValue, is_line_form, is_line_value, row_within}
use Rattle.sheet_model.specs.Shorthands.{PropertyName, longhands_named, parts_named, value_for, values_in}
use Rattle.sheet_model.specs.ValueIn.{LengthUnit, Measure, color_in, hex_color_in, ident_in, in_unit, is_allowed, length_by, measured, named_color_in, named_in, number_by, of_element, of_pixel, of_root, percentage_by, rgb_in, units, value_by, value_in}
use Rattle.sheet_model.specs.Declared.{Given, wide, exactly, referring, holding, Declared, style_declared}
use Rattle.sheet_model.specs.StyleRules.{StyleRule, style_rules_in}
use Rattle.sheet_model.specs.Sources.{PlacedRule, Sources, all_placed, edition_of, enabled_among, rules_from, rules_of_sheets, sources_of}
use Rattle.sheet_model.proofs.DeclaredGiven.{style_gives, rules_give}

-- what one form of a property reads

abbrev ReadsLine : Option Value → Type 0
ReadsLine o = IfSome o IsLineValue

named_within : (text : Characters) (read : Value) (tokens : List Token) → IsLineValue read → ReadsLine (named_in text read tokens)
named_within text read tokens h = by (ident_in tokens) where
  by : (o : Option Characters) → ReadsLine (o >>= (λ name. cond (is_word text name) (Some read) None))
  by None = tt
  by (Some name) = cond_both (is_word text name) _ _ ReadsLine (λ _. h) (λ _. tt)

color_within : (tokens : List Token) → ReadsLine (color_in tokens)
color_within tokens =
    by (named_in (codes "currentcolor") current_color tokens) (option_or (hex_color_in tokens) (option_or (named_color_in tokens) (rgb_in tokens)))
    (named_within (codes "currentcolor") current_color tokens refl)
  where
    by : (first : Option Value) (other : Option Color) → ReadsLine first → ReadsLine (option_or first (option_map color other))
    by (Some value) other h = h
    by None None h = tt
    by None (Some c) h = refl

measured_within : (measure : Measure) (z : ℤ) → IsLineValue (measured measure z)
measured_within (of_pixel n d) z = refl
measured_within of_element z = refl
measured_within of_root z = refl

unit_within : (name : Characters) (z : ℤ) → ReadsLine (in_unit name z)
unit_within name z = by (find (λ unit. is_word unit.name name) units) where
  by : (o : Option LengthUnit) → ReadsLine (option_map (λ unit. measured unit.measure z) o)
  by None = tt
  by (Some unit) = measured_within unit.measure z

length_within : (negative zero : Bool) (kind : TokenKind) (unit : Characters) (z : ℤ) → ReadsLine (length_by negative zero kind unit z)
length_within negative zero (dimension is_integer) unit z =
    cond_both (is_allowed negative z) _ _ ReadsLine (λ _. unit_within unit z) (λ _. tt)
length_within negative zero (number is_integer) unit z =
    cond_both (zero && int_eq z (pos 0)) _ _ ReadsLine (λ _. refl) (λ _. tt)
length_within negative zero kind unit z = tt

percentage_within : (negative : Bool) (kind : TokenKind) (z : ℤ) → ReadsLine (percentage_by negative kind z)
percentage_within negative token.percentage z = cond_both (is_allowed negative z) _ _ ReadsLine (λ _. refl) (λ _. tt)
percentage_within negative kind z = tt

number_within_line : (least most : ℤ) (kind : TokenKind) (z : ℤ) → ReadsLine (number_by least most kind z)
number_within_line least most (number is_integer) z =
    cond_both (int_le least z && int_le z most) _ _ ReadsLine (λ _. refl) (λ _. tt)
number_within_line least most kind z = tt

form_within : (form : ValueForm) (tokens : List Token) → is_line_form form ≡ true → ReadsLine (value_by form tokens)
form_within (named text read) tokens h = named_within text read tokens h
form_within any_color tokens h = color_within tokens
form_within (length negative zero) [] h = tt
form_within (length negative zero) (token ∷ []) h = length_within negative zero token.kind token.name (thousandths token.spelling)
form_within (length negative zero) (token ∷ next ∷ tokens) h = tt
form_within (form.percentage negative) [] h = tt
form_within (form.percentage negative) (token ∷ []) h = percentage_within negative token.kind (thousandths token.spelling)
form_within (form.percentage negative) (token ∷ next ∷ tokens) h = tt
form_within (number_within least most) [] h = tt
form_within (number_within least most) (token ∷ []) h = number_within_line least most token.kind (thousandths token.spelling)
form_within (number_within least most) (token ∷ next ∷ tokens) h = tt

-- the value of a property

first_within : (forms : List ValueForm) (tokens : List Token) → list_all is_line_form forms ≡ true → ReadsLine (first_some (λ form. value_by form tokens) forms)
first_within [] tokens h = tt
first_within (form ∷ forms) tokens h =
    let parts = and_parts (is_line_form form) _ h in
    by (value_by form tokens) (form_within form tokens parts.0) (first_within forms tokens parts.1)
  where
    by : (o : Option Value) → ReadsLine o → ReadsLine (first_some (λ form. value_by form tokens) forms) → ReadsLine (elim o [ Some y ↦ Some y | None ↦ first_some (λ form. value_by form tokens) forms ])
    by (Some value) k rest = k
    by None k rest = rest

value_within : (property : ℕ) (tokens : List Token) → ReadsLine (value_in property tokens)
unfolding value_in
value_within property tokens = by (slice_get table property) refl where
  by : (o : Option PropertyRow) → slice_get table property ≡ o → ReadsLine (o >>= (λ row. first_some (λ form. value_by form tokens) row.forms))
  by None at = tt
  by (Some row) at =
      let parts = and_parts (is_within_line row.name) _ (row_within property row at) in
      first_within row.forms tokens (and_parts (is_line_value row.initial) _ parts.1).1

-- those of the properties that a name names

all_within : (ids : List ℕ) (parts : List (List Token)) → IfSome (every (map (λ (pair : ℕ × List Token). value_in pair.0 pair.1) (zip ids parts))) AreLineValues
all_within [] parts = tt
all_within (id ∷ ids) [] = tt
all_within (id ∷ ids) (part ∷ parts) = by (value_in id part) (every (map (λ (pair : ℕ × List Token). value_in pair.0 pair.1) (zip ids parts))) (value_within id part) (all_within ids parts) where
  by : (o : Option Value) (rest : Option (List Value)) → ReadsLine o → IfSome rest AreLineValues → IfSome (o >>= (λ x. rest >>= (λ xs. Some (x ∷ xs)))) AreLineValues
  by None rest h k = tt
  by (Some value) None h k = tt
  by (Some value) (Some values) h k = (h, k)

values_within : (property_name : PropertyName) (tokens : List Token) → IfSome (values_in property_name tokens) AreLineValues
values_within property_name tokens = by (parts_named property_name tokens) where
  by : (o : Option (List (List Token))) → IfSome (o >>= (λ parts. every (map (λ (pair : ℕ × List Token). value_in pair.0 pair.1) (zip (longhands_named property_name) parts)))) AreLineValues
  by None = tt
  by (Some parts) = all_within (longhands_named property_name) parts

found_line : (test : ℕ × Value → Bool) (ids : List ℕ) (values : List Value) → AreLineValues values → ReadsLine (option_map (λ (pair : ℕ × Value). pair.1) (find test (zip ids values)))
found_line test [] values h = tt
found_line test (id ∷ ids) [] h = tt
found_line test (id ∷ ids) (value ∷ values) h =
    cond_both (test (id, value)) _ _ (λ (o : Option (ℕ × Value)). ReadsLine (option_map (λ (pair : ℕ × Value). pair.1) o)) (λ _. h.0) (λ _. found_line test ids values h.1)

pub value_for_within : (property_name : PropertyName) (id : ℕ) (tokens : List Token) → IfSome (value_for property_name id tokens) IsLineValue
value_for_within property_name id tokens = by (values_in property_name tokens) (values_within property_name tokens) where
  by : (o : Option (List Value)) → IfSome o AreLineValues → ReadsLine (o >>= (λ values. option_map (λ (pair : ℕ × Value). pair.1) (find (λ (pair : ℕ × Value). eqb pair.0 id) (zip (longhands_named property_name) values))))
  by None h = tt
  by (Some values) h = found_line (λ (pair : ℕ × Value). eqb pair.0 id) (longhands_named property_name) values h

-- what a declaration gives: such a value, or tokens that can be written
abbrev pub IsLineGiven : Given → Type 0
IsLineGiven (wide word) = Unit
IsLineGiven (exactly value) = IsLineValue value
IsLineGiven (referring property_name tokens) = Writable tokens
IsLineGiven (holding tokens) = Writable tokens

abbrev pub AreLineDeclared : List Declared → Type 0
AreLineDeclared ds = AllByRecursion (λ (d : Declared). IsLineGiven d.given) ds

pub style_declared_within : (text : Characters) → AreLineDeclared (style_declared text)
style_declared_within text = style_gives IsLineGiven (λ _. tt) values_within (λ _ _ k. k) (λ _ k. k) text

style_rules_within : (edition : SheetEdition) (text : Characters) → AllByRecursion (λ (rule : StyleRule). AreLineDeclared rule.declarations) (style_rules_in edition text)
style_rules_within edition text = rules_give IsLineGiven (λ _. tt) values_within (λ _ _ k. k) (λ _ k. k) edition text

-- the rules of the sheets of a document

abbrev pub IsLineRule : PlacedRule → Type 0
IsLineRule rule = AreLineDeclared rule.declarations

pub record AreLineSources (sources : Sources) : Type 0 where
  pub rules : AllByRecursion IsLineRule sources.rules

placed_within : (sheet : Sheet) (position first_index : ℕ) (rules : List StyleRule) → AllByRecursion (λ (rule : StyleRule). AreLineDeclared rule.declarations) rules → AllByRecursion IsLineRule (all_placed sheet position first_index rules)
placed_within sheet position first_index [] h = tt
placed_within sheet position first_index (rule ∷ rules) h = (h.0, placed_within sheet position (first_index + count rule.declarations) rules h.1)

rules_from_within : (position : ℕ) (sheets : List Sheet) → AllByRecursion IsLineRule (rules_from position sheets)
rules_from_within position [] = tt
rules_from_within position (sheet ∷ sheets) =
    each-append IsLineRule (all_placed sheet position 0 (style_rules_in (edition_of sheet) sheet.text)) (rules_from (position + 1) sheets)
    (placed_within sheet position 0 (style_rules_in (edition_of sheet) sheet.text) (style_rules_within (edition_of sheet) sheet.text))
    (rules_from_within (position + 1) sheets)

pub sources_within : (sheets : List Sheet) → AreLineSources (sources_of sheets)
unfolding rules_of_sheets
sources_within sheets = record { rules = rules_from_within 0 (enabled_among sheets) }
