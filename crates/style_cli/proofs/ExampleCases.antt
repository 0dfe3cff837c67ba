-- How examples of whole jobs are computed: the declarations that apply to an element, its style, and its line.
use Rattle.std.proofs.Common.{◌≡◌, ℕ, ℤ, Bool, false, true, List, [], ◌∷◌, ◌++◌, Option, Some, is_none, map, if◌then◌else◌, append-nil, refl, ap, ◌∙◌}
use Rattle.std.specs.Prelude.{codes, decimal, encode_utf8_all, length, slice_get}
use Rattle.std.specs.List.{concat}
use Rattle.std.specs.FinMap as finmap
use Rattle.std.specs.Option.{option_map_or}
use Rattle.base_model.specs.Origin.{author}
use Rattle.base_model.specs.Specificity.{Specificity}
use Rattle.base_model.specs.Text.{Characters}
use Rattle.scene_model.specs.Ancestors.{ancestors}
use Rattle.scene_model.specs.Element.{Element}
use Rattle.scene_model.specs.Lookups.{numbers, parent_of, tag_of}
use Rattle.scene_model.specs.Nodes.{Node}
use Rattle.scene_model.specs.Scene.{elements_of}
use Rattle.layer_model.specs.Name.{no_layer}
use Rattle.layer_model.specs.Order.{layers_of}
use Rattle.selector_model.specs.Selector.{Selector}
use Rattle.custom_model.specs.Printed.{joined}
use Rattle.custom_model.proofs.Maps.{texts-empty}
use Rattle.value_model.specs.Value.{Value}
use Rattle.value_model.specs.Table.{table}
use Rattle.value_model.specs.Style.{Style, initial_style, initial_size, font_size_of}
use Rattle.value_model.specs.Printed.{declaration_texts}
use Rattle.sheet_model.specs.Declared.{Declared}
use Rattle.sheet_model.specs.Sources.{PlacedRule, Sources, sources_of}
use Rattle.cascade_model.specs.Key.{Matched}
use Rattle.cascade_model.specs.Matching.{all_matched, matching}
use Rattle.cascade_model.specs.Custom.{declared_values}
use Rattle.cascade_model.specs.Cascade.{cascaded, cascaded_over}
use Rattle.cascade_model.specs.StyleOf.{root_of, root_size_at, root_size_of, style_along, style_of}
use Rattle.cascade_model.proofs.ExampleCases.{cascaded_alone, styled, values_with}
use Rattle.session_model.specs.Batches.{Report}
use Rattle.layer_order.specs.declared.origin.Origin.TheVariants.{Author}
use Rattle.layer_order.specs.declared.sheet_input.SheetInput.{SheetInput}
use Rattle.report_text.specs.Lines.{batch_line, element_line}
use Rattle.report_text.specs.Elements.{element_lines, line_at}
use Rattle.style_cli.specs.Text.{batch_text, refused_lines, report_lines}
use Rattle.style_cli.proofs.BatchText.{lines_of, text_by}
use Rattle.style_cli.proofs.Printed.{encoded_lines}
use Rattle.base_model.proofs.Digits.{digit_0}

-- a node with these attributes, in no state
abbrev pub node : Option ℕ → Characters → List (Characters × Characters) → Node
node parent tag pairs = record {
  parent = parent;
  tag = tag;
  attrs = finmap.from_entries pairs;
  states = record { hover = false; active = false; focus = false };
}

abbrev pub sheet : Characters → SheetInput
sheet text = record { origin = Author; enabled = true; text = text }

-- a rule of the first sheet
abbrev pub rule : ℕ → List Selector → List Declared → PlacedRule
rule first_index selectors declarations = record {
  selectors = selectors;
  declarations = declarations;
  origin = author;
  layer = no_layer;
  sheet = 1;
  position = 0;
  first_index = first_index;
}

-- rules in no layer
abbrev pub over : List PlacedRule → Sources
over rules = record { rules = rules; layers = layers_of [] }

-- the declarations of a rule of a list, where it applies with this specificity
abbrev pub applied : List PlacedRule → ℕ → Specificity → List Matched
applied rules k specificity =
    option_map_or (λ rule. all_matched (layers_of []) rule specificity rule.first_index rule.declarations) (slice_get rules k) []

-- what declarations make of initial values but for some, where none is of a custom property
pub record IsBy (is_root : Bool) (parent changes : List (ℕ × Value)) (size : ℤ) (ds : List Matched) : Type 0 where
  pub alone : declared_values ds ≡ finmap.empty
  pub values : cascaded_over finmap.empty is_root (styled parent) size ds ≡ styled changes

cascaded_is : (is_root : Bool) (parent changes : List (ℕ × Value)) (size : ℤ) (ds : List Matched) → IsBy is_root parent changes size ds → cascaded is_root (styled parent) size ds ≡ styled changes
cascaded_is is_root parent changes size ds by = cascaded_alone is_root parent size ds by.alone ∙ by.values

-- the root
pub root_along : (doc : List Element) (sources : Sources) (x : ℕ) (changes : List (ℕ × Value)) (size : ℤ) (ds : List Matched) → is_none (parent_of doc x) ≡ true → matching doc sources x ≡ ds → IsBy true [] changes initial_size ds → style_along doc sources size (x ∷ []) ≡ styled changes
root_along doc sources x changes size ds root is by =
    ap (λ b. cascaded b initial_style (if b then initial_size else size) (matching doc sources x)) root
    ∙ (ap (cascaded true initial_style initial_size) is ∙ cascaded_is true [] changes initial_size ds by)

pub root_size_is : (doc : List Element) (sources : Sources) (x : ℕ) (changes : List (ℕ × Value)) (size : ℤ) (ds : List Matched) → root_of doc ≡ Some x → matching doc sources x ≡ ds → IsBy true [] changes initial_size ds → font_size_of (values_with changes) ≡ size → root_size_of doc sources ≡ size
unfolding root_size_of
root_size_is doc sources x changes size ds root is by sized =
    ap (λ o. option_map_or (root_size_at doc sources) o initial_size) root
    ∙ (ap (λ (s : Style). font_size_of s.values) (ap (cascaded true initial_style initial_size) is ∙ cascaded_is true [] changes initial_size ds by) ∙ sized)

-- an element below another one
pub child_along : (doc : List Element) (sources : Sources) (x : ℕ) (above : List ℕ) (parent changes : List (ℕ × Value)) (size : ℤ) (ds : List Matched) → style_along doc sources size above ≡ styled parent → is_none (parent_of doc x) ≡ false → matching doc sources x ≡ ds → IsBy false parent changes size ds → style_along doc sources size (x ∷ above) ≡ styled changes
child_along doc sources x above parent changes size ds known child is by =
    let before : Style = style_along doc sources size above in
    ap (λ b. cascaded b before (if b then initial_size else size) (matching doc sources x)) child
    ∙ (ap (λ s. cascaded false s size (matching doc sources x)) known
    ∙ (ap (cascaded false (styled parent) size) is ∙ cascaded_is false parent changes size ds by))

-- the line of an element, by these texts of its values
abbrev shown : Characters → Characters → List Characters → Characters
shown number tag texts =
    number ++ (codes " " ++ (tag ++ (codes "{" ++ (joined (codes "; ") texts ++ codes "}\n"))))

line_is : (n : ℕ) (tag number : Characters) (style : Style) (changes : List (ℕ × Value)) (texts : List Characters) → style ≡ styled changes → declaration_texts table (values_with changes) ≡ texts → decimal n ≡ number → element_line n tag style ≡ shown number tag texts
unfolding element_line
line_is n tag number style changes texts is printed digits =
    ap (element_line n tag) is
    ∙ (ap (λ custom. shown (decimal n) tag (declaration_texts table (values_with changes) ++ custom)) texts-empty
    ∙ (ap (shown (decimal n) tag) (append-nil (declaration_texts table (values_with changes)) ∙ printed)
    ∙ ap (λ d. shown d tag texts) digits))

pub line_along : (doc : List Element) (sources : Sources) (x : ℕ) (above : List ℕ) (tag number : Characters) (changes : List (ℕ × Value)) (size : ℤ) (texts : List Characters) → root_size_of doc sources ≡ size → ancestors doc x ≡ above → tag_of doc x ≡ tag → decimal x ≡ number → style_along doc sources size (x ∷ above) ≡ styled changes → declaration_texts table (values_with changes) ≡ texts → line_at doc sources x ≡ shown number tag texts
unfolding style_of
line_along doc sources x above tag number changes size texts root up named digits styled printed =
    ap (λ t. element_line x t (style_of doc sources x)) named
    ∙ line_is x tag number (style_of doc sources x) changes texts (ap (λ z. style_along doc sources z (x ∷ ancestors doc x)) root ∙ (ap (λ l. style_along doc sources size (x ∷ l)) up ∙ styled)) printed digits

-- the lines of elements in an order
abbrev pub AreLines : (ℕ → Characters) → List ℕ → List Characters → Type 0
AreLines f [] [] = Unit {0}
AreLines f [] (line ∷ lines) = ⊥
AreLines f (x ∷ order) [] = ⊥
AreLines f (x ∷ order) (line ∷ lines) = (f x ≡ line) × AreLines f order lines

lines_made : (f : ℕ → Characters) (order : List ℕ) (lines : List Characters) → AreLines f order lines → map f order ≡ lines
lines_made f [] [] made = refl
lines_made f [] (line ∷ lines) made = absurd made
lines_made f (x ∷ order) [] made = absurd made
lines_made f (x ∷ order) (line ∷ lines) made =
    ap (λ l. l ∷ map f order) made.0 ∙ ap (λ l. line ∷ l) (lines_made f order lines made.1)

-- the line of a batch, by the digits of its numbers
abbrev batch_with : Characters → Characters → Characters
batch_with none count =
    codes "batch " ++ (none ++ (codes ": " ++ (none ++ (codes " accepted, " ++ (none
    ++ (codes " refused, " ++ (count ++ (codes " matched, " ++ (count ++ codes " cascaded\n")))))))))

batch_is : (n : ℕ) (count : Characters) → decimal n ≡ count → batch_line 0 0 0 n n ≡ batch_with (codes "0") count
unfolding batch_line
batch_is n count digits = ap (λ none. batch_with none (decimal n)) digit_0 ∙ ap (batch_with (codes "0")) digits

-- the text of a document whose lines were computed
pub text_is : (doc : List Element) (sources : Sources) (order : List ℕ) (count : Characters) (lines : List Characters) → numbers doc ≡ order → decimal (length doc) ≡ count → AreLines (line_at doc sources) order lines → text_by doc sources ≡ encode_utf8_all (concat (batch_with (codes "0") count ∷ lines))
unfolding text_by
text_is doc sources order count lines is many made =
    encoded_lines (lines_of doc sources)
    ∙ (ap (λ l. encode_utf8_all (concat (batch_line 0 0 0 (length doc) (length doc) ∷ map (line_at doc sources) l))) is
    ∙ (ap (λ l. encode_utf8_all (concat (batch_line 0 0 0 (length doc) (length doc) ∷ l))) (lines_made (line_at doc sources) order lines made)
    ∙ ap (λ b. encode_utf8_all (concat (b ∷ lines))) (batch_is (length doc) count many)))

-- the text of a batch whose lines were computed
pub report_is : (n : ℕ) (report : Report) (order : List ℕ) (first : Characters) (told lines : List Characters) → batch_line n report.accepted (length report.refusals) report.matched report.cascaded ≡ first → refused_lines report.refusals ≡ told → numbers (elements_of report.scene) ≡ order → AreLines (line_at (elements_of report.scene) (sources_of report.scene.sheets)) order lines → batch_text n report ≡ encode_utf8_all (concat (first ∷ (told ++ lines)))
unfolding batch_text
report_is n report order first told lines counted refused is made =
    let line = line_at (elements_of report.scene) (sources_of report.scene.sheets) in
    encoded_lines (report_lines n report)
    ∙ (ap (λ b. encode_utf8_all (concat (b ∷ (refused_lines report.refusals ++ element_lines report.scene)))) counted
    ∙ (ap (λ r. encode_utf8_all (concat (first ∷ (r ++ element_lines report.scene)))) refused
    ∙ ap (λ l. encode_utf8_all (concat (first ∷ (told ++ l)))) (ap (map line) is ∙ lines_made line order lines made)))
