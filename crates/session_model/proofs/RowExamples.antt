-- What a restyle matches and cascades: `1 html; 2 p in 1; 3 i in 2; 4 b in 3`, with the sheet `i{margin:inherit}`.
use Rattle.std.proofs.Common.{◌≡◌, ap, ◌∙◌, ℕ, Bool, List, [], ◌∷◌, ◌++◌, Option, Some, None, refl, sym, false, true, not, ◌||◌}
use Rattle.std.specs.Prelude.{codes, filter, length, ◌==◌}
use Rattle.std.proofs.lemmas.List.{append-nil}
use Rattle.std.specs.FinMap as maps
use Rattle.std.specs.FinMap.{gets}
use Rattle.base_model.specs.Text.{Characters}
use Rattle.base_model.specs.Origin.{author}
use Rattle.base_model.specs.Sheet.{Sheet}
use Rattle.layer_model.specs.Order.{layers_of, layer_order, declared, rank_in}
use Rattle.syntax_model.specs.SheetRules.{no_context, rules_in}
use Rattle.syntax_model.specs.TokensIn.{tokens_in}
use Rattle.syntax_model.specs.RulesIn.{declarations_in}
use Rattle.syntax_model.specs.Numbers.{thousandths}
use Rattle.syntax_model.specs.Wide.{inherit}
use Rattle.custom_model.specs.Parts.{parts}
use Rattle.scene_model.specs.Element.{Element, Attributes}
use Rattle.scene_model.specs.Ancestors.{ancestors}
use Rattle.selector_model.specs.Selector.{subject, any, with_test, type_selector, simple}
use Rattle.value_model.specs.Value.{Value}
use Rattle.value_model.specs.Table.{table}
use Rattle.value_model.specs.Table.{display_property, clear_property, margin_top_property, margin_right_property}
use Rattle.value_model.specs.Table.{margin_bottom_property, margin_left_property}
use Rattle.value_model.specs.Color.{named_colors}
use Rattle.value_model.specs.Style.{Style, initial_style, initial_size, font_size_of}
use Rattle.sheet_model.specs.Declared.{Declared, longhand, wide, style_declared}
use Rattle.sheet_model.proofs.ExampleCases.{declares}
use Rattle.sheet_model.specs.SelectorsIn.{selectors_in}
use Rattle.sheet_model.specs.ValueIn.{value_in, units}
use Rattle.sheet_model.specs.StyleRules.{style_rules_in, layers_in}
use Rattle.sheet_model.specs.Sources.{Sources, all_placed, sources_of, rules_of_sheets, layers_of_sheets}
use Rattle.cascade_model.specs.Key.{Matched}
use Rattle.layer_model.specs.Name.{no_layer}
use Rattle.selector_model.specs.SpecificityOf.{specificity_of}
use Rattle.cascade_model.specs.Matching.{matching, matching_rules, matching_style, all_matched, all_attached}
use Rattle.cascade_model.specs.Ending.{ending_of}
use Rattle.cascade_model.specs.Custom.{declared_values}
use Rattle.cascade_model.specs.Cascade.{cascaded, cascaded_over}
use Rattle.cascade_model.specs.StyleOf.{root_size_of, style_of}
use Rattle.cascade_model.proofs.ExampleCases.{word, px, styled, no_borders, cascaded_alone}
use Rattle.std.specs.Option.{option_map_or}
use Rattle.scene_model.specs.Lookups.{parent_of}
use Rattle.scene_model.specs.Scene.{Scene, elements_of}
use Rattle.session_model.specs.Same.{same_style}
use Rattle.session_model.proofs.KeepsLemmas.{is_style-own, has_size-own}
use Rattle.session_model.specs.Standing.{is_style, Standing, style_in, root_size_in, kept_at, is_matched, root_size_differs, is_cascaded, matched_count, cascaded_count, started, restyled, changed}

abbrev pub element : ℕ → Option ℕ → Characters → Attributes → Element
element n p tag attrs = record {
  number = n;
  parent = p;
  tag = tag;
  attrs = attrs;
  states = record { hover = false; active = false; focus = false };
}

abbrev els : Attributes → List Element
els attrs =
    element 1 None (codes "html") maps.empty ∷ element 2 (Some 1) (codes "p") attrs
    ∷ element 3 (Some 2) (codes "i") maps.empty ∷ element 4 (Some 3) (codes "b") maps.empty ∷ []

abbrev with_style : Characters → Attributes
with_style text = maps.insert maps.empty (codes "style") text

abbrev sheet : Sheet
sheet = record { number = 1; origin = author; enabled = true; text = codes "i{margin:inherit}"; edition = 0 }

abbrev pub inherits_at : ℕ → Declared
inherits_at property = record { target = longhand property; given = wide inherit; important = false }

abbrev sources : Sources
sources = record {
  rules = all_placed sheet 0 0 (record {
    selectors = subject (with_test (simple (type_selector (codes "i"))) any) ∷ [];
    declarations = inherits_at margin_top_property ∷ inherits_at margin_right_property ∷ inherits_at margin_bottom_property ∷ inherits_at margin_left_property ∷ [];
    context = no_context;
  } ∷ []);
  layers = layers_of [];
}

are_sources : sources_of (sheet ∷ []) ≡ sources
unfolding rules_of_sheets layers_of_sheets layers_in style_rules_in rules_in tokens_in declarations_in selectors_in value_in thousandths units table named_colors parts layer_order declared
are_sources = refl

margin : List Declared
margin = declares margin_top_property (px 1) ∷ declares margin_right_property (px 1) ∷ declares margin_bottom_property (px 1) ∷ declares margin_left_property (px 1) ∷ []

margin_is : style_declared (codes "margin:1px") ≡ margin
unfolding margin style_declared tokens_in declarations_in value_in thousandths units table named_colors parts
margin_is = refl

clear_is : style_declared (codes "margin:1px;clear:both") ≡ margin ++ declares clear_property (word (codes "both")) ∷ []
unfolding margin style_declared tokens_in declarations_in value_in thousandths units table named_colors parts
clear_is = refl

-- which declarations apply

inherited_margin : List Matched
unfolding margin
inherited_margin = all_matched sources.layers (record {
  selectors = [];
  declarations = [];
  origin = author;
  layer = no_layer;
  sheet = 1;
  position = 0;
  first_index = 0;
}) (specificity_of (subject (with_test (simple (type_selector (codes "i"))) any))) 0 (inherits_at margin_top_property ∷ inherits_at margin_right_property ∷ inherits_at margin_bottom_property ∷ inherits_at margin_left_property ∷ [])

module _ (attrs : Attributes) where
  rules_1 : matching_rules (els attrs) sources 1 ≡ []
  unfolding matching_rules
  rules_1 = refl

  rules_2 : matching_rules (els attrs) sources 2 ≡ []
  unfolding matching_rules
  rules_2 = refl

  rules_3 : matching_rules (els attrs) sources 3 ≡ inherited_margin
  unfolding matching_rules inherited_margin layer_order declared rank_in
  rules_3 = refl

  rules_4 : matching_rules (els attrs) sources 4 ≡ []
  unfolding matching_rules
  rules_4 = refl

  style_1 : matching (els attrs) sources 1 ≡ []
  unfolding matching_style
  style_1 = rw rules_1 (simp gets)

  style_3 : matching (els attrs) sources 3 ≡ inherited_margin
  unfolding matching_style
  style_3 = rw rules_3 (simp (gets, append-nil))

  style_4 : matching (els attrs) sources 4 ≡ []
  unfolding matching_style
  style_4 = rw rules_4 (simp gets)

style_2_none : matching (els maps.empty) sources 2 ≡ []
unfolding matching_style
style_2_none = rw (rules_2 maps.empty) (simp gets)

style_2 : (text : Characters) → matching (els (with_style text)) sources 2 ≡ all_attached sources.layers 0 (style_declared text)
unfolding matching_style
style_2 text = rw (rules_2 (with_style text)) (simp gets)

-- the cascade where no custom property is declared
pub step : (is_root : Bool) (changes : List (ℕ × Value)) (style : Style) (ds : List Matched) → declared_values ds ≡ maps.empty → cascaded_over maps.empty is_root (styled changes) initial_size ds ≡ style → cascaded is_root (styled changes) initial_size ds ≡ style
step is_root changes style ds none is = cascaded_alone is_root changes initial_size ds none ∙ is

abbrev pub root_values : List (ℕ × Value)
root_values = (display_property, word (codes "block")) ∷ no_borders

abbrev pub margins : List (ℕ × Value)
margins = (margin_top_property, px 1) ∷ (margin_right_property, px 1) ∷ (margin_bottom_property, px 1) ∷ (margin_left_property, px 1) ∷ no_borders

abbrev cleared : List (ℕ × Value)
cleared = (clear_property, word (codes "both")) ∷ margins

pub first_root : cascaded true initial_style initial_size [] ≡ styled root_values
unfolding ending_of table declared_values
first_root = step true [] (styled root_values) [] refl refl

pub plain_below : cascaded false (styled root_values) initial_size [] ≡ styled no_borders
unfolding ending_of table declared_values
plain_below = step false root_values (styled no_borders) [] refl refl

plain_in_plain : cascaded false (styled no_borders) initial_size [] ≡ styled no_borders
unfolding ending_of table declared_values
plain_in_plain = step false no_borders (styled no_borders) [] refl refl

plain_in_margins : cascaded false (styled margins) initial_size [] ≡ styled no_borders
unfolding ending_of table declared_values
plain_in_margins = step false margins (styled no_borders) [] refl refl

inherits_none : cascaded false (styled no_borders) initial_size inherited_margin ≡ styled no_borders
unfolding inherited_margin layer_order declared rank_in ending_of table declared_values
inherits_none = step false no_borders (styled no_borders) inherited_margin refl refl

inherits_margins : cascaded false (styled margins) initial_size inherited_margin ≡ styled margins
unfolding inherited_margin layer_order declared rank_in ending_of table declared_values
inherits_margins = step false margins (styled margins) inherited_margin refl refl

inherits_cleared : cascaded false (styled cleared) initial_size inherited_margin ≡ styled margins
unfolding inherited_margin layer_order declared rank_in ending_of table declared_values
inherits_cleared = step false cleared (styled margins) inherited_margin refl refl

with_margins : cascaded false (styled root_values) initial_size (all_attached sources.layers 0 margin) ≡ styled margins
unfolding margin layer_order declared rank_in ending_of table declared_values
with_margins = step false root_values (styled margins) (all_attached sources.layers 0 margin) refl refl

with_clear : cascaded false (styled root_values) initial_size (all_attached sources.layers 0 (margin ++ declares clear_property (word (codes "both")) ∷ [])) ≡ styled cleared
unfolding margin layer_order declared rank_in ending_of table declared_values
with_clear = step false root_values (styled cleared) (all_attached sources.layers 0 (margin ++ declares clear_property (word (codes "both")) ∷ [])) refl refl

-- the styles

child : (attrs : Attributes) (x : ℕ) (parent : Style) (changes : List (ℕ × Value)) (ds : List Matched) (style : Style) → parent ≡ styled changes → root_size_of (els attrs) sources ≡ initial_size → matching (els attrs) sources x ≡ ds → cascaded false (styled changes) initial_size ds ≡ style → cascaded false parent (root_size_of (els attrs) sources) (matching (els attrs) sources x) ≡ style
child attrs x parent changes ds style is size apply becomes =
    ap (λ s. cascaded false s (root_size_of (els attrs) sources) (matching (els attrs) sources x)) is
    ∙ (ap (λ z. cascaded false (styled changes) z (matching (els attrs) sources x)) size
    ∙ (ap (cascaded false (styled changes) initial_size) apply ∙ becomes))

abbrev scene : Attributes → Scene
scene attrs = record { document = record { elements = els attrs; last = 4 }; sheets = sheet ∷ []; last_sheet = 1 }

abbrev AreStyles : Attributes → List (ℕ × Value) → List (ℕ × Value) → Type 0
AreStyles attrs p i =
    (style_in (scene attrs) 1 ≡ styled root_values) × ((style_in (scene attrs) 2 ≡ styled p) × ((style_in (scene attrs) 3 ≡ styled i) × (root_size_in (scene attrs) ≡ initial_size)))

module _ (attrs : Attributes) (ds : List Matched) (apply : matching (els attrs) sources 2 ≡ ds) (p i : List (ℕ × Value)) (second : cascaded false (styled root_values) initial_size ds ≡ styled p) (third : cascaded false (styled p) initial_size inherited_margin ≡ styled i) (fourth : cascaded false (styled i) initial_size [] ≡ styled no_borders) where
  root_is : cascaded true initial_style initial_size (matching (els attrs) sources 1) ≡ styled root_values
  root_is = ap (cascaded true initial_style initial_size) (style_1 attrs) ∙ first_root

  size_is : root_size_of (els attrs) sources ≡ initial_size
  unfolding root_size_of table
  size_is = ap (λ (s : Style). font_size_of s.values) root_is

  in_scene : (x : ℕ) → style_in (scene attrs) x ≡ style_of (els attrs) sources x
  in_scene x = ap (λ s. style_of (els attrs) s x) are_sources

  is_1 : style_of (els attrs) sources 1 ≡ styled root_values
  unfolding style_of ancestors
  is_1 = root_is

  is_2 : style_of (els attrs) sources 2 ≡ styled p
  unfolding style_of ancestors
  is_2 = child attrs 2 _ root_values ds (styled p) is_1 size_is apply second

  is_3 : style_of (els attrs) sources 3 ≡ styled i
  unfolding style_of ancestors
  is_3 = child attrs 3 _ p inherited_margin (styled i) is_2 size_is (style_3 attrs) third

  is_4 : style_of (els attrs) sources 4 ≡ styled no_borders
  unfolding style_of ancestors
  is_4 = child attrs 4 _ i [] (styled no_borders) is_3 size_is (style_4 attrs) fourth

  are : AreStyles attrs p i
  are = (in_scene 1 ∙ is_1, (in_scene 2 ∙ is_2, (in_scene 3 ∙ is_3, ap (root_size_of (els attrs)) are_sources ∙ size_is)))

abbrev none : Attributes
none = maps.empty

abbrev one : Attributes
one = with_style (codes "margin:1px")

abbrev two : Attributes
two = with_style (codes "margin:1px;clear:both")

at_first : AreStyles none no_borders no_borders
at_first = are none [] style_2_none no_borders no_borders plain_below inherits_none plain_in_plain

at_second : AreStyles one margins margins
at_second = are one (all_attached sources.layers 0 margin) (style_2 (codes "margin:1px") ∙ ap (all_attached sources.layers 0) margin_is) margins margins with_margins inherits_margins plain_in_margins

at_third : AreStyles two cleared margins
at_third = are two (all_attached sources.layers 0 (margin ++ declares clear_property (word (codes "both")) ∷ [])) (style_2 (codes "margin:1px;clear:both") ∙ ap (all_attached sources.layers 0) clear_is) cleared margins with_clear inherits_cleared plain_in_margins

-- 2 is marked over the styles of another scene

abbrev standing : Attributes → Attributes → Standing
standing before after = changed (restyled (started (scene before))) (record {
  after = scene after;
  marks = λ x. x == 2;
  freshens = λ x. false;
})

matched_first : matched_count (standing none one) ≡ 1
matched_first = refl

matched_second : matched_count (standing one two) ≡ 1
matched_second = refl

count_three : (p : ℕ → Bool) → p 1 ≡ false → p 2 ≡ true → p 3 ≡ true → p 4 ≡ true → length (filter p (1 ∷ 2 ∷ 3 ∷ 4 ∷ [])) ≡ 3
count_three p h k l m = rw (h, k, l, m) refl

count_two : (p : ℕ → Bool) → p 1 ≡ false → p 2 ≡ true → p 3 ≡ true → p 4 ≡ false → length (filter p (1 ∷ 2 ∷ 3 ∷ 4 ∷ [])) ≡ 2
count_two p h k l m = rw (h, k, l, m) refl

size_same : (before after : Attributes) (p i q j : List (ℕ × Value)) → AreStyles before p i → AreStyles after q j → root_size_differs (standing before after) ≡ false
unfolding table
size_same before after p i q j old new =
    ap not (has_size-own (root_size_in (scene after)) (style_in (scene before) 1) (kept_at (standing before after) 1) refl
    (ap (λ (s : Style). font_size_of s.values) old.0 ∙ sym new.1.1.1))

differ : (s t : Style) (p q : List (ℕ × Value)) → s ≡ styled p → t ≡ styled q → same_style (styled p) (styled q) ≡ false → is_style t (Some s) ≡ false
differ s t p q is are other = ap (λ x. is_style t (Some x)) is ∙ (ap (λ x. is_style x (Some (styled p))) are ∙ other)

by_parent : (st : Standing) (x p : ℕ) (b : Bool) → is_matched st x ≡ false → root_size_differs st ≡ false → option_map_or (λ q. not (is_style (style_in st.scene q) (kept_at st q))) (parent_of (elements_of st.scene) x) false ≡ b → is_cascaded st x ≡ b
by_parent st x p b own size parent = rw (own, size, parent) (or_false b)
  where
    or_false : (c : Bool) → (false || (c || false)) ≡ c
    or_false true = refl
    or_false false = refl

pub same_margins : same_style (styled no_borders) (styled margins) ≡ false
unfolding same_style table
same_margins = refl

same_cleared : same_style (styled margins) (styled cleared) ≡ false
unfolding same_style table
same_cleared = refl

-- `margin:1px`: one is matched, three are cascaded
cascaded_first : cascaded_count (standing none one) ≡ 3
cascaded_first =
    let st = standing none one in
    let size = size_same none one no_borders no_borders margins margins at_first at_second in
    count_three (is_cascaded st) (by_parent st 1 1 false refl size refl) refl
    (by_parent st 3 2 true refl size (ap not (differ (style_in (scene none) 2) (style_in (scene one) 2) no_borders margins at_first.1.0 at_second.1.0 same_margins)))
    (by_parent st 4 3 true refl size (ap not (differ (style_in (scene none) 3) (style_in (scene one) 3) no_borders margins at_first.1.1.0 at_second.1.1.0 same_margins)))

-- then `margin:1px;clear:both`: one is matched, two are cascaded
cascaded_second : cascaded_count (standing one two) ≡ 2
cascaded_second =
    let st = standing one two in
    let size = size_same one two margins margins cleared margins at_second at_third in
    count_two (is_cascaded st) (by_parent st 1 1 false refl size refl) refl
    (by_parent st 3 2 true refl size (ap not (differ (style_in (scene one) 2) (style_in (scene two) 2) margins cleared at_second.1.0 at_third.1.0 same_cleared)))
    (by_parent st 4 3 false refl size (ap not (is_style-own (style_in (scene two) 3) (kept_at st 3) (ap Some (at_second.1.1.0 ∙ sym at_third.1.1.0)))))
