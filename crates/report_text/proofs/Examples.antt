-- The lines computed, but for the digits of the number.
use Rattle.std.proofs.Common.{◌≡◌, ℕ, Bool, List, [], ◌∷◌, ◌++◌, map, false, true, refl, ap, ◌∙◌}
use Rattle.std.specs.Prelude.{codes, neg_ℤ, pos}
use Rattle.std.specs.Ordering.{nat_cmp}
use Rattle.std.specs.Cmp.Lexicographic.{slice_cmp}
use Rattle.std.specs.FinMap as finmap
use Rattle.std.specs.Fmt.{decimal}
use Rattle.value_model.specs.Color.{opaque}
use Rattle.value_model.specs.Value.{Value, color, pixels}
use Rattle.value_model.specs.Table.{table, color_property}
use Rattle.value_model.specs.Table.{margin_top_property}
use Rattle.base_model.specs.Text.{Characters}
use Rattle.syntax_model.specs.Token.{ident}
use Rattle.syntax_model.specs.Written.{written}
use Rattle.custom_model.specs.Value.{CustomValue, CustomValues}
use Rattle.custom_model.specs.Printed.{custom_text, custom_texts, joined}
use Rattle.custom_model.proofs.Maps.{texts-empty}
use Rattle.value_model.specs.Printed.{declaration_texts}
use Rattle.value_model.specs.Style.{Style, adjusted, initial_style, with_changed}
use Rattle.stylo_base.specs.declared.refusal.Kind.TheVariants.{Attributes}
use Rattle.stylo_base.specs.declared.refusal.EditRefused.TheVariants.{UnknownNode, UnknownSheet, BadPlace, Limit}
use Rattle.report_text.specs.Lines.{element_line, refused_line}
use Rattle.base_model.proofs.Digits.{digit_1}

-- a line by the texts of the properties and those of the custom ones
abbrev line_with : ℕ → Characters → List Characters → List Characters → Characters
line_with n tag own custom =
    decimal n ++ (codes " " ++ (tag ++ (codes "{" ++ (joined (codes "; ") (own ++ custom) ++ codes "}\n"))))

-- initial values, adjusted at the root or elsewhere
abbrev values_at : Bool → List Value
values_at is_root = adjusted is_root initial_style.values

-- the style of these values alone
abbrev style_of : List Value → Style
style_of values = record initial_style { values = values }

line_of : (n : ℕ) (tag : Characters) (values : List Value) (texts : List Characters) → declaration_texts table values ≡ texts → element_line n tag (style_of values) ≡ line_with n tag texts []
unfolding element_line
line_of n tag values texts printed =
    ap (line_with n tag (declaration_texts table values)) texts-empty ∙ ap (λ own. line_with n tag own []) printed

the_root : (n : ℕ) → element_line n (codes "a") (style_of (values_at true)) ≡ decimal n ++ codes " a{display: block}\n"
unfolding table
the_root n = line_of n (codes "a") (values_at true) (codes "display: block" ∷ []) refl

the_other : (n : ℕ) → element_line n (codes "html") (style_of (values_at false)) ≡ decimal n ++ codes " html{}\n"
unfolding table
the_other n = line_of n (codes "html") (values_at false) [] refl

a_red_root : (n : ℕ) → element_line n (codes "a") (style_of (with_changed (λ _. color (opaque 255 0 0)) color_property (values_at true))) ≡ decimal n ++ codes " a{color: #ff0000; display: block}\n"
unfolding table
a_red_root n =
    line_of n (codes "a") (with_changed (λ _. color (opaque 255 0 0)) color_property (values_at true)) (codes "color: #ff0000" ∷ codes "display: block" ∷ []) refl

a_length : (n : ℕ) → element_line n (codes "a") (style_of (with_changed (λ _. pixels (neg_ℤ (pos 1_500))) margin_top_property (values_at false))) ≡ decimal n ++ codes " a{margin-top: -1.5px}\n"
unfolding table
a_length n =
    line_of n (codes "a") (with_changed (λ _. pixels (neg_ℤ (pos 1_500))) margin_top_property (values_at false)) (codes "margin-top: -1.5px" ∷ []) (simp digit_1)

-- behind the properties of the table are the custom ones

abbrev some_entries : List (Characters × CustomValue)
some_entries =
    (codes "--a b", record { kind = ident; name = codes "x"; spelling = [] } ∷ []) ∷ (codes "--c", []) ∷ []

abbrev some_custom : CustomValues
some_custom = finmap.from_sorted some_entries

custom_behind : (n : ℕ) → element_line n (codes "a") (record { values = values_at true; custom = some_custom }) ≡ decimal n ++ codes " a{display: block; --a\\ b: x; --c: }\n"
unfolding element_line table custom_texts written
custom_behind n =
    ap (λ entries. line_with n (codes "a") (codes "display: block" ∷ []) (map custom_text entries)) (finmap.entries-from_sorted (slice_cmp nat_cmp) some_entries tt)

-- refused edits

an_unknown_node : (place n : ℕ) → refused_line place (UnknownNode n) ≡ codes "refused " ++ (decimal place ++ (codes ": unknown node " ++ (decimal n ++ codes "\n")))
unfolding refused_line
an_unknown_node place n = refl

an_unknown_sheet : (place n : ℕ) → refused_line place (UnknownSheet n) ≡ codes "refused " ++ (decimal place ++ (codes ": unknown sheet " ++ (decimal n ++ codes "\n")))
unfolding refused_line
an_unknown_sheet place n = refl

a_bad_place : refused_line 1 BadPlace ≡ codes "refused 1: bad place\n"
unfolding refused_line
a_bad_place = ap (λ place. codes "refused " ++ (place ++ codes ": bad place\n")) digit_1

a_limit : (place most : ℕ) → refused_line place (Limit Attributes most) ≡ codes "refused " ++ (decimal place ++ (codes ": limit attributes " ++ (decimal most ++ codes "\n")))
unfolding refused_line
a_limit place most = refl
