-- The style of each element is printed within a line.
use Rattle.std.proofs.Common.{◌≡◌, ℕ, ◌+◌, ℤ, Bool, List, [], ◌∷◌, filter_map, flat_map, Option, Some, None, option_map, IfSome, codes, sym, ◌∙◌, subst}
use Rattle.std.specs.Prelude.{is_none, if◌then◌else◌}
use Rattle.std.specs.List.{AllByRecursion, cons_option}
use Rattle.std.specs.Option.{option_map_or}
use Rattle.std.specs.Ordering.{eq_by_cmp, nat_cmp}
use Rattle.std.specs.Cmp.Lexicographic.{nat_list_cmp_total, slice_cmp}
use Rattle.std.specs.FinMap as finmap
use Rattle.std.proofs.lemmas.Bool.{cond_both}
use Rattle.std.proofs.lemmas.Option.{none-some, same_Some}
use Rattle.base_model.specs.Specificity.{Specificity}
use Rattle.base_model.specs.Sheet.{Sheet}
use Rattle.base_model.specs.Text.{Characters}
use Rattle.base_model.proofs.LineFeedLemmas.{IsWithinLine}
use Rattle.base_model.proofs.Lists.{each-append}
use Rattle.layer_model.specs.Order.{Layers}
use Rattle.scene_model.specs.Element.{Element}
use Rattle.scene_model.specs.Lookups.{attribute_of, parent_of}
use Rattle.scene_model.specs.Ancestors.{ancestors}
use Rattle.selector_model.specs.Selector.{Selector}
use Rattle.selector_model.specs.Holds.{holds}
use Rattle.custom_model.specs.Value.{CustomValue, CustomValues}
use Rattle.custom_model.proofs.ExpandWritable.{resolved_writable}
use Rattle.custom_model.proofs.WritableLemmas.{Writable}
use Rattle.value_model.specs.Style.{Style, initial_size}
use Rattle.value_model.specs.Printed.{printed_declarations}
use Rattle.value_model.proofs.LineLemmas.{IsLineStyle, adjusted_within, initial_within, printed_within}
use Rattle.sheet_model.specs.Declared.{Declared, style_declared}
use Rattle.sheet_model.specs.Sources.{PlacedRule, Sources, sources_of}
use Rattle.sheet_model.proofs.LineLemmas.{AreLineDeclared, AreLineSources, IsLineRule, sources_within, style_declared_within}
use Rattle.cascade_model.specs.Key.{Matched}
use Rattle.cascade_model.specs.Winner.{declares_custom}
use Rattle.cascade_model.specs.Ending.{Ending, inherits, initially, unsets, ends_at, custom_ending, custom_meaning}
use Rattle.cascade_model.specs.Custom.{custom_names, custom_values, declared_entry, declared_value, declared_values}
use Rattle.cascade_model.specs.Cascade.{cascaded}
use Rattle.cascade_model.specs.Matching.{all_attached, all_matched, greatest_by, matching, matching_rules, matching_style, rule_matched}
use Rattle.cascade_model.specs.StyleOf.{root_size_of, style_along, style_of}
use Rattle.cascade_model.proofs.EndingLines.{AreLineMatched, EndingHolds, IsLineMatched, custom_meaning_within, ending_holds, kept_matched}
use Rattle.cascade_model.proofs.ComputedLines.{values_over_within}

-- the custom properties that are declared can be written

abbrev HasWritable : Characters × Option CustomValue → Type 0
HasWritable entry = IfSome entry.1 Writable

value_writable : (end : Ending CustomValue) → EndingHolds Writable end → IfSome (declared_value end) (λ o. IfSome o Writable)
value_writable inherits h = tt
value_writable initially h = tt
value_writable unsets h = tt
value_writable (ends_at tokens) h = h

entry_writable : (ds : List Matched) (name : Characters) → AreLineMatched ds → IfSome (declared_entry ds name) HasWritable
entry_writable ds name all =
    by (declared_value (custom_ending name ds))
    (value_writable (custom_ending name ds) (ending_holds Writable custom_meaning custom_meaning_within _ (kept_matched (declares_custom name) ds all)))
  where
    by : (o : Option (Option CustomValue)) → IfSome o (λ v. IfSome v Writable) → IfSome (option_map (λ (declared : Option CustomValue). (name, declared)) o) HasWritable
    by None h = tt
    by (Some v) h = h

entries_writable : (ds : List Matched) (names : List Characters) → AreLineMatched ds → AllByRecursion HasWritable (filter_map (declared_entry ds) names)
entries_writable ds [] all = tt
entries_writable ds (name ∷ names) all = by (declared_entry ds name) (entry_writable ds name all) (entries_writable ds names all) where
  by : (o : Option (Characters × Option CustomValue)) → IfSome o HasWritable → AllByRecursion HasWritable (filter_map (declared_entry ds) names) → AllByRecursion HasWritable (cons_option o (filter_map (declared_entry ds) names))
  by None h rest = rest
  by (Some entry) h rest = (h, rest)

found_writable : (entries : List (Characters × Option CustomValue)) (name : Characters) (value : CustomValue) → AllByRecursion HasWritable entries → finmap.find (slice_cmp nat_cmp) name entries ≡ Some (Some value) → Writable value
found_writable [] name value h e = absurd (none-some (Some value) e)
found_writable (entry ∷ entries) name value h e =
    cond_both (eq_by_cmp (slice_cmp nat_cmp) name entry.0) _ _ (λ o. o ≡ Some (Some value) → Writable value)
    (λ _ is. subst (λ o. IfSome o Writable) (same_Some entry.1 (Some value) is) h.0)
    (λ _ is. found_writable entries name value h.1 is) e

declared_writable : (ds : List Matched) → AreLineMatched ds → (name : Characters) (value : CustomValue) → finmap.get (declared_values ds) name ≡ Some (Some value) → Writable value
unfolding declared_values
declared_writable ds all name value e =
    let entries : List (Characters × Option CustomValue) = filter_map (declared_entry ds) (custom_names ds) in
    found_writable entries name value (entries_writable ds (custom_names ds) all)
    (sym (finmap.get-from_entries nat_list_cmp_total entries name) ∙ e)

-- the style over a parent's
pub cascaded_within : (is_root : Bool) (parent : Style) (root_size : ℤ) (ds : List Matched) → AreLineMatched ds → IsLineStyle parent → IsLineStyle (cascaded is_root parent root_size ds)
cascaded_within is_root parent root_size ds all h =
    let custom : CustomValues = custom_values parent.custom ds in
    record {
      values = adjusted_within is_root _ (values_over_within (finmap.get custom) is_root parent.values root_size ds all h.values);
      custom = resolved_writable (declared_values ds) parent.custom (declared_writable ds all) h.custom;
    }

-- the declarations that apply to an element

module _ (layers : Layers) where
  matched_within : (rule : PlacedRule) (specificity : Specificity) (index : ℕ) (ds : List Declared) → AreLineDeclared ds → AreLineMatched (all_matched layers rule specificity index ds)
  matched_within rule specificity index [] h = tt
  matched_within rule specificity index (d ∷ ds) h = (h.0, matched_within rule specificity (index + 1) ds h.1)

  rule_within : (passes : Selector → Bool) (rule : PlacedRule) → IsLineRule rule → AreLineMatched (rule_matched layers passes rule)
  rule_within passes rule h = by (greatest_by passes None rule.selectors) where
    by : (o : Option Specificity) → AreLineMatched (option_map_or (λ specificity. all_matched layers rule specificity rule.first_index rule.declarations) o [])
    by None = tt
    by (Some specificity) = matched_within rule specificity rule.first_index rule.declarations h

  rules_within : (passes : Selector → Bool) (rules : List PlacedRule) → AllByRecursion IsLineRule rules → AreLineMatched (flat_map (rule_matched layers passes) rules)
  rules_within passes [] h = tt
  rules_within passes (rule ∷ rules) h =
      each-append IsLineMatched (rule_matched layers passes rule) (flat_map (rule_matched layers passes) rules)
      (rule_within passes rule h.0) (rules_within passes rules h.1)

  attached_within : (index : ℕ) (ds : List Declared) → AreLineDeclared ds → AreLineMatched (all_attached layers index ds)
  attached_within index [] h = tt
  attached_within index (d ∷ ds) h = (h.0, attached_within (index + 1) ds h.1)

  style_matched_within : (o : Option Characters) → AreLineMatched (option_map_or (λ text. all_attached layers 0 (style_declared text)) o [])
  style_matched_within None = tt
  style_matched_within (Some text) = attached_within 0 (style_declared text) (style_declared_within text)

matching_within : (doc : List Element) (sources : Sources) (x : ℕ) → AreLineSources sources → AreLineMatched (matching doc sources x)
unfolding matching_rules matching_style
matching_within doc sources x h =
    each-append IsLineMatched (flat_map (rule_matched sources.layers (λ selector. holds doc selector x)) sources.rules) _
    (rules_within sources.layers (λ selector. holds doc selector x) sources.rules h.rules)
    (style_matched_within sources.layers (attribute_of doc x (codes "style")))

-- the style of an element

along_within : (doc : List Element) (sources : Sources) (size : ℤ) (path : List ℕ) → AreLineSources sources → IsLineStyle (style_along doc sources size path)
along_within doc sources size [] h = initial_within
along_within doc sources size (x ∷ above) h =
    let is_root = is_none (parent_of doc x) in
    cascaded_within is_root (style_along doc sources size above) (if is_root then initial_size else size) (matching doc sources x)
    (matching_within doc sources x h)
    (along_within doc sources size above h)

style_of_within : (doc : List Element) (sources : Sources) (x : ℕ) → AreLineSources sources → IsLineStyle (style_of doc sources x)
unfolding style_of
style_of_within doc sources x h = along_within doc sources (root_size_of doc sources) (x ∷ ancestors doc x) h

-- In each document and with all sheets the declarations of an element are printed without a line feed.
pub printed_style_within : (doc : List Element) (sheets : List Sheet) (x : ℕ) → IsWithinLine (printed_declarations (style_of doc (sources_of sheets) x))
printed_style_within doc sheets x =
    printed_within (style_of doc (sources_of sheets) x) (style_of_within doc (sources_of sheets) x (sources_within sheets))
