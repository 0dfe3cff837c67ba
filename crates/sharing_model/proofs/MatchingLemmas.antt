-- For `IsTwin`: the same declarations apply to twins, and they have one style, where no selector asks for siblings.
use Rattle.std.proofs.Common.{◌≡◌, ℕ, List, [], ◌∷◌, ◌++◌, map, flat_map, false, Option, Some, None, if◌then◌else◌, refl, sym, ap, ◌∙◌}
use Rattle.std.specs.Prelude.{codes}
use Rattle.std.specs.List.{list_any}
use Rattle.std.specs.Option.{option_map_or}
use Rattle.std.proofs.lemmas.Bool.{or_parts}
use Rattle.base_model.specs.Specificity.{Specificity}
use Rattle.layer_model.specs.Order.{Layers}
use Rattle.scene_model.specs.Element.{Element}
use Rattle.scene_model.specs.Valid.{IsValid}
use Rattle.selector_model.specs.Selector.{Selector}
use Rattle.selector_model.specs.SpecificityOf.{specificity_of}
use Rattle.selector_model.specs.Holds.{holds}
use Rattle.sheet_model.specs.Declared.{style_declared}
use Rattle.sheet_model.specs.Sources.{PlacedRule, Sources}
use Rattle.cascade_model.specs.Matching.{with_greater, greatest_by, all_matched, rule_matched, matching_rules, all_attached, matching_style, matching}
use Rattle.cascade_model.specs.Cascade.{cascaded}
use Rattle.cascade_model.specs.StyleOf.{root_size_of, style_of}
use Rattle.cascade_model.proofs.StyleAlong.{style_of-child}
use Rattle.sharing_model.specs.Siblings.{asks_for_siblings, ask_for_siblings}
use Rattle.sharing_model.specs.Twin.{IsTwin}
use Rattle.sharing_model.proofs.TwinLemmas.{holds_twin, same_attribute}

module _ (doc : List Element) (v : IsValid doc) (y x : ℕ) (t : IsTwin doc y x) where
  greatest_twin : (best : Option Specificity) (selectors : List Selector) → list_any asks_for_siblings selectors ≡ false
      → greatest_by (λ s. holds doc s y) best selectors ≡ greatest_by (λ s. holds doc s x) best selectors
  greatest_twin best [] h = refl
  greatest_twin best (selector ∷ rest) h =
      let parts = or_parts (asks_for_siblings selector) (list_any asks_for_siblings rest) h in
      ap (λ b. greatest_by (λ s. holds doc s y) (if b then Some (with_greater best (specificity_of selector)) else best) rest) (holds_twin doc v y x t selector parts.0)
      ∙ greatest_twin (if holds doc selector x then Some (with_greater best (specificity_of selector)) else best) rest parts.1

  rules_twin : (layers : Layers) (rules : List PlacedRule) → ask_for_siblings (map (λ rule. rule.selectors) rules) ≡ false
      → flat_map (rule_matched layers (λ s. holds doc s y)) rules ≡ flat_map (rule_matched layers (λ s. holds doc s x)) rules
  rules_twin layers [] h = refl
  rules_twin layers (rule ∷ rules) h =
      let parts = or_parts (list_any asks_for_siblings rule.selectors) (ask_for_siblings (map (λ r. r.selectors) rules)) h in
      ap (λ o. option_map_or (λ specificity. all_matched layers rule specificity rule.first_index rule.declarations) o []
      ++ flat_map (rule_matched layers (λ s. holds doc s y)) rules) (greatest_twin None rule.selectors parts.0)
      ∙ ap (λ l. rule_matched layers (λ s. holds doc s x) rule ++ l) (rules_twin layers rules parts.1)

  module _ (sources : Sources) (none : ask_for_siblings (map (λ rule. rule.selectors) sources.rules) ≡ false) where
    matching_rules_twin : matching_rules doc sources y ≡ matching_rules doc sources x
    unfolding matching_rules
    matching_rules_twin = rules_twin sources.layers sources.rules none

    matching_style_twin : matching_style doc sources y ≡ matching_style doc sources x
    unfolding matching_style
    matching_style_twin =
        ap (λ o. option_map_or (λ text. all_attached sources.layers 0 (style_declared text)) o []) (same_attribute doc v y x t (codes "style"))

    -- the declarations
    pub matching_twin : matching doc sources y ≡ matching doc sources x
    matching_twin =
        ap (λ l. l ++ matching_style doc sources y) matching_rules_twin ∙ ap (λ l. matching_rules doc sources x ++ l) matching_style_twin

    -- the style
    pub style_twin : style_of doc sources y ≡ style_of doc sources x
    style_twin =
        let (p, e, f) = t.parent in
        style_of-child doc sources v y p e
        ∙ (ap (cascaded false (style_of doc sources p) (root_size_of doc sources)) matching_twin ∙ sym (style_of-child doc sources v x p f))
