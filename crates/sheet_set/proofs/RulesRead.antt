-- One rule more of a sheet that is read rule by rule.
use Rattle.std.proofs.Common.{◌≡◌, ℕ, ◌+◌, List, [], ◌∷◌, ◌++◌, Some, None, refl, sym, ap, ◌∙◌, arith}
use Rattle.std.proofs.Common.{append-nil}
use Rattle.std.specs.Prelude.{option_map, option_to_list}
use Rattle.base_model.specs.Origin.{Origin}
use Rattle.base_model.specs.Sheet.{Sheet}
use Rattle.layer_model.specs.Name.{LayerName}
use Rattle.syntax_model.specs.Token.{Token}
use Rattle.syntax_model.specs.Rules.{Context, Rule, StyleBlock, style, layer}
use Rattle.css_rules.specs.Reading.{Reading, context_in, kind_in, moved}
use Rattle.css_rules.specs.declared.rule.RuleKind.{RuleKind}
use Rattle.css_rules.specs.declared.rule.RuleKind.TheVariants.{Style, Layer}
use Rattle.sheet_model.specs.StyleRules.{style_rule_of}
use Rattle.sheet_model.specs.Sources.{PlacedRule, all_placed}
use Rattle.sheet_set.specs.Rules.{block_of, rule_count}
use Rattle.sheet_set.proofs.Collected.{Completes, Fills, layer_given, one_filled, style_added}

-- the rule that a reader has moved to
style_next : (left : List Rule) (after : Reading) → after ≡ moved left
    → option_map kind_in after.current ≡ Some Style
    → (rule : StyleBlock) × (left ≡ style rule ∷ after.left) × (after.current ≡ Some (style rule))
style_next [] after is some = absurd (cc)
style_next (style rule ∷ left) after is some =
    (rule, ap (λ l. style rule ∷ l) (sym (ap (λ r. r.left) is)), ap (λ r. r.current) is)
style_next (layer context ∷ left) after is some = absurd (cc)

layer_next : (left : List Rule) (after : Reading) → after ≡ moved left
    → option_map kind_in after.current ≡ Some Layer
    → (context : Context) × (left ≡ layer context ∷ after.left) × (after.current ≡ Some (layer context))
layer_next [] after is some = absurd (cc)
layer_next (style rule ∷ left) after is some = absurd (cc)
layer_next (layer context ∷ left) after is some =
    (context, ap (λ l. layer context ∷ l) (sym (ap (λ r. r.left) is)), ap (λ r. r.current) is)

-- none is left where it has moved to none
pub all_read : (left : List Rule) (after : Reading) → after ≡ moved left → option_map kind_in after.current ≡ None
    → left ≡ []
all_read [] after is none = refl
all_read (rule ∷ left) after is none = absurd (cc)

module _ (sheet : Sheet) (left : List Rule) (after : Reading) (is : after ≡ moved left) where
  -- what a reader lends of a style rule
  pub record Lends (prelude block : List Token) (context : Context) : Type 0 where
    pub prelude_is : (rule : StyleBlock) → after.current ≡ Some (style rule) → prelude ≡ rule.prelude
    pub block_is : (rule : StyleBlock) → after.current ≡ Some (style rule) → block ≡ rule.block
    pub context_is : (rule : Rule) → after.current ≡ Some rule → context ≡ context_in rule

  pub style_read : (whole found new : List PlacedRule) (index next : ℕ) (prelude block : List Token)
      (context : Context) → option_map kind_in after.current ≡ Some Style → Lends prelude block context
      → new ≡ found ++ all_placed sheet 0 index (option_to_list (style_rule_of (block_of prelude block context)))
      → next ≡ index + rule_count (style_rule_of (block_of prelude block context))
      → Completes sheet 0 whole found index left → Completes sheet 0 whole new next after.left
  style_read whole found new index next prelude block context some lends added counted before =
      let n = style_next left after is some in
      let rule = n.0 in
      let same : block_of prelude block context ≡ rule =
      ap (λ p. block_of p block context) (lends.prelude_is rule n.2)
      ∙ (ap (λ b. block_of rule.prelude b context) (lends.block_is rule n.2)
      ∙ ap (block_of rule.prelude rule.block) (lends.context_is (style rule) n.2)) in
      style_added sheet 0 whole found new index next left after.left (style rule) n.1
      (added ∙ ap (λ b. found ++ all_placed sheet 0 index (option_to_list (style_rule_of b))) same)
      (counted ∙ ap (λ b. index + rule_count (style_rule_of b)) same) before

  pub style_is_no_layer : (whole found new : List (Origin × LayerName))
      → option_map kind_in after.current ≡ Some Style → new ≡ found
      → Fills whole (layer_given sheet) found left → Fills whole (layer_given sheet) new after.left
  style_is_no_layer whole found new some same before =
      let n = style_next left after is some in
      one_filled whole (layer_given sheet) found new left after.left (style n.0) n.1 (same ∙ sym (append-nil found)) before

  pub layer_read : (whole found new : List (Origin × LayerName)) (context : Context)
      → option_map kind_in after.current ≡ Some Layer → ((rule : Rule) → after.current ≡ Some rule → context ≡ context_in rule)
      → new ≡ found ++ (sheet.origin, context.layer) ∷ [] → Fills whole (layer_given sheet) found left
      → Fills whole (layer_given sheet) new after.left
  layer_read whole found new context some context_is added before =
      let n = layer_next left after is some in
      one_filled whole (layer_given sheet) found new left after.left (layer n.0) n.1
      (added ∙ ap (λ (c : Context). found ++ (sheet.origin, c.layer) ∷ []) (context_is (layer n.0) n.2)) before

  pub layer_is_no_style : (whole found new : List PlacedRule) (index : ℕ)
      → option_map kind_in after.current ≡ Some Layer → new ≡ found → Completes sheet 0 whole found index left → Completes sheet 0 whole new index after.left
  layer_is_no_style whole found new index some same before =
      let n = layer_next left after is some in
      style_added sheet 0 whole found new index index left after.left (layer n.0) n.1
      (same ∙ sym (append-nil found)) (omega arith) before
