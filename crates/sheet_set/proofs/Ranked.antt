-- The ranks of rules, and what is kept of a list of sheets before it is edited and afterwards.
use Rattle.std.proofs.Common.{◌≡◌, ℕ, ◌+◌, List, [], ◌∷◌, ◌++◌, length, map, true, false, Bool, cond, refl, sym, ap, ◌∙◌, arith}
use Rattle.std.proofs.Math.Logic.{∥∥₁_map}
use Rattle.std.specs.Prelude.{Vec}
use Rattle.std.specs.declared.alloc.Global.{Global}
use Rattle.std.proofs.lemmas.List.{map-append}
use Rattle.base_model.specs.Sheet.{Sheet}
use Rattle.layer_model.specs.Order.{Layers}
use Rattle.sheet_model.specs.StyleRules.{style_rules_in}
use Rattle.sheet_model.specs.Sources.{PlacedRule, edition_of, enabled_among, rules_from, rules_of_sheets}
use Rattle.selector_types.specs.declared.selector.Selector.{Selector}
use Rattle.sheet_set.specs.declared.sheet_rule.SheetRule.{SheetRule}
use Rattle.sheet_set.specs.declared.kept_sheet.KeptSheet.{KeptSheet}
use Rattle.sheet_set.specs.Kept.{kept_seen, taking}
use Rattle.sheet_set.specs.Positions.{positions_from}
use Rattle.sheet_set.specs.Ranks.{rank_seen}
use Rattle.sheet_set.specs.Rules.{AreSame, placed_at, placed_rule_of, put_at, rules_at, rules_with}
use Rattle.sheet_set.specs.Standing.{AreKept, rank_placed}
use Rattle.sheet_set.proofs.Placing.{placed-put}
use Rattle.sheet_set.proofs.Positioned.{positions-right}

-- the ranks of rules with their selectors are those of the rules
pub ranks-with : (layers : Layers) (rules : List SheetRule) (lists : List (Vec Selector Global)) → length rules ≡ length lists
    → map (rank_placed layers) (rules_with rules lists) ≡ map (rank_seen layers) rules
ranks-with layers [] lists same = refl
ranks-with layers (rule ∷ rules) [] same = absurd (omega (arith, same))
ranks-with layers (rule ∷ rules) (list ∷ lists) same =
    ap (λ rest. rank_seen layers rule ∷ rest) (ranks-with layers rules lists (omega (arith, same)))

-- rules wherever their sheets stand
abbrev unplaced : List PlacedRule → List PlacedRule
unplaced rules = map (put_at 0) rules

lifted : (positions : List ℕ) (rules : List SheetRule) (lists : List (Vec Selector Global)) → length rules ≡ length lists → length positions ≡ length rules
    → unplaced (placed_at positions (rules_with rules lists)) ≡ rules_with rules lists
lifted [] [] lists same long = refl
lifted [] (rule ∷ rules) lists same long = absurd (omega (arith, long))
lifted (position ∷ positions) [] lists same long = absurd (omega (arith, long))
lifted (position ∷ positions) (rule ∷ rules) [] same long = absurd (omega (arith, same))
lifted (position ∷ positions) (rule ∷ rules) (list ∷ lists) same long =
    ap (λ rest. placed_rule_of rule list.items ∷ rest) (lifted positions rules lists (omega (arith, same)) (omega (arith, long)))

unplaced-from : (position : ℕ) (sheets : List KeptSheet) → unplaced (rules_from position (enabled_among (map kept_seen sheets))) ≡ taking sheets
unplaced-from position [] = refl
unplaced-from position (kept ∷ sheets) = by kept.enabled (λ p. unplaced-from p sheets)
  where
    by : (b : Bool) → ((p : ℕ) → unplaced (rules_from p (enabled_among (map kept_seen sheets))) ≡ taking sheets)
        → unplaced (rules_from position (cond b (kept_seen kept ∷ enabled_among (map kept_seen sheets)) (enabled_among (map kept_seen sheets))))
        ≡ cond b (rules_at 0 (kept_seen kept)) [] ++ taking sheets
    by true again =
        let sheet : Sheet = kept_seen kept in
        let others : List Sheet = enabled_among (map kept_seen sheets) in
        map-append (put_at 0) (rules_at position sheet) (rules_from (position + 1) others)
        ∙ (ap (λ l. l ++ unplaced (rules_from (position + 1) others)) (placed-put sheet position 0 0 (style_rules_in (edition_of sheet) sheet.text))
        ∙ ap (λ l. rules_at 0 sheet ++ l) (again (position + 1)))
    by false again = again position

-- what a list of sheets keeps, before it is edited and afterwards
module _ (sheets : List KeptSheet) (rules : List SheetRule) (lists : List (Vec Selector Global)) where
  pub taken_of : (positions : List ℕ) → length rules ≡ length lists → length positions ≡ length rules → AreSame (placed_at positions (rules_with rules lists)) (rules_of_sheets (map kept_seen sheets))
      → AreSame (rules_with rules lists) (taking sheets)
  unfolding rules_of_sheets
  taken_of positions same long texts =
      ∥∥₁_map texts (λ t. sym (lifted positions rules lists same long) ∙ (ap unplaced t ∙ unplaced-from 0 sheets))

  pub kept_of : (layers : Layers) (ranks positions : List ℕ) → length rules ≡ length lists → length positions ≡ length rules → ranks ≡ map (rank_seen layers) rules
      → AreSame (placed_at positions (rules_with rules lists)) (rules_of_sheets (map kept_seen sheets)) → AreKept sheets rules lists layers ranks
  kept_of layers ranks positions same long ranked texts = record {
    texts = taken_of positions same long texts;
    paired = same;
    ranked = ranked ∙ sym (ranks-with layers rules lists same);
  }

  pub texts_of : (positions : List ℕ) → AreSame (rules_with rules lists) (taking sheets) → positions ≡ positions_from 0 sheets
      → AreSame (placed_at positions (rules_with rules lists)) (rules_of_sheets (map kept_seen sheets))
  unfolding rules_of_sheets
  texts_of positions texts are =
      ∥∥₁_map texts (λ t. ap (placed_at positions) t ∙ (ap (λ ps. placed_at ps (taking sheets)) are ∙ positions-right 0 sheets))
