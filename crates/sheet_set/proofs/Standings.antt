-- What is kept of sheets stays right when one leaves or comes.
use Rattle.std.proofs.Common.{◌≡◌, ℕ, ◌+◌, ◌<◌, List, ◌∷◌, ◌++◌, length, map, take, drop, get_or, true, false, sym, ap, subst, ◌∙◌}
use Rattle.std.specs.Prelude.{Vec}
use Rattle.std.specs.declared.alloc.Global.{Global}
use Rattle.layer_model.specs.Order.{Layers}
use Rattle.sheet_model.specs.Sources.{PlacedRule}
use Rattle.edit_model.specs.SheetApply.{with_enabled}
use Rattle.selector_types.specs.declared.selector.Selector.{Selector}
use Rattle.sheet_set.specs.declared.sheet_rule.SheetRule.{SheetRule}
use Rattle.sheet_set.specs.declared.kept_sheet.KeptSheet.{KeptSheet}
use Rattle.sheet_set.specs.Kept.{kept_seen, taking}
use Rattle.sheet_set.specs.Ranks.{rank_seen}
use Rattle.sheet_set.specs.Rules.{AreSame, rules_at, rules_with}
use Rattle.sheet_set.specs.Standing.{AreKept, rank_placed}
use Rattle.sheet_set.proofs.Going.{comes-off, comes-on, leaves-off, leaves-on}
use Rattle.sheet_set.proofs.MovedRules.{beside_cut, beside_put}
use Rattle.sheet_set.proofs.Ranked.{ranks-with}

-- what was kept
module _ (sheets : List KeptSheet) (rules : List SheetRule) (lists : List (Vec Selector Global)) (layers : Layers) (ranks : List ℕ) (kept : AreKept sheets rules lists layers ranks) where
  abbrev old : List PlacedRule
  old = rules_with rules lists

  -- and what is kept now
  module _ (now : List KeptSheet) (its : List SheetRule) (their : List (Vec Selector Global)) (standing : List ℕ) (paired : length its ≡ length their) where
    from_parts : (all : List PlacedRule) → rules_with its their ≡ all → AreSame all (taking now) → standing ≡ map (rank_placed layers) all → AreKept now its their layers standing
    from_parts all are texts ranked = record {
      texts = subst (λ l. AreSame l (taking now)) (sym are) texts;
      paired = paired;
      ranked = ranked ∙ ap (map (rank_placed layers)) (sym are);
    }

    -- the sheet at a place left
    module _ (place : ℕ) (it : KeptSheet) (within : place < length sheets) (is : it ≡ get_or sheets place it) (left : now ≡ take place sheets ++ drop (place + 1) sheets) where
      pub left-on : it.enabled ≡ true → (at : ℕ) → at ≡ length (taking (take place sheets)) → rules_with its their ≡ take at old ++ drop it.count (drop at old)
          → standing ≡ take at ranks ++ drop it.count (drop at ranks) → AreKept now its their layers standing
      left-on on at is_at are ranked =
          from_parts (take at old ++ drop it.count (drop at old)) are
          (subst (λ l. AreSame (take at old ++ drop it.count (drop at old)) (taking l)) (sym left) (leaves-on sheets place it within is on old at is_at kept.texts))
          (ranked ∙ (ap (λ l. take at l ++ drop it.count (drop at l)) kept.ranked ∙ beside_cut (rank_placed layers) old at it.count))

      pub left-off : it.enabled ≡ false → rules_with its their ≡ old → standing ≡ ranks → AreKept now its their layers standing
      left-off off are ranked =
          from_parts old are (subst (λ l. AreSame old (taking l)) (sym left) (leaves-off sheets place it within is off old kept.texts)) (ranked ∙ kept.ranked)

    -- a sheet came to a place
    module _ (place : ℕ) (one : KeptSheet) (come : now ≡ take place sheets ++ one ∷ drop place sheets) where
      pub come-on : (it : KeptSheet) (its_rules : List SheetRule) (its_lists : List (Vec Selector Global)) (at : ℕ)
          → at ≡ length (taking (take place sheets)) → kept_seen one ≡ with_enabled true (kept_seen it)
          → AreSame (rules_with its_rules its_lists) (rules_at 0 (kept_seen it)) → length its_rules ≡ length its_lists
          → rules_with its their ≡ take at old ++ (rules_with its_rules its_lists ++ drop at old)
          → standing ≡ take at ranks ++ (map (rank_seen layers) its_rules ++ drop at ranks) → AreKept now its their layers standing
      come-on it its_rules its_lists at is_at seen own same are ranked =
          let more = rules_with its_rules its_lists in
          from_parts (take at old ++ (more ++ drop at old)) are
          (subst (λ l. AreSame (take at old ++ (more ++ drop at old)) (taking l)) (sym come) (comes-on sheets place it one old more at is_at seen own kept.texts))
          (ranked
          ∙ (ap (λ l. take at l ++ (map (rank_seen layers) its_rules ++ drop at l)) kept.ranked
          ∙ (ap (λ l. take at (map (rank_placed layers) old) ++ (l ++ drop at (map (rank_placed layers) old))) (sym (ranks-with layers its_rules its_lists same))
          ∙ beside_put (rank_placed layers) old more at)))

      pub come-off : one.enabled ≡ false → rules_with its their ≡ old → standing ≡ ranks → AreKept now its their layers standing
      come-off off are ranked =
          from_parts old are (subst (λ l. AreSame old (taking l)) (sym come) (comes-off sheets place one old off kept.texts)) (ranked ∙ kept.ranked)
