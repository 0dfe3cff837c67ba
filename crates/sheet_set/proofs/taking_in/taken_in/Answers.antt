use Rattle.std.proofs.Common.{◌≡◌, ℕ, ◌≤◌, ◌++◌, [], List, true, false, length, take, drop, ap, sym, ◌∙◌, arith, append-nil}
use Rattle.std.proofs.Math.Logic.{∥∥₁_map}
use Rattle.std.proofs.lemmas.Bool.{cond-false}
use Rattle.std.proofs.lemmas.List.{take_all, drop_all}
use Rattle.sheet_model.specs.Sources.{PlacedRule}
use Rattle.edit_model.specs.SheetApply.{with_enabled}
use Rattle.sheet_set.specs.Kept.{kept_seen, own_kept}
use Rattle.sheet_set.specs.Rules.{rules_at, rules_with, taking_part}
use Rattle.sheet_set.proofs.Taking.{at-enabled, length-with}
use Rattle.sheet_set.proofs.taking_in.taken_in.Goals as goal
use Rattle.sheet_set.proofs.taking_in.taken_in.Goals.{then-is_on+in_ok-reserve+in_ok-reserve-2, else-is_on}

-- rules that are put behind all others
put_behind : (old its : List PlacedRule) (end : ℕ) → length old ≤ end → take end old ++ (its ++ drop end old) ≡ old ++ its
put_behind old its end past =
    ap (λ l. l ++ (its ++ drop end old)) (take_all end old past)
    ∙ (ap (λ l. old ++ (its ++ l)) (drop_all end old past) ∙ ap (λ l. old ++ l) (append-nil its))

pub returns-clause-rules : goal.returns-clause-rules
returns-clause-rules c =
    let rules = c.args.rules.now in
    let lists = c.args.selectors.now in
    let kept = c.in_ok-kept.kept in
    let sheet = kept_seen kept in
    let old = rules_with rules.items lists.items in
    let off : kept.enabled ≡ false = ap (λ s. s.enabled) c.in_ok-kept.ensures in
    let same : length rules.items ≡ length lists.items = omega (arith, c.requires, rules.ok, lists.ok) in
    elim c.if-is_on.branch [
      | then-is_on+in_ok-reserve+in_ok-reserve-2 w ↦
          let there : rules_with w.reserve.new.self.items w.reserve-then-is_on.new.self.items ≡ old = ap (λ l. rules_with l w.reserve-then-is_on.new.self.items) w.reserve.ensures.items ∙ ap (rules_with rules.items) w.reserve-then-is_on.ensures.items in
          let past : length old ≤ w.len-end.result = omega (arith, length-with rules.items lists.items same, w.len-end.ensures, rules.ok) in
          let are : rules_with c.if-is_on.rules.items c.if-is_on.selectors.items ≡ old ++ own_kept kept =
          ap (λ v. rules_with v.items c.if-is_on.selectors.items) w.rules-is
          ∙ (ap (λ v. rules_with w.bring_in.new.rules.items v.items) w.selectors-is
          ∙ (w.bring_in.ensures.rules
          ∙ (ap (λ l. take w.len-end.result l ++ (own_kept kept ++ drop w.len-end.result l)) there
          ∙ put_behind old (own_kept kept) w.len-end.result past))) in
          let on : kept_seen c.if-is_on.kept ≡ with_enabled true sheet = ap kept_seen w.kept-is ∙ w.bring_in.ensures.sheet in
          let taking : taking_part (kept_seen c.if-is_on.kept) ≡ rules_at 0 sheet = ap taking_part on ∙ at-enabled sheet true 0 in
          ∥∥₁_map kept.own (λ own. are ∙ (ap (λ l. old ++ l) (own ∙ cond-false kept.enabled [] (rules_at 0 sheet) off) ∙ ap (λ l. old ++ l) (sym taking)))
      | else-is_on w ↦
          let are : rules_with c.if-is_on.rules.items c.if-is_on.selectors.items ≡ old =
          ap (λ v. rules_with v.items c.if-is_on.selectors.items) w.rules-is ∙ ap (λ v. rules_with rules.items v.items) w.selectors-is in
          let none : taking_part (kept_seen c.if-is_on.kept) ≡ [] = ap (λ k. taking_part (kept_seen k)) w.kept-is ∙ cond-false kept.enabled (rules_at 0 sheet) [] off in
          ∣ are ∙ (sym (append-nil old) ∙ ap (λ l. old ++ l) (sym none)) ∣₁
    ]
