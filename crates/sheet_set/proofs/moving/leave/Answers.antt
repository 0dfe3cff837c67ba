use Rattle.std.proofs.Common.{◌≡◌, ◌+◌, ◌++◌, [], ◌∷◌, true, false, length, take, drop, map, vec_len, ap, sym, ◌∙◌, arith}
use Rattle.std.proofs.Math.Logic.{∥∥₁_map}
use Rattle.std.proofs.lemmas.List.{length-map}
use Rattle.edit_model.specs.SheetApply.{with_enabled}
use Rattle.sheet_set.specs.Kept.{kept_seen, taking}
use Rattle.sheet_set.specs.Rules.{rules_at, rules_with}
use Rattle.sheet_set.specs.Standing.{rank_placed}
use Rattle.sheet_set.proofs.Going.{no_longer}
use Rattle.sheet_set.proofs.SheetAt.{count-of, one-at}
use Rattle.sheet_set.proofs.MovedRules.{front-within, part_is, taking-on, total-within}
use Rattle.sheet_set.proofs.Standings.{left-off, left-on}
use Rattle.sheet_set.proofs.Taking.{counted-within, length-with, part_count, rules_count}
use Rattle.sheet_set.proofs.moving.leave.Goals as goal
use Rattle.sheet_set.proofs.moving.leave.Goals.{then-is_enabled, else-is_enabled}

pub taking_count-at-requires : goal.taking_count-at-requires
taking_count-at-requires c =
    let sheets = c.args.sheets.now.items in
    let rules = c.args.rules.now in
    let total = total-within rules.items c.args.selectors.now.items sheets c.requires.kept.paired c.requires.kept.texts in
    let front = front-within sheets c.args.place in
    let is = ap (λ l. length (taking (take c.args.place l))) c.deref.ensures.value in
    omega (arith, total, front, is, rules.ok, rules.small)

pub take_out-requires-clause-within : goal.take_out-requires-clause-within
take_out-requires-clause-within c =
    let sheets = c.args.sheets.now.items in
    let it = c.remove-sheet.result in
    let on : it.enabled ≡ true = sym c.is_enabled.ensures ∙ c.if-is_enabled.true in
    let total = total-within c.args.rules.now.items c.args.selectors.now.items sheets c.requires.kept.paired c.requires.kept.texts in
    let within = counted-within sheets c.args.place it c.requires.within c.remove-sheet.ensures.value in
    let at = c.taking_count-at.ensures ∙ ap (λ l. length (taking (take c.args.place l))) c.deref.ensures.value in
    omega (arith, total, within, part_count it on, at)

pub take_out-requires-clause-its : goal.take_out-requires-clause-its
take_out-requires-clause-its c =
    let sheets = c.args.sheets.now.items in
    let it = c.remove-sheet.result in
    let place = c.args.place in
    let before = taking (take place sheets) in
    let after = taking (drop (place + 1) sheets) in
    let at : length before ≡ c.taking_count-at.result = sym (c.taking_count-at.ensures ∙ ap (λ l. length (taking (take place l))) c.deref.ensures.value) in
    let on : it.enabled ≡ true = sym c.is_enabled.ensures ∙ c.if-is_enabled.true in
    let parts = taking-on sheets place it c.requires.within c.remove-sheet.ensures.value on in
    ∥∥₁_map c.requires.kept.texts (λ texts.
    part_is (rules_with c.args.rules.now.items c.args.selectors.now.items) before (rules_at 0 (kept_seen it)) after c.taking_count-at.result it.count (texts ∙ parts) at (rules_count it))

pub drop_part-requires : goal.drop_part-requires
drop_part-requires c =
    let sheets = c.args.sheets.now.items in
    let rules = c.args.rules.now in
    let lists = c.args.selectors.now in
    let it = c.remove-sheet.result in
    let old = rules_with rules.items lists.items in
    let on : it.enabled ≡ true = sym c.is_enabled.ensures ∙ c.if-is_enabled.true in
    let total = total-within rules.items lists.items sheets c.requires.kept.paired c.requires.kept.texts in
    let within = counted-within sheets c.args.place it c.requires.within c.remove-sheet.ensures.value in
    let at = c.taking_count-at.ensures ∙ ap (λ l. length (taking (take c.args.place l))) c.deref.ensures.value in
    let ranked : length c.args.ranks.now.items ≡ length old = ap length c.requires.kept.ranked ∙ length-map old (rank_placed c.args._layers.now) in
    let all = length-with rules.items lists.items c.requires.kept.paired in
    let count : c.count.result ≡ it.count = c.count.ensures ∙ (sym c.take_out.new.self.counted ∙ c.take_out.ensures.count) in
    omega (arith, total, within, part_count it on, at, ranked, all, count)

pub returns-clause-kept : goal.returns-clause-kept
returns-clause-kept c =
    let sheets = c.args.sheets.now.items in
    let place = c.args.place in
    let rules = c.args.rules.now in
    let lists = c.args.selectors.now in
    let ranks = c.args.ranks.now in
    let layers = c.args._layers.now in
    let it = c.remove-sheet.result in
    let old = rules_with rules.items lists.items in
    let all = c.if-is_enabled in
    let at = c.taking_count-at.result in
    let is_at : at ≡ length (taking (take place sheets)) = c.taking_count-at.ensures ∙ ap (λ l. length (taking (take place l))) c.deref.ensures.value in
    let left : c.remove-sheet.new.self.items ≡ take place sheets ++ drop (place + 1) sheets = c.remove-sheet.ensures.by_index.2 in
    elim c.if-is_enabled.branch [
      | then-is_enabled w ↦
          let on : it.enabled ≡ true = sym c.is_enabled.ensures ∙ w.if-is_enabled.true in
          let are : rules_with all.rules.items all.selectors.items ≡ take at old ++ drop it.count (drop at old) =
          ap (λ v. rules_with v.items all.selectors.items) w.rules-is ∙ (ap (λ v. rules_with w.take_out.new.rules.items v.items) w.selectors-is ∙ w.take_out.ensures.rules) in
          let count : w.count.result ≡ it.count = w.count.ensures ∙ (sym w.take_out.new.self.counted ∙ w.take_out.ensures.count) in
          let ranked : all.ranks.items ≡ take at ranks.items ++ drop it.count (drop at ranks.items) =
          ap (λ v. v.items) w.ranks-is ∙ (w.drop_part.ensures.items ∙ ap (λ n. take at ranks.items ++ drop n (drop at ranks.items)) count) in
          let paired : length all.rules.items ≡ length all.selectors.items =
          omega (arith, ap (λ v. vec_len v) w.rules-is, ap (λ v. vec_len v) w.selectors-is, w.take_out.ensures.paired, all.rules.ok, all.selectors.ok) in
          left-on sheets rules.items lists.items layers ranks.items c.requires.kept c.remove-sheet.new.self.items all.rules.items all.selectors.items all.ranks.items paired
          place it c.requires.within c.remove-sheet.ensures.value left on at is_at are ranked
      | else-is_enabled w ↦
          let off : it.enabled ≡ false = sym c.is_enabled.ensures ∙ w.if-is_enabled.false in
          let are : rules_with all.rules.items all.selectors.items ≡ old = ap (λ v. rules_with v.items all.selectors.items) w.rules-is ∙ ap (λ v. rules_with rules.items v.items) w.selectors-is in
          let paired : length all.rules.items ≡ length all.selectors.items =
          ap (λ v. length v.items) w.rules-is ∙ (c.requires.kept.paired ∙ sym (ap (λ v. length v.items) w.selectors-is)) in
          left-off sheets rules.items lists.items layers ranks.items c.requires.kept c.remove-sheet.new.self.items all.rules.items all.selectors.items all.ranks.items paired
          place it c.requires.within c.remove-sheet.ensures.value left off are (ap (λ v. v.items) w.ranks-is)
    ]

pub returns-clause-it : goal.returns-clause-it
returns-clause-it c =
    let sheets = c.args.sheets.now.items in
    let place = c.args.place in
    let it = c.remove-sheet.result in
    let alone = one-at sheets place it c.requires.within c.remove-sheet.ensures.value in
    let whole : map (with_enabled false) (map kept_seen (take 1 (drop place sheets))) ≡ with_enabled false (kept_seen it) ∷ [] = ap (λ l. map (with_enabled false) (map kept_seen l)) alone in
    elim c.if-is_enabled.branch [
      | then-is_enabled w ↦ ap (λ s. kept_seen s ∷ []) w.sheet-is ∙ (ap (λ s. s ∷ []) w.take_out.ensures.sheet ∙ sym whole)
      | else-is_enabled w ↦
          let off : it.enabled ≡ false = sym c.is_enabled.ensures ∙ w.if-is_enabled.false in
          ap (λ s. kept_seen s ∷ []) w.sheet-is ∙ (ap (λ b. with_enabled b (kept_seen it) ∷ []) off ∙ sym whole)
    ]

pub returns-clause-count : goal.returns-clause-count
returns-clause-count c =
    let sheets = c.args.sheets.now.items in
    let it = c.remove-sheet.result in
    let counted = count-of sheets c.args.place it c.requires.within c.remove-sheet.ensures.value in
    elim c.if-is_enabled.branch [
      | then-is_enabled w ↦ ap (λ s. s.count) w.sheet-is ∙ (w.take_out.ensures.count ∙ sym counted)
      | else-is_enabled w ↦ ap (λ s. s.count) w.sheet-is ∙ sym counted
    ]

pub returns-clause-fewer : goal.returns-clause-fewer
returns-clause-fewer c =
    let rules = c.args.rules.now in
    let lists = c.args.selectors.now in
    let old = rules_with rules.items lists.items in
    elim c.if-is_enabled.branch [
      | then-is_enabled w ↦
          let its = w.take_out.new.rules in
          let their = w.take_out.new.selectors in
          let paired : length its.items ≡ length their.items = omega (arith, w.take_out.ensures.paired, its.ok, their.ok) in
          let left = ap length w.take_out.ensures.rules in
          let most = no_longer old c.taking_count-at.result c.remove-sheet.result.count in
          omega (arith, ap (λ v. vec_len v) w.rules-is, length-with its.items their.items paired, left, most, length-with rules.items lists.items c.requires.kept.paired, its.ok, rules.ok)
      | else-is_enabled w ↦ omega (arith, ap (λ v. vec_len v) w.rules-is)
    ]
