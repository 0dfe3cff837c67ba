use Rattle.std.proofs.Common.{◌≡◌, ◌++◌, [], ◌∷◌, length, take, drop, map, vec_len, cond, ap, sym, ◌∙◌, arith}
use Rattle.std.proofs.Math.Logic.{∥∥₁_map}
use Rattle.std.proofs.lemmas.Bool.{cond-true, cond-false}
use Rattle.std.proofs.lemmas.List.{length-map, map-append, take-map, drop-map}
use Rattle.edit_model.specs.SheetApply.{with_enabled}
use Rattle.sheet_set.specs.Kept.{kept_seen, own_kept, taking}
use Rattle.sheet_set.specs.Ranks.{rank_seen}
use Rattle.sheet_set.specs.Rules.{AreSame, rules_at, rules_with}
use Rattle.sheet_set.specs.Standing.{rank_placed}
use Rattle.sheet_set.proofs.MovedRules.{front-within, total-within}
use Rattle.sheet_set.proofs.Standings.{come-off, come-on}
use Rattle.sheet_set.proofs.Taking.{length-with}
use Rattle.sheet_set.proofs.moving.come.Goals as goal
use Rattle.sheet_set.proofs.moving.come.Goals.{then-on, else-on}

pub taking_count-at-requires : goal.taking_count-at-requires
taking_count-at-requires c =
    let sheets = c.args.sheets.now.items in
    let rules = c.args.rules.now in
    let total = total-within rules.items c.args.selectors.now.items sheets c.requires.kept.paired c.requires.kept.texts in
    let front = front-within sheets c.args.place in
    let is = ap (λ l. length (taking (take c.args.place l))) c.deref.ensures.value in
    omega (arith, total, front, is, rules.ok, rules.small)

pub put_ranks-requires : goal.put_ranks-requires
put_ranks-requires c =
    let sheets = c.args.sheets.now.items in
    let rules = c.args.rules.now in
    let lists = c.args.selectors.now in
    let sheet = c.args.sheet in
    let ranks = c.args.ranks.now in
    let old = rules_with rules.items lists.items in
    let total = total-within rules.items lists.items sheets c.requires.kept.paired c.requires.kept.texts in
    let front = front-within sheets c.args.place in
    let at = c.taking_count-at.ensures ∙ ap (λ l. length (taking (take c.args.place l))) c.deref.ensures.value in
    let ranked : length ranks.items ≡ length old = ap length c.requires.kept.ranked ∙ length-map old (rank_placed c.args.layers.now) in
    let all = length-with rules.items lists.items c.requires.kept.paired in
    let its : vec_len sheet.rules ≡ sheet.count = sheet.held ∙ cond-false sheet.enabled 0 sheet.count c.requires.off in
    let more : cond c.args.on sheet.count 0 ≡ sheet.count = cond-true c.args.on sheet.count 0 c.if-on.true in
    record {
      within = omega (arith, total, front, at, ranked, all);
      room = omega (arith, ranked, all, its, more, ap length c.own_rules.ensures, sheet.rules.ok, ranks.ok, rules.ok, c.requires.ranks_room);
    }

pub bring_in-requires : goal.bring_in-requires
bring_in-requires c =
    let sheets = c.args.sheets.now.items in
    let rules = c.args.rules.now in
    let lists = c.args.selectors.now in
    let sheet = c.args.sheet in
    let total = total-within rules.items lists.items sheets c.requires.kept.paired c.requires.kept.texts in
    let front = front-within sheets c.args.place in
    let at = c.taking_count-at.ensures ∙ ap (λ l. length (taking (take c.args.place l))) c.deref.ensures.value in
    let more : cond c.args.on sheet.count 0 ≡ sheet.count = cond-true c.args.on sheet.count 0 c.if-on.true in
    record {
      off = c.requires.off;
      within = omega (arith, total, front, at);
      paired = omega (arith, c.requires.kept.paired, rules.ok, lists.ok);
      room = omega (arith, more, c.requires.room);
      selectors_room = omega (arith, more, c.requires.selectors_room);
    }

pub returns-clause-kept : goal.returns-clause-kept
returns-clause-kept c =
    let sheets = c.args.sheets.now.items in
    let place = c.args.place in
    let rules = c.args.rules.now in
    let lists = c.args.selectors.now in
    let ranks = c.args.ranks.now in
    let layers = c.args.layers.now in
    let sheet = c.args.sheet in
    let old = rules_with rules.items lists.items in
    let all = c.if-on in
    let at = c.taking_count-at.result in
    let is_at : at ≡ length (taking (take place sheets)) = c.taking_count-at.ensures ∙ ap (λ l. length (taking (take place l))) c.deref.ensures.value in
    let new = c.insert-done.new.self in
    let come : new.items ≡ take place sheets ++ all.sheet ∷ drop place sheets =
    c.insert-done.ensures.items ∙ cond-true _ _ _ (c.insert-done.ensures.succeeds c.requires.sheets_room) in
    elim c.if-on.branch [
      | then-on w ↦
          let are : rules_with all.rules.items all.selectors.items ≡ take at old ++ (own_kept sheet ++ drop at old) =
          ap (λ v. rules_with v.items all.selectors.items) w.rules-is ∙ (ap (λ v. rules_with w.bring_in.new.rules.items v.items) w.selectors-is ∙ w.bring_in.ensures.rules) in
          let ranked = ap (λ v. v.items) w.ranks-is ∙ (w.put_ranks.ensures ∙ ap (λ l. take at ranks.items ++ (map (rank_seen layers) l ++ drop at ranks.items)) w.own_rules.ensures) in
          let paired : length all.rules.items ≡ length all.selectors.items =
          omega (arith, ap (λ v. vec_len v) w.rules-is, ap (λ v. vec_len v) w.selectors-is, w.bring_in.ensures.paired, all.rules.ok, all.selectors.ok) in
          let own : AreSame (own_kept sheet) (rules_at 0 (kept_seen sheet)) = ∥∥₁_map sheet.own (λ o. o ∙ cond-false sheet.enabled [] (rules_at 0 (kept_seen sheet)) c.requires.off) in
          let same : length sheet.rules.items ≡ length sheet.selectors.items = omega (arith, sheet.paired, sheet.rules.ok, sheet.selectors.ok) in
          come-on sheets rules.items lists.items layers ranks.items c.requires.kept new.items all.rules.items all.selectors.items all.ranks.items paired
          place all.sheet come sheet sheet.rules.items sheet.selectors.items at is_at (ap kept_seen w.sheet-is ∙ w.bring_in.ensures.sheet) own same are ranked
      | else-on w ↦
          let are : rules_with all.rules.items all.selectors.items ≡ old = ap (λ v. rules_with v.items all.selectors.items) w.rules-is ∙ ap (λ v. rules_with rules.items v.items) w.selectors-is in
          let paired : length all.rules.items ≡ length all.selectors.items =
          ap (λ v. length v.items) w.rules-is ∙ (c.requires.kept.paired ∙ sym (ap (λ v. length v.items) w.selectors-is)) in
          come-off sheets rules.items lists.items layers ranks.items c.requires.kept new.items all.rules.items all.selectors.items all.ranks.items paired
          place all.sheet come (ap (λ s. s.enabled) w.sheet-is ∙ c.requires.off) are (ap (λ v. v.items) w.ranks-is)
    ]

pub returns-clause-list : goal.returns-clause-list
returns-clause-list c =
    let sheets = c.args.sheets.now.items in
    let place = c.args.place in
    let sheet = c.args.sheet in
    let all = c.if-on in
    let new = c.insert-done.new.self in
    let come : new.items ≡ take place sheets ++ all.sheet ∷ drop place sheets =
    c.insert-done.ensures.items ∙ cond-true _ _ _ (c.insert-done.ensures.succeeds c.requires.sheets_room) in
    let parts : map kept_seen new.items ≡ take place (map kept_seen sheets) ++ kept_seen all.sheet ∷ drop place (map kept_seen sheets) =
    ap (map kept_seen) come
    ∙ (map-append kept_seen (take place sheets) (all.sheet ∷ drop place sheets)
    ∙ (ap (λ l. l ++ kept_seen all.sheet ∷ map kept_seen (drop place sheets)) (sym (take-map kept_seen place sheets))
    ∙ ap (λ l. take place (map kept_seen sheets) ++ kept_seen all.sheet ∷ l) (sym (drop-map kept_seen place sheets)))) in
    let it : kept_seen all.sheet ≡ with_enabled c.args.on (kept_seen sheet) =
    elim c.if-on.branch [
      | then-on w ↦ ap kept_seen w.sheet-is ∙ (w.bring_in.ensures.sheet ∙ ap (λ b. with_enabled b (kept_seen sheet)) (sym w.if-on.true))
      | else-on w ↦ ap kept_seen w.sheet-is ∙ ap (λ b. with_enabled b (kept_seen sheet)) (c.requires.off ∙ sym w.if-on.false)
    ] in
    parts ∙ ap (λ s. take place (map kept_seen sheets) ++ s ∷ drop place (map kept_seen sheets)) it
