use Rattle.std.proofs.Common.{◌≡◌, ◌<◌, ◌++◌, ◌∷◌, [], get_or, length, map, take, subst, sym, ap, ◌∙◌, append-nil}
use Rattle.std.proofs.Math.Logic.{∥∥₁_map₂}
use Rattle.std.proofs.lemmas.List.{map-append, take_more}
use Rattle.sheet_set.specs.Kept.{kept_seen, taking}
use Rattle.sheet_set.specs.Rules.{taking_part}
use Rattle.sheet_set.proofs.Taking.{taking-append}
use Rattle.sheet_set.proofs.sheets.Sheets.copy.Goals as goal

pub loop-sheet-preserved : goal.loop-sheet-preserved
loop-sheet-preserved c =
    let sheets = c.args.self.now.sheets.items in
    let i = c.loop-sheet.sheet-index in
    let item = c.sheet-item.result in
    let list = c.loop-sheet.list in
    let kept = c.in_ok-kept.kept in
    let inv = c.loop-sheet.invariant in
    let all = c.deref-sheet-items.ensures.value in
    let below : i < length sheets = subst (λ l. i < length l) all c.loop-sheet-test.true in
    let is : item ≡ get_or sheets i item = subst (λ l. item ≡ get_or l i item) all c.sheet-item.is in
    let pushed : c.push.new.self.items ≡ list.items ++ kept ∷ [] = c.in_ok-push.ensures.items in
    let more : taking c.push.new.self.items ≡ taking list.items ++ taking_part (kept_seen kept) =
    ap taking pushed ∙ (taking-append list.items (kept ∷ []) ∙ ap (λ l. taking list.items ++ l) (append-nil (taking_part (kept_seen kept)))) in
    record {
      kept = ap (map kept_seen) pushed ∙ (map-append kept_seen list.items (kept ∷ [])
          ∙ (ap (λ l. l ++ kept_seen kept ∷ []) inv.kept
          ∙ (ap (λ s. map kept_seen (take i sheets) ++ s ∷ []) c.in_ok-kept.ensures.sheet
          ∙ (sym (map-append kept_seen (take i sheets) (item ∷ []))
          ∙ ap (map kept_seen) (ap (λ s. take i sheets ++ s ∷ []) is ∙ sym (take_more sheets i item below))))));
      rules = ∥∥₁_map₂ c.in_ok-kept.ensures.rules inv.rules (λ added before. added ∙ (ap (λ l. l ++ taking_part (kept_seen kept)) before ∙ sym more));
      paired = c.in_ok-kept.ensures.paired;
    }
