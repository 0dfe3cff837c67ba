use Rattle.std.proofs.Common.{◌≡◌, ◌+◌, ◌∷◌, ◌++◌, [], List, length, map, vec_len, ap, sym, subst, ◌∙◌, arith, append-nil, length-append}
use Rattle.std.proofs.Math.Logic.{∥∥₁_map₂}
use Rattle.std.specs.Vec.Iter.{into_iter_items}
use Rattle.std.proofs.lemmas.List.{length-map, nil_from_length}
use Rattle.std.proofs.lemmas.Result.{IfOk-weaker}
use Rattle.base_model.specs.Sheet.{Sheet}
use Rattle.layer_order.specs.View.{sheet_of, sheets_from, sheets_of}
use Rattle.edit_model.specs.SheetApply.{AreNumbered, SheetList}
use Rattle.sheet_set.specs.Kept.{kept_seen, taking}
use Rattle.sheet_set.specs.Rules.{taking_part}
use Rattle.sheet_set.proofs.Collected.{none_placed, one_placed}
use Rattle.sheet_set.proofs.FirstSheets.{length-sheets, numbered-first}
use Rattle.sheet_set.proofs.Taking.{taking-append}
use Rattle.sheet_set.proofs.sheets.Sheets.of_list.Goals as goal

pub loop-sheet-preserved : goal.loop-sheet-preserved
loop-sheet-preserved c =
    let left = into_iter_items c.next.new.self in
    let item = c.in-Some.sheet in
    let list = c.loop-sheet.list in
    let kept = c.in_ok-kept.kept in
    let number = vec_len list + 1 in
    let inv = c.loop-sheet.invariant in
    let steps : into_iter_items c.loop-sheet.sheet-iterator ≡ item ∷ left = c.in-Some.ensures.steps.0 in
    let fewer = c.in-Some.ensures.steps.1 in
    let pushed : c.push.new.self.items ≡ list.items ++ kept ∷ [] = c.in_ok-push.ensures.items in
    let count : vec_len c.push.new.self ≡ number = omega (arith, ap length pushed, length-append list.items (kept ∷ []), c.push.new.self.ok, list.ok) in
    let counted : number + 1 ≡ vec_len c.push.new.self + 1 = omega (arith, count) in
    let given : c.len-in-loop-sheet.result + 1 ≡ number = omega (arith, c.len-in-loop-sheet.ensures) in
    let it : kept_seen kept ≡ sheet_of number item = c.in_ok-kept.ensures.sheet ∙ ap (λ n. sheet_of n item) given in
    let split : sheets_from number (into_iter_items c.loop-sheet.sheet-iterator) ≡ sheet_of number item ∷ sheets_from (vec_len c.push.new.self + 1) left =
    ap (sheets_from number) steps ∙ ap (λ n. sheet_of number item ∷ sheets_from n left) counted in
    let more : taking c.push.new.self.items ≡ taking list.items ++ taking_part (kept_seen kept) =
    ap taking pushed ∙ (taking-append list.items (kept ∷ []) ∙ ap (λ l. taking list.items ++ l) (append-nil (taking_part (kept_seen kept)))) in
    record {
      kept = one_placed kept_seen _ _ _ _ _ _ _ pushed split it inv.kept;
      rules = ∥∥₁_map₂ c.in_ok-kept.ensures.rules inv.rules (λ added before. added ∙ (ap (λ l. l ++ taking_part (kept_seen kept)) before ∙ sym more));
      paired = c.in_ok-kept.ensures.paired;
      counted = omega (arith, inv.counted, fewer, ap length steps);
      number = omega (arith, count, inv.number, fewer);
    }

pub of_kept-requires-clause-numbered : goal.of_kept-requires-clause-numbered
of_kept-requires-clause-numbered c =
    let list = c.loop-sheet.list in
    let inv = c.loop-sheet.invariant in
    let empty = nil_from_length (into_iter_items c.loop-sheet.sheet-iterator) (sym inv.counted ∙ c.in-None.ensures.steps.0) in
    let is : map kept_seen list.items ≡ sheets_of c.args.sheets.items =
    none_placed (map kept_seen list.items) _ _ (ap (sheets_from (vec_len list + 1)) empty) inv.kept ∙ ap sheets_of c.into_iter-sheet-iterator.ensures.into_iter_gives.0 in
    let long : length c.args.sheets.items ≡ length list.items = sym (length-sheets 1 c.args.sheets.items) ∙ (ap length (sym is) ∙ length-map list.items kept_seen) in
    let last : length list.items ≡ c.len-last.result = omega (arith, c.len-last.ensures, list.ok) in
    ∣ subst (λ (l : List Sheet). AreNumbered (record { listed = l; last = c.len-last.result })) (sym is)
    (subst (λ n. AreNumbered (record { listed = sheets_of c.args.sheets.items; last = n })) (long ∙ last) (numbered-first c.args.sheets.items)) ∣₁

pub returns : goal.returns
returns c =
    let list = c.loop-sheet.list in
    let inv = c.loop-sheet.invariant in
    let empty = nil_from_length (into_iter_items c.loop-sheet.sheet-iterator) (sym inv.counted ∙ c.in-None.ensures.steps.0) in
    let is : map kept_seen list.items ≡ sheets_of c.args.sheets.items =
    none_placed (map kept_seen list.items) _ _ (ap (sheets_from (vec_len list + 1)) empty) inv.kept ∙ ap sheets_of c.into_iter-sheet-iterator.ensures.into_iter_gives.0 in
    let long : length list.items ≡ length c.args.sheets.items = sym (length-map list.items kept_seen) ∙ (ap length is ∙ length-sheets 1 c.args.sheets.items) in
    let last : c.len-last.result ≡ length list.items = omega (arith, c.len-last.ensures, list.ok) in
    let listed : (l : List Sheet) → SheetList = λ l. record { listed = l; last = c.len-last.result } in
    IfOk-weaker c.of_kept.result _ _ (λ made made_is. made_is
    ∙ (ap listed is ∙ ap (λ n. record { listed = sheets_of c.args.sheets.items; last = n }) (last ∙ long))) c.of_kept.ensures
