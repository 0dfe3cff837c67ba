use Rattle.std.proofs.Common.{◌≡◌, true, false, sym, ◌∙◌, arith}
use Rattle.sheet_set.proofs.Taking.{counted-more, counted-within, none_count, part_count}
use Rattle.sheet_set.proofs.moving.taking_count.Goals as goal
use Rattle.sheet_set.proofs.moving.taking_count.Goals.{then-is_enabled, else-is_enabled}

pub overflow_add-count : goal.overflow_add-count
overflow_add-count c =
    let kept = c.sheet-item.result in
    let on : kept.enabled ≡ true = sym c.is_enabled.ensures ∙ c.if-is_enabled.true in
    let within = counted-within c.args.sheets.now c.loop-sheet.sheet-index kept c.loop-sheet-test.true c.sheet-item.is in
    omega (arith, within, part_count kept on, c.count-count.ensures, kept.counted, c.loop-sheet.invariant, c.requires)

pub loop-sheet-preserved : goal.loop-sheet-preserved
loop-sheet-preserved c =
    let kept = c.sheet-item.result in
    let more = counted-more c.args.sheets.now c.loop-sheet.sheet-index kept c.loop-sheet-test.true c.sheet-item.is in
    elim c.if-is_enabled.branch [
      | then-is_enabled w ↦
          let on : kept.enabled ≡ true = sym c.is_enabled.ensures ∙ w.if-is_enabled.true in
          omega (arith, more, part_count kept on, w.count-is, w.count-count.ensures, kept.counted, c.loop-sheet.invariant)
      | else-is_enabled w ↦
          let off : kept.enabled ≡ false = sym c.is_enabled.ensures ∙ w.if-is_enabled.false in
          omega (arith, more, none_count kept off, w.count-is, c.loop-sheet.invariant)
    ]
