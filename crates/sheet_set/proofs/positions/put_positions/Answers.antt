use Rattle.std.proofs.Common.{◌≡◌, ◌+◌, ◌-◌, ◌≤◌, ◌++◌, true, false, length, drop, replicate, vec_capacity, vec_len, ap, sym, ◌∙◌, arith, length-append}
use Rattle.std.proofs.lemmas.Bool.{cond-true}
use Rattle.std.proofs.lemmas.List.{length-replicate, take_all}
use Rattle.sheet_set.specs.Positions.{positions_from}
use Rattle.sheet_set.proofs.Positioned.{positions-off, positions-on}
use Rattle.sheet_set.proofs.Taking.{counted-more, counted-within, none_count, part_count}
use Rattle.sheet_set.proofs.positions.put_positions.Goals as goal
use Rattle.sheet_set.proofs.positions.put_positions.Goals.{then-is_enabled, else-is_enabled}

pub overflow_add-len : goal.overflow_add-len
overflow_add-len c =
    let kept = c.sheet-item.result in
    let list = c.loop-sheet.positions in
    let on : kept.enabled ≡ true = sym c.is_enabled.ensures ∙ c.if-is_enabled.true in
    let within = counted-within c.args.sheets.now c.loop-sheet.sheet-index kept c.loop-sheet-test.true c.sheet-item.is in
    omega (arith, within, part_count kept on, c.count.ensures, kept.counted, c.len.ensures, list.ok, c.loop-sheet.invariant.counted, c.requires.room, c.args.positions.now.small, c.clear.ensures.capacity)

pub loop-sheet-preserved : goal.loop-sheet-preserved
loop-sheet-preserved c =
    let sheets = c.args.sheets.now in
    let i = c.loop-sheet.sheet-index in
    let kept = c.sheet-item.result in
    let list = c.loop-sheet.positions in
    let position = c.loop-sheet.position in
    let before = c.loop-sheet.invariant in
    let more = counted-more sheets i kept c.loop-sheet-test.true c.sheet-item.is in
    elim c.if-is_enabled.branch [
      | then-is_enabled w ↦
          let on : kept.enabled ≡ true = sym c.is_enabled.ensures ∙ w.if-is_enabled.true in
          let its : w.count.result ≡ kept.count = w.count.ensures ∙ sym kept.counted in
          let n = w.len.result + w.count.result in
          let within = counted-within sheets i kept c.loop-sheet-test.true c.sheet-item.is in
          let room : n ≤ vec_capacity list = omega (arith, within, part_count kept on, its, w.len.ensures, list.ok, before.counted, before.capacity, c.requires.room, c.clear.ensures.capacity) in
          let rest : n - vec_len list ≡ kept.count = omega (arith, its, w.len.ensures) in
          let new = w.resize-done.new.self in
          let added : new.items ≡ list.items ++ replicate kept.count position =
          w.resize-done.ensures.items
          ∙ (cond-true _ _ _ (w.resize-done.ensures.succeeds room)
          ∙ (ap (λ l. l ++ replicate (n - vec_len list) position) (take_all n list.items (omega (arith, w.len.ensures, list.ok)))
          ∙ ap (λ m. list.items ++ replicate m position) rest)) in
          record {
            placed = ap (λ v. v.items ++ positions_from c.if-is_enabled.position (drop (i + 1) sheets)) w.positions-is
                ∙ (ap (λ p. new.items ++ positions_from p (drop (i + 1) sheets)) w.position-is
                ∙ (positions-on sheets i kept c.loop-sheet-test.true c.sheet-item.is on position list.items new.items added ∙ before.placed));
            counted = omega (arith, more, part_count kept on, before.counted, ap (λ v. length v.items) w.positions-is, ap length added, length-append list.items (replicate kept.count position), length-replicate kept.count position);
            below = omega (arith, before.below, w.position-is);
            capacity = omega (arith, before.capacity, ap (λ v. vec_capacity v) w.positions-is, w.resize-done.ensures.capacity);
          }
      | else-is_enabled w ↦
          let off : kept.enabled ≡ false = sym c.is_enabled.ensures ∙ w.if-is_enabled.false in
          record {
            placed = ap (λ v. v.items ++ positions_from c.if-is_enabled.position (drop (i + 1) sheets)) w.positions-is
                ∙ (ap (λ p. list.items ++ positions_from p (drop (i + 1) sheets)) w.position-is
                ∙ (positions-off sheets i kept c.loop-sheet-test.true c.sheet-item.is off position list.items ∙ before.placed));
            counted = omega (arith, more, none_count kept off, before.counted, ap (λ v. length v.items) w.positions-is);
            below = omega (arith, before.below, w.position-is);
            capacity = omega (arith, before.capacity, ap (λ v. vec_capacity v) w.positions-is);
          }
    ]
