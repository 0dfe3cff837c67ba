use Rattle.std.proofs.Common.{◌≡◌, ◌+◌, false, not, cond, length, map, ap, sym, ◌∙◌, arith}
use Rattle.edit_model.specs.SheetApply.{with_enabled}
use Rattle.sheet_set.specs.Kept.{kept_seen}
use Rattle.sheet_set.specs.Planned.{turned_over}
use Rattle.sheet_set.specs.Room.{waiting_at}
use Rattle.sheet_set.proofs.Going.{in_stead, one_less, other_choice, placed_over, same_one}
use Rattle.sheet_set.proofs.SheetAt.{count-of, one-at, seen-at, waiting-of}
use Rattle.sheet_set.proofs.stepping.turn.Goals as goal

pub leave-sheet-requires : goal.leave-sheet-requires
leave-sheet-requires c = record {
  kept = c.requires.kept;
  within = c.requires.leaves.within;
  room = c.requires.leaves.rules_room;
  selectors_room = c.requires.leaves.lists_room;
}

pub come-requires : goal.come-requires
come-requires c =
    let sheets = c.args.sheets.now in
    let place = c.args.place in
    let left = c.leave-sheet.new.sheets in
    let it = c.index.result.now in
    let sheet = c.leave-sheet.result in
    let on = c.is_enabled-on.result in
    let within = c.requires.leaves.within in
    let less = one_less sheets.items place within in
    let long : length left.items + 1 ≡ length sheets.items = ap (λ l. length l + 1) c.leave-sheet.ensures.list ∙ less in
    let alone = one-at sheets.items place it within c.index.ensures in
    let one = c.leave-sheet.ensures.it ∙ ap (λ l. map (with_enabled false) (map kept_seen l)) alone in
    let seen : kept_seen sheet ≡ with_enabled false (kept_seen it) = same_one (kept_seen sheet) (with_enabled false (kept_seen it)) one in
    let counted : sheet.count ≡ it.count = c.leave-sheet.ensures.count ∙ count-of sheets.items place it within c.index.ensures in
    let waits : cond (not on) sheet.count 0 ≡ waiting_at place sheets.items =
    ap (λ n. cond (not on) n 0) counted
    ∙ (other_choice on it.count
    ∙ (ap (λ b. cond b 0 it.count) c.is_enabled-on.ensures ∙ sym (waiting-of sheets.items place it within c.index.ensures))) in
    record {
      kept = c.leave-sheet.ensures.kept;
      within = omega (arith, long, within);
      off = ap (λ s. s.enabled) seen;
      sheets_room = omega (arith, long, c.leave-sheet.ensures.sheets_capacity, sheets.ok, left.ok);
      room = omega (arith, waits, c.leave-sheet.ensures.capacity, c.leave-sheet.ensures.fewer, c.requires.more.rules_room);
      selectors_room = omega (arith, waits, c.leave-sheet.ensures.selectors_capacity, c.leave-sheet.ensures.fewer, c.requires.more.lists_room);
      ranks_room = omega (arith, waits, c.leave-sheet.ensures.ranks_capacity, c.leave-sheet.ensures.fewer, c.requires.more.ranks_room);
    }

pub returns-clause-list : goal.returns-clause-list
returns-clause-list c =
    let sheets = c.args.sheets.now.items in
    let place = c.args.place in
    let it = c.index.result.now in
    let sheet = c.leave-sheet.result in
    let on = c.is_enabled-on.result in
    let within = c.requires.leaves.within in
    let alone = one-at sheets place it within c.index.ensures in
    let one = c.leave-sheet.ensures.it ∙ ap (λ l. map (with_enabled false) (map kept_seen l)) alone in
    let seen : kept_seen sheet ≡ with_enabled false (kept_seen it) = same_one (kept_seen sheet) (with_enabled false (kept_seen it)) one in
    let new = with_enabled (not on) (kept_seen sheet) in
    let turned : new ≡ turned_over (kept_seen it) =
    ap (with_enabled (not on)) seen ∙ ap (λ b. with_enabled (not b) (kept_seen it)) c.is_enabled-on.ensures in
    in_stead kept_seen sheets c.leave-sheet.new.sheets.items place within c.leave-sheet.ensures.list new (map kept_seen c.come.new.sheets.items) c.come.ensures.list
    ∙ placed_over (map kept_seen sheets) place turned_over (kept_seen it) new (seen-at sheets place it within c.index.ensures) turned
