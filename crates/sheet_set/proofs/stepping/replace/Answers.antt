use Rattle.std.proofs.Common.{◌≡◌, ◌+◌, length, map, ap, ◌∙◌, arith}
use Rattle.edit_model.specs.SheetApply.{with_enabled}
use Rattle.sheet_set.specs.Kept.{kept_seen}
use Rattle.sheet_set.specs.Planned.{put_over}
use Rattle.sheet_set.proofs.Going.{at_most, in_stead, one_less, placed_over}
use Rattle.sheet_set.proofs.SheetAt.{seen-at}
use Rattle.sheet_set.proofs.stepping.replace.Goals as goal

pub leave-old-requires : goal.leave-old-requires
leave-old-requires c = record {
  kept = c.requires.kept;
  within = c.requires.leaves.within;
  room = c.requires.leaves.rules_room;
  selectors_room = c.requires.leaves.lists_room;
}

pub come-requires : goal.come-requires
come-requires c =
    let sheets = c.args.sheets.now in
    let left = c.leave-old.new.sheets in
    let less = one_less sheets.items c.args.place c.requires.leaves.within in
    let long : length left.items + 1 ≡ length sheets.items = ap (λ l. length l + 1) c.leave-old.ensures.list ∙ less in
    let most = at_most c.is_enabled-on.result c.args.sheet.count in
    record {
      kept = c.leave-old.ensures.kept;
      within = omega (arith, long, c.requires.leaves.within);
      off = c.requires.off;
      sheets_room = omega (arith, long, c.leave-old.ensures.sheets_capacity, sheets.ok, left.ok);
      room = omega (arith, most, c.leave-old.ensures.capacity, c.leave-old.ensures.fewer, c.requires.more.rules_room);
      selectors_room = omega (arith, most, c.leave-old.ensures.selectors_capacity, c.leave-old.ensures.fewer, c.requires.more.lists_room);
      ranks_room = omega (arith, most, c.leave-old.ensures.ranks_capacity, c.leave-old.ensures.fewer, c.requires.more.ranks_room);
    }

pub returns-clause-list : goal.returns-clause-list
returns-clause-list c =
    let sheets = c.args.sheets.now.items in
    let place = c.args.place in
    let seen = kept_seen c.args.sheet in
    let it = c.index.result.now in
    let on = c.is_enabled-on.result in
    let within = c.requires.leaves.within in
    let alone = seen-at sheets place it within c.index.ensures in
    in_stead kept_seen sheets c.leave-old.new.sheets.items place within c.leave-old.ensures.list (with_enabled on seen) (map kept_seen c.come.new.sheets.items) c.come.ensures.list
    ∙ placed_over (map kept_seen sheets) place (put_over seen) (kept_seen it) (with_enabled on seen) alone (ap (λ b. with_enabled b seen) c.is_enabled-on.ensures)
