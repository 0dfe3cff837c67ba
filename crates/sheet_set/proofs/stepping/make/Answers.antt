use Rattle.std.proofs.Common.{map, sym, ap, subst, ◌∙◌}
use Rattle.sheet_set.specs.Kept.{kept_seen}
use Rattle.sheet_set.specs.Planned.{stepped}
use Rattle.sheet_set.specs.Room.{HasRoom}
use Rattle.sheet_set.proofs.Going.{seen_left}
use Rattle.sheet_set.proofs.stepping.make.Goals as goal

pub come-requires : goal.come-requires
come-requires c =
    let room = subst (HasRoom c.args.sheets.now c.args.rules.now c.args.selectors.now c.args.ranks.now) c.in-Come.is c.requires.room in
    record {
      kept = c.requires.kept;
      within = room.0.within;
      off = room.0.off;
      sheets_room = room.0.room;
      room = room.1.rules_room;
      selectors_room = room.1.lists_room;
      ranks_room = room.1.ranks_room;
    }

pub returns-in-Go-clause-list : goal.returns-in-Go-clause-list
returns-in-Go-clause-list c =
    let sheets = c.args.sheets.now in
    let leaves = subst (HasRoom sheets c.args.rules.now c.args.selectors.now c.args.ranks.now) c.in-Go.is c.requires.room in
    seen_left kept_seen sheets.items c.leave-gone.new.sheets.items c.in-Go.place leaves.within c.leave-gone.ensures.list
    ∙ sym (ap (λ s. stepped s (map kept_seen sheets.items)) c.in-Go.is)
