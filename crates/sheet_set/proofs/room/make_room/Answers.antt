use Rattle.std.proofs.Common.{◌≡◌, sym, subst, ap, ◌∙◌, arith}
use Rattle.sheet_set.specs.Room.{HasMore, HasPlaces, IsAtPlace, rules_more}
use Rattle.sheet_set.proofs.RoomLemmas.{room-for}
use Rattle.sheet_set.proofs.RulesAfter.{stepped-within}
use Rattle.sheet_set.proofs.room.make_room.Goals as goal

pub returns-clause-room : goal.returns-clause-room
returns-clause-room c =
    let sheets = c.reserve.new.self in
    let step = c.args.step.now in
    let more = c.rules_more-more.result in
    let is : more ≡ rules_more sheets.items step =
    c.rules_more-more.ensures ∙ ap (λ l. rules_more l step) (c.deref.ensures.value ∙ sym c.reserve.ensures.items) in
    let has : HasMore c.reserve-2.new.self c.reserve-3.new.self c.reserve-4.new.self more = record {
      rules_room = omega (arith, c.in_ok-reserve-2.ensures.ok);
      lists_room = omega (arith, c.in_ok-reserve-3.ensures.ok, c.in_ok-reserve-3.ensures.len, c.in_ok-reserve-2.ensures.len, c.requires.paired);
      ranks_room = omega (arith, c.in_ok-reserve-4.ensures.ok, c.in_ok-reserve-4.ensures.len, c.in_ok-reserve-2.ensures.len, c.requires.ranked);
    } in
    room-for sheets c.reserve-2.new.self c.reserve-3.new.self c.reserve-4.new.self step more (subst (λ l. IsAtPlace l step) (sym c.reserve.ensures.items) c.requires.at)
    (omega (arith, c.in_ok-reserve.ensures.ok)) has is

pub returns-clause-places : goal.returns-clause-places
returns-clause-places c =
    let sheets = c.reserve.new.self.items in
    let step = c.args.step.now in
    let is : c.rules_more-more.result ≡ rules_more c.args.sheets.now.items step = c.rules_more-more.ensures ∙ ap (λ l. rules_more l step) c.deref.ensures.value in
    let within = stepped-within c.args.sheets.now.items step c.requires.at in
    subst (λ l. HasPlaces l c.reserve-5.new.self step) (sym c.reserve.ensures.items)
    (omega (arith, within, is, c.in_ok-reserve-5.ensures.ok, c.in_ok-reserve-5.ensures.len, c.requires.placed, c.requires.taking))
