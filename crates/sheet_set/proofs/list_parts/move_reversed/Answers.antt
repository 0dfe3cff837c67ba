use Rattle.std.proofs.Common.{◌≡◌, refl, ◌++◌, [], ◌∷◌, drop, length, reverse, ap, sym, ◌+◌, ◌∙◌, append-nil, arith, length-append}
use Rattle.std.specs.Option.{option_to_list}
use Rattle.std.proofs.lemmas.List.{drop_all}
use Rattle.sheet_set.proofs.MovedItems.{still_left, one_moved, first_left}
use Rattle.sheet_set.proofs.list_parts.move_reversed.Goals as goal

pub loop-list-init : goal.loop-list-init
loop-list-init g c =
    let items = c.args.list.now.items in
    let none : drop (length items) items ≡ [] = drop_all (length items) items (omega arith) in
    record {
      whole = ap (λ l. items ++ l) none ∙ append-nil items;
      moved = sym (ap (λ l. c.args.to.now.items ++ reverse l) none ∙ append-nil c.args.to.now.items);
      least = c.requires.within;
      capacity = refl;
      room = c.requires.room;
    }

pub loop-list-preserved : goal.loop-list-preserved
loop-list-preserved g c =
    let whole = c.args.list.now.items in
    let old = c.loop-list.list.items in
    let new = c.pop.new.self.items in
    let item = c.unwrap-item.result in
    let before = c.loop-list.invariant in
    let is : old ≡ new ++ item ∷ [] = c.pop.ensures.items ∙ ap (λ o. new ++ option_to_list o) c.unwrap-item.ensures in
    let fewer : length old ≡ length new + 1 = ap length is ∙ length-append new (item ∷ []) in
    record {
      whole = still_left whole old new item is before.whole;
      moved = c.push_reserved.ensures.items ∙ one_moved whole old new c.args.to.now.items c.loop-list.to.items item is before.whole before.moved;
      least = omega (arith, c.loop-list-test.true, c.len.ensures, c.loop-list.list.ok, fewer);
      capacity = c.pop.ensures.capacity ∙ before.capacity;
      room = omega (arith, c.push_reserved.ensures.len, c.push_reserved.ensures.capacity, before.room, fewer, c.loop-list.list.ok, c.pop.new.self.ok);
    }

pub returns : goal.returns
returns g c =
    let whole = c.args.list.now.items in
    let left = c.loop-list.list.items in
    let long : length left ≡ c.args.left = omega (arith, c.loop-list.invariant.least, c.loop-list-test.false, c.len.ensures, c.loop-list.list.ok) in
    record {
      left = first_left whole left c.args.left long c.loop-list.invariant.whole;
      moved = c.loop-list.invariant.moved ∙ ap (λ n. c.args.to.now.items ++ reverse (drop n whole)) long;
      capacity = c.loop-list.invariant.capacity;
    }
