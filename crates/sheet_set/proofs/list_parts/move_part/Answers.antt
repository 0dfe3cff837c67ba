use Rattle.std.proofs.Common.{◌≡◌, ◌-◌, ◌++◌, drop, length, take, ap, sym, ◌∙◌, append_assoc, arith}
use Rattle.sheet_set.proofs.MovedItems.{length-left, left_there, end_in_order}
use Rattle.sheet_set.proofs.list_parts.move_part.Goals as goal

pub returns : goal.returns
returns g c =
    let xs = c.args.list.now.items in
    let from = c.args.from in
    let count = c.args.count in
    let left = c.len.result - count in
    let first = take from xs ++ drop count (drop from xs) in
    let last = take count (drop from xs) in
    let turned = c.turn_to_end.new.list.items in
    let round = c.reverse_end.new.list.items in
    let counted : length xs - count ≡ left = omega (arith, c.len.ensures, c.args.list.now.ok) in
    let long : length first ≡ left = length-left xs from count c.requires.within ∙ counted in
    let is : turned ≡ first ++ last = c.turn_to_end.ensures.items ∙ sym (append_assoc (take from xs) (drop count (drop from xs)) last) in
    record {
      left = c.move_reversed.ensures.left ∙ left_there first last turned round left long is c.reverse_end.ensures.items;
      moved = c.move_reversed.ensures.moved ∙ ap (λ l. c.args.to.now.items ++ l) (end_in_order first last turned round left long is c.reverse_end.ensures.items);
      capacity = c.move_reversed.ensures.capacity ∙ (c.reverse_end.ensures.capacity ∙ c.turn_to_end.ensures.capacity);
    }
