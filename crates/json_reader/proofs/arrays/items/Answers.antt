use Rattle.std.proofs.Common.{◌≡◌, [], ◌∷◌, ◌++◌, length, None, sym, ap, ◌∙◌, arith}
use Rattle.json.specs.Json.{after_end_array}
use Rattle.json_reader.specs.Taken.{taken}
use Rattle.json_reader.proofs.Turns.{items_more, items_stop, items_end}
use Rattle.json_reader.proofs.arrays.items.Goals as goal

pub items-preserved : goal.items-preserved
items-preserved g c =
    let l = c.items in
    let ds = l.invariant.0 in
    let going : (after_end_array l.reader ≡ None) × (c.take_end_array.new.self ≡ l.reader) = grind arith in
    let done = c.in_ok-item.ensures in
    let more = items_more c.args.depth _ _ l.reader ds l.invariant.1 done.ok.0 c.item.new.reader going.0 (ap (taken c.args.depth) (sym going.1) ∙ done.ok.1) (omega (arith, ap length going.1, done.shorter)) in
    (ds ++ done.ok.0 ∷ [], more, done.ok.2 ds l.invariant.2)

pub returns-in_err-item-clause-err : goal.returns-in_err-item-clause-err
returns-in_err-item-clause-err g c refused =
    let l = c.items in
    let going : (after_end_array l.reader ≡ None) × (c.take_end_array.new.self ≡ l.reader) = grind arith in
    items_stop c.args.depth _ _ l.reader l.invariant.0 l.invariant.1 going.0 (ap (taken c.args.depth) (sym going.1) ∙ c.item.ensures.err (grind arith))

pub returns-clause-ok : goal.returns-clause-ok
returns-clause-ok g c =
    let l = c.items in
    (l.invariant.0, items_end c.args.depth _ _ l.reader l.invariant.0 l.invariant.1 c.take_end_array.new.self (grind arith), l.invariant.2)
