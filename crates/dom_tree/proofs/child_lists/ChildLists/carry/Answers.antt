use Rattle.std.proofs.Common.{◌≢◌, ◌-◌, ◌<◌, List, ℕ, arith, length}
use Rattle.std.proofs.lemmas.List.{length-map}
use Rattle.dom_tree.specs.ChildLists.{list_with, list_without, lists_of}
use Rattle.dom_tree.specs.Kept.{part_of}
use Rattle.dom_tree.proofs.PartLemmas.{both_changed, still_many, still_told}
use Rattle.dom_tree.proofs.child_lists.ChildLists.carry.Goals as goal

-- two numbers, from 1, whose places differ

apart : (a b : ℕ) → 0 < a → 0 < b → a ≢ b → a - 1 ≢ b - 1
apart a b l m e f = e (omega (arith, l, m, f))

pub take_out-requires-clause-high : goal.take_out-requires-clause-high
take_out-requires-clause-high c =
    let flat = c.args.self.now.flat.items in
    let spans = c.args.self.now.spans.items in
    let many = still_many (lists_of flat spans) (lists_of c.put_in.new.self.flat.items c.put_in.new.self.spans.items) (c.args.from - 1) (c.args.to - 1) (list_with c.args.index c.args.item)
    (apart c.args.from c.args.to c.requires.low c.requires.to_low c.if-from-to.false) (omega (arith, c.requires.low, c.requires.high, length-map spans (part_of flat)))
    (omega (arith, c.requires.to_low, c.requires.to_high, length-map spans (part_of flat))) c.put_in.ensures.lists in
    omega (arith, c.requires.high, many, length-map spans (part_of flat), length-map c.put_in.new.self.spans.items (part_of c.put_in.new.self.flat.items))

pub take_out-requires-clause-index : goal.take_out-requires-clause-index
take_out-requires-clause-index c =
    let flat = c.args.self.now.flat.items in
    let spans = c.args.self.now.spans.items in
    still_told (lists_of flat spans) (lists_of c.put_in.new.self.flat.items c.put_in.new.self.spans.items) (c.args.from - 1) (c.args.to - 1) (list_with c.args.index c.args.item)
    (apart c.args.from c.args.to c.requires.low c.requires.to_low c.if-from-to.false) (omega (arith, c.requires.low, c.requires.high, length-map spans (part_of flat)))
    (omega (arith, c.requires.to_low, c.requires.to_high, length-map spans (part_of flat))) c.put_in.ensures.lists (λ (list : List ℕ). c.args.place < length list) c.requires.place

pub returns-clause-other : goal.returns-clause-other
returns-clause-other c = λ e.
    (let flat = c.args.self.now.flat.items in
    let spans = c.args.self.now.spans.items in
    both_changed (lists_of flat spans) (lists_of c.put_in.new.self.flat.items c.put_in.new.self.spans.items) (c.args.from - 1) (c.args.to - 1) (list_with c.args.index c.args.item)
    (apart c.args.from c.args.to c.requires.low c.requires.to_low e) (omega (arith, c.requires.low, c.requires.high, length-map spans (part_of flat)))
    (omega (arith, c.requires.to_low, c.requires.to_high, length-map spans (part_of flat))) c.put_in.ensures.lists
    (lists_of c.take_out.new.self.flat.items c.take_out.new.self.spans.items) (list_without c.args.place) c.take_out.ensures.lists)
