use Rattle.std.proofs.Common.{◌+◌, ◌-◌, ◌<◌, ◌≤◌, List, ℕ, length, arith}
use Rattle.dom_tree.specs.declared.span.Span.{Span}
use Rattle.dom_tree.specs.ChildLists.{list_with}
use Rattle.dom_tree.specs.Kept.{part_of}
use Rattle.dom_tree.proofs.PartLemmas.{became, inside, lists_anew, parts_anew, length-with, part_long, span_at, told_at, with_item}
use Rattle.dom_tree.proofs.child_lists.ChildLists.put_in.Goals as goal

-- the parts that are appended, for which there is room
pub append_part-requires-clause-order : goal.append_part-requires-clause-order
append_part-requires-clause-order c = omega arith

pub append_part-requires-clause-within : goal.append_part-requires-clause-within
append_part-requires-clause-within c =
    let flat = c.args.self.now.flat.items in
    let spans = c.args.self.now.spans.items in
    let at = span_at spans (c.args.number - 1) (omega (arith, c.requires.low, c.requires.high)) c.index.ensures in
    let l = told_at flat spans (c.args.number - 1) (λ (list : List ℕ). c.args.index ≤ length list) at c.requires.index in
    let long = part_long c.requires.parts (c.args.number - 1) at in
    let within = inside c.requires.parts (c.args.number - 1) at in
    let room = told_at flat spans (c.args.number - 1) (λ (list : List ℕ). c.args.self.now.flat.len + length list + 1 ≤ c.args.self.now.flat.cap) at c.requires.room in
    omega (arith, l, long, within)

pub append_part-requires-clause-room : goal.append_part-requires-clause-room
append_part-requires-clause-room c =
    let flat = c.args.self.now.flat.items in
    let spans = c.args.self.now.spans.items in
    let at = span_at spans (c.args.number - 1) (omega (arith, c.requires.low, c.requires.high)) c.index.ensures in
    let l = told_at flat spans (c.args.number - 1) (λ (list : List ℕ). c.args.index ≤ length list) at c.requires.index in
    let long = part_long c.requires.parts (c.args.number - 1) at in
    let within = inside c.requires.parts (c.args.number - 1) at in
    let room = told_at flat spans (c.args.number - 1) (λ (list : List ℕ). c.args.self.now.flat.len + length list + 1 ≤ c.args.self.now.flat.cap) at c.requires.room in
    omega (arith, l, room)

pub append_part-requires-2-clause-order : goal.append_part-requires-2-clause-order
append_part-requires-2-clause-order c =
    let flat = c.args.self.now.flat.items in
    let spans = c.args.self.now.spans.items in
    let at = span_at spans (c.args.number - 1) (omega (arith, c.requires.low, c.requires.high)) c.index.ensures in
    let l = told_at flat spans (c.args.number - 1) (λ (list : List ℕ). c.args.index ≤ length list) at c.requires.index in
    let long = part_long c.requires.parts (c.args.number - 1) at in
    let within = inside c.requires.parts (c.args.number - 1) at in
    let room = told_at flat spans (c.args.number - 1) (λ (list : List ℕ). c.args.self.now.flat.len + length list + 1 ≤ c.args.self.now.flat.cap) at c.requires.room in
    omega (arith, l, long)

pub returns-clause-parts : goal.returns-clause-parts
returns-clause-parts c =
    let flat = c.args.self.now.flat.items in
    let spans = c.args.self.now.spans.items in
    let within : c.args.number - 1 < length spans = omega (arith, c.requires.low, c.requires.high) in
    let s : Span = c.index.result.now in
    let at = span_at spans (c.args.number - 1) within c.index.ensures in
    let l = told_at c.args.self.now.flat.items spans (c.args.number - 1) (λ (list : List ℕ). c.args.index ≤ length list) at c.requires.index in
    let long = part_long c.requires.parts (c.args.number - 1) at in
    let made : Span = record { first = c.len.result; count = s.count + 1 } in
    parts_anew c.requires.parts (c.args.number - 1) within (list_with c.args.index c.args.item (part_of flat s))
    (with_item c.requires.parts (c.args.number - 1) at c.args.index c.args.item l c.append_part.ensures.items c.push_reserved.ensures.items c.append_part-2.ensures.items)
    made (omega (arith, c.len.ensures, c.args.self.now.flat.ok.0)) (omega (arith, long, length-with c.args.index c.args.item (part_of flat s) l))

pub returns-clause-lists : goal.returns-clause-lists
returns-clause-lists c =
    let flat = c.args.self.now.flat.items in
    let spans = c.args.self.now.spans.items in
    let within : c.args.number - 1 < length spans = omega (arith, c.requires.low, c.requires.high) in
    let s : Span = c.index.result.now in
    let at = span_at spans (c.args.number - 1) within c.index.ensures in
    let l = told_at c.args.self.now.flat.items spans (c.args.number - 1) (λ (list : List ℕ). c.args.index ≤ length list) at c.requires.index in
    let long = part_long c.requires.parts (c.args.number - 1) at in
    let made : Span = record { first = c.len.result; count = s.count + 1 } in
    became flat spans (c.args.number - 1) (list_with c.args.index c.args.item) at
    (lists_anew c.requires.parts (c.args.number - 1) within (list_with c.args.index c.args.item (part_of flat s))
    (with_item c.requires.parts (c.args.number - 1) at c.args.index c.args.item l c.append_part.ensures.items c.push_reserved.ensures.items c.append_part-2.ensures.items)
    made (omega (arith, c.len.ensures, c.args.self.now.flat.ok.0)) (omega (arith, long, length-with c.args.index c.args.item (part_of flat s) l)))
