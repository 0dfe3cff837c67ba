use Rattle.std.proofs.Common.{ap, ◌∙◌, take, arith}
use Rattle.std.specs.FinMap as finmap
use Rattle.custom_properties.proofs.AddedLemmas.{of_entry, none_to_add, added_whole, added_back}
use Rattle.custom_properties.proofs.PlainLemmas.{plain_refers_to_none}
use Rattle.custom_properties.proofs.graph.add_references.Goals as goal

pub returns-then-is_plain : goal.returns-then-is_plain
returns-then-is_plain c =
    let all = finmap.entries c.args.declared.now in
    of_entry all c.args.from c.args.edges.now.items c.args.edges.now.items c.args.entry.now c.in-Some.value c.in-Some.is
    (none_to_add all c.args.from c.in-Some.value.now c.args.edges.now.items c.args.edges.now.items (plain_refers_to_none c.in-Some.value.now (c.is_plain.ensures.0 c.if-is_plain.true)))

pub returns-then-not-branch : goal.returns-then-not-branch
returns-then-not-branch c =
    let all = finmap.entries c.args.declared.now in
    of_entry all c.args.from c.args.edges.now.items c.truncate.new.self.items c.args.entry.now c.in-Some.value c.in-Some.is
    (added_back all c.args.from c.in-Some.value.now c.args.edges.now.items c.add_steps.new.edges.items c.in_ok-add_steps.field-0 c.if-not-branch.true c.in_ok-add_steps.ensures c.truncate.new.self.items (c.truncate.ensures.items ∙ ap (λ n. take n c.add_steps.new.edges.items) (omega arith)))

pub returns-else-not-branch : goal.returns-else-not-branch
returns-else-not-branch c =
    let all = finmap.entries c.args.declared.now in
    of_entry all c.args.from c.args.edges.now.items c.add_steps.new.edges.items c.args.entry.now c.in-Some.value c.in-Some.is
    (added_whole all c.args.from c.in-Some.value.now c.args.edges.now.items c.add_steps.new.edges.items c.in_ok-add_steps.field-0 c.if-not-branch.false c.in_ok-add_steps.ensures)
