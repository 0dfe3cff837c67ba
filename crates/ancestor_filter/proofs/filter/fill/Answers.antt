use Rattle.std.proofs.Common.{ap, ◌∙◌, length, replicate, arith}
use Rattle.ancestor_filter.proofs.NameLemmas.{written_whole}
use Rattle.ancestor_filter.proofs.filter.fill.Goals as goal

pub returns : goal.returns
returns c =
    let items = c.args.counters.now.items in
    let slice = c.as_mut_slice.ensures.value in
    let all = c.fill.ensures.after (λ y h. h) ∙ ap (λ l. replicate (length l) c.args.value) slice in
    written_whole c.args.counters.now.len items c.fill.new.self (replicate (length items) c.args.value) all (c.fill.ensures.len ∙ ap length slice) (grind arith)
