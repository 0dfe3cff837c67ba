use Rattle.std.proofs.Common.{ap, ◌∙◌, length, reverse, arith}
use Rattle.ancestor_filter.proofs.NameLemmas.{written_whole}
use Rattle.ancestor_filter.proofs.ancestors.turn.Goals as goal

pub returns : goal.returns
returns c =
    let items = c.args.list.now.items in
    let slice = c.as_mut_slice.ensures.value in
    let all = c.reverse.ensures.after ∙ ap reverse slice in
    written_whole c.args.list.now.len items c.reverse.new.self (reverse items) all (c.reverse.ensures.len ∙ ap length slice) (grind arith)
