use Rattle.std.proofs.Common.{sym, ◌∙◌}
use Rattle.layer_model.proofs.Declared.{known_adds_nothing}
use Rattle.layer_order.proofs.KnownLemmas.{grown, added}
use Rattle.layer_order.proofs.known.+add.Goals as goal

pub returns-then-contains : goal.returns-then-contains
returns-then-contains t c =
    sym (known_adds_nothing _ (grown _ c.requires) c.args.name.now (sym c.contains.ensures ∙ c.if-contains.true))

pub returns : goal.returns
returns t c =
    added c.args.known.now.keys _ _ c.in-Some.outer.now c.args.name.now _ c.in_ok-add.ensures c.in-Some.ensures.some c.in_ok-share.ensures c.in_ok-insert.ensures.keys
