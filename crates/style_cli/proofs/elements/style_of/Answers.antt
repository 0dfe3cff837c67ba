use Rattle.style_cli.proofs.SettledLemmas.{told_style}
use Rattle.style_cli.proofs.elements.style_of.Goals as goal

pub unreachable-requires : goal.unreachable-requires
unreachable-requires c =
    told_style c.args.session.now c.args.number c.style.result c.requires.element c.requires.settled c.style.ensures c.in-Stale.is
