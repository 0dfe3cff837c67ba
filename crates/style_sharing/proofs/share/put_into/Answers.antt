use Rattle.std.proofs.Common.{ap, sym, ◌∙◌}
use Rattle.std.specs.Arc.{arc_value}
use Rattle.style_sharing.proofs.SeenLemmas.{within_seen}
use Rattle.style_sharing.proofs.share.put_into.Goals as goal

pub returns-in-Ok-clause-entries : goal.returns-in-Ok-clause-entries
returns-in-Ok-clause-entries c =
    let (once, within, above) = c.len.ensures.valid in
    rw (c.in-Ok.ensures.entries) (within_seen arc_value c.args.cache.now.entries c.args.cache.now.cap c.args.x c.args.style above)
