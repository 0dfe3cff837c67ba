use Rattle.std.proofs.Common.{ap, sym, ◌∙◌}
use Rattle.value_model.specs.Shorthand.{longhands_of}
use Rattle.shorthands.specs.View.{short_of}
use Rattle.shorthands.proofs.ShortLemmas.{all_are}
use Rattle.shorthands.proofs.short.Short.longhands.Goals as goal

pub returns-in-All : goal.returns-in-All
returns-in-All c = all_are ∙ ap (λ short. longhands_of (short_of short)) (sym c.in-All.is)
