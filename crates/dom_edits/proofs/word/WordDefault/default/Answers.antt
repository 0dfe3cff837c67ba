use Rattle.std.proofs.Common.{ap}
use Rattle.std.specs.Str.{chars}
use Rattle.dom_edits.proofs.word.WordDefault.default.Goals as goal

pub returns : goal.returns
unfolding chars
returns c = ap (λ text. chars text.now) c.of.ensures
