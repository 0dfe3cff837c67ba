use Rattle.std.proofs.Common.{refl}
use Rattle.std.specs.Str.{chars}
use Rattle.value_model.specs.Color.{named_colors}
use Rattle.value_parser.proofs.named.all_named.Goals as goal

pub returns : goal.returns
unfolding chars named_colors
returns c = refl
