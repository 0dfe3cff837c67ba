use Rattle.std.proofs.Common.{◌≡◌}
use Rattle.std.specs.Str.{chars}
use Rattle.value_model.specs.Color.{named_colors}
use Rattle.value_parser.proofs.TableLemmas.{color_name, named_from}
use Rattle.value_parser.proofs.named.named_color.Given as goal

abbrev pub invariant-loop-row : goal.invariant-loop-row
invariant-loop-row l =
    named_from color_name named_colors (chars l.text) 0 ≡ named_from color_name named_colors (chars l.text) l.row-index
