use Rattle.std.proofs.Common.{ap, ◌∙◌}
use Rattle.std.specs.Prelude.{codes}
use Rattle.std.specs.Str.{chars}
use Rattle.base_model.specs.Text.{is_word}
use Rattle.value_parser.proofs.rgb.is_rgb.Goals as goal

pub returns : goal.returns
unfolding chars
returns c = c.eq_ascii_case.ensures.value ∙ ap (is_word (codes "rgb")) c.as_str.ensures.characters
