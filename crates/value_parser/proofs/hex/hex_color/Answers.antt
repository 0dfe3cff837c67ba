use Rattle.std.proofs.Common.{◌∙◌, ap}
use Rattle.value_model.specs.HexColor.{hex_color}
use Rattle.value_parser.proofs.HexLemmas.{hex_color-chars}
use Rattle.value_parser.proofs.hex.hex_color.Goals as goal

pub returns : goal.returns
returns c =
    c.color_of_digits.ensures
    ∙ (ap hex_color c.as_bytes.ensures.value ∙ hex_color-chars c.args.text.now c.utf8.text)
