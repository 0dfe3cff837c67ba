use Rattle.std.proofs.Common.{Option, find, option_map, option_and_then, ap, ◌∙◌}
use Rattle.base_model.specs.Text.{Characters, is_word}
use Rattle.value_model.specs.Color.{Color, named_colors}
use Rattle.value_parser.proofs.color.named_color_of.Goals as goal

abbrev color_named : Characters → Option Color
color_named text = option_map (λ row. row.color) (find (λ row. is_word row.name text) named_colors)

pub returns : goal.returns
returns c =
    c.named_color.ensures
    ∙ (ap color_named c.as_str.ensures.characters ∙ ap (option_and_then color_named) c.in_ok-ident_of.ensures)
