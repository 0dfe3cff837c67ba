use Rattle.std.proofs.Common.{option_map, true, false, ap, sym, ◌∙◌}
use Rattle.std.specs.Str.{chars}
use Rattle.value_model.specs.Color.{NamedColor, named_colors}
use Rattle.value_parser.specs.View.{named_seen}
use Rattle.value_parser.proofs.TableLemmas.{color_name, colors_lower, named_row, named_end}
use Rattle.value_parser.proofs.named.named_color.Goals as goal

pub loop-row-preserved : goal.loop-row-preserved
loop-row-preserved c =
    c.loop-row.invariant
    ∙ named_row named_seen color_name named_colors colors_lower _ (chars c.args.text.now) c.loop-row.row-index _ false c.all_named-row-items.ensures c.loop-row-test.true c.if-eq_ascii_case.ensures.value

pub returns-then-eq_ascii_case : goal.returns-then-eq_ascii_case
returns-then-eq_ascii_case c =
    sym (ap (option_map (λ (row : NamedColor). row.color)) (c.loop-row.invariant
    ∙ named_row named_seen color_name named_colors colors_lower _ (chars c.args.text.now) c.loop-row.row-index _ true c.all_named-row-items.ensures c.loop-row-test.true c.if-eq_ascii_case.ensures.value))

pub returns : goal.returns
returns c =
    sym (ap (option_map (λ (row : NamedColor). row.color)) (c.loop-row.invariant
    ∙ named_end named_seen color_name named_colors colors_lower _ (chars c.args.text.now) c.loop-row.row-index c.all_named-row-items.ensures c.loop-row-test.false))
