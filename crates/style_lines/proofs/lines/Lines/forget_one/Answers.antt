use Rattle.std.proofs.Common.{ap, ◌∙◌, None, slice_set}
use Rattle.std.proofs.lemmas.List.{map-set}
use Rattle.style_lines.specs.KeptLines.{line_in}
use Rattle.style_lines.proofs.lines.Lines.forget_one.Goals as goal

pub returns-then-at-len : goal.returns-then-at-len
returns-then-at-len c =
    map-set (line_in c.self.inside.bytes.items) c.self.inside.places.items c.args.number (record { start = 0; len = 0 })
    ∙ ap (λ l. slice_set l c.args.number None) c.self.view_is
