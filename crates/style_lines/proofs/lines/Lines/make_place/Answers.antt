use Rattle.std.proofs.Common.{◌++◌, ◌-◌, ◌+◌, ap, ◌∙◌, map, replicate, vec_len, arith}
use Rattle.std.proofs.lemmas.List.{take_all}
use Rattle.style_lines.specs.KeptLines.{kept_line, line_in}
use Rattle.style_lines.proofs.KeptLemmas.{more_places}
use Rattle.style_lines.proofs.lines.Lines.make_place.Goals as goal

pub returns-in_ok-resize-clause-same : goal.returns-in_ok-resize-clause-same
returns-in_ok-resize-clause-same c = λ x.
    let bytes = c.self.inside.bytes.items in
    let places = c.self.inside.places.items in
    let more = c.args.number + 1 - vec_len c.self.inside.places in
    let front = take_all (c.args.number + 1) places (omega (arith, c.self.inside.places.ok.0)) in
    ap (λ l. kept_line (map (line_in bytes) l) x) (c.in_ok-resize.ensures.items ∙ ap (λ l. l ++ replicate more (record { start = 0; len = 0 })) front)
    ∙ (more_places bytes places more x ∙ ap (λ l. kept_line l x) c.self.view_is)
