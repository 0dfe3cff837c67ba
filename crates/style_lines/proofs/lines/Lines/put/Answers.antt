use Rattle.std.proofs.Common.{◌≡◌, ◌<◌, ℕ, IfSome, length, sym, ap, ◌∙◌, map, subst, set, arith}
use Rattle.std.proofs.lemmas.List.{length-map}
use Rattle.style_lines.specs.declared.lines.Place.{Place}
use Rattle.style_lines.specs.KeptLines.{kept_line, line_in}
use Rattle.style_lines.proofs.KeptLemmas.{put_own, put_others}
use Rattle.style_lines.proofs.lines.Lines.put.Goals as goal

pub returns-clause-own : goal.returns-clause-own
returns-clause-own c =
    let bytes = c.self.inside.bytes.items in
    let places = c.self.inside.places.items in
    let line = c.args.line.now in
    let below : c.args.number < length places = omega (arith, c.requires.place, ap {B = ℕ} length c.self.view_is, length-map places (line_in bytes)) in
    subst (λ b. IfSome (kept_line (map (line_in b) (set places c.args.number (record { start = c.in-Ok.start; len = length line }))) c.args.number) (λ kept. kept ≡ line))
    (sym c.in_ok-extend_from_slice.ensures.items)
    (put_own bytes line places c.args.number c.in-Ok.start (length line) below (omega (arith, c.self.inside.bytes.ok.0)) (omega arith))

pub returns-clause-others : goal.returns-clause-others
returns-clause-others c = λ x other.
    let bytes = c.self.inside.bytes.items in
    let places = c.self.inside.places.items in
    let placed : Place = record { start = c.in-Ok.start; len = length c.args.line.now } in
    ap (λ b. kept_line (map (line_in b) (set places c.args.number placed)) x) c.in_ok-extend_from_slice.ensures.items
    ∙ (put_others bytes c.args.line.now places c.args.number placed c.self.invariant x other ∙ ap (λ l. kept_line l x) c.self.view_is)
