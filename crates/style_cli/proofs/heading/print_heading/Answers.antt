use Rattle.std.proofs.Common.{arith}
use Rattle.std.specs.Prelude.{encode_utf8_all}
use Rattle.std.specs.List.{flat_map}
use Rattle.style_cli.specs.Printing.{heading_bytes, refused_bytes}
use Rattle.style_cli.proofs.Printed.{front_of_last, heading_is}
use Rattle.style_cli.proofs.heading.print_heading.Goals as goal

pub returns-clause-err : goal.returns-clause-err
returns-clause-err g c =
    let heading = c.args.heading.now in
    let line = c.in_ok-line.line in
    let whole = heading_is c.args.number c.len-refused.result heading line c.deref.result.now (omega (arith, heading.refused.ok.0)) c.deref.ensures.value c.in_ok-line.ensures in
    front_of_last c.print_refused.result _ (g.K.Sink.held c.write_line.new.sink) _ (encode_utf8_all line) (flat_map refused_bytes c.deref.result.now) (heading_bytes c.args.number heading) whole c.in_ok-write_line.ensures.ok c.print_refused.ensures.err
