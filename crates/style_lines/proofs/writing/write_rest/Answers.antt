use Rattle.std.proofs.Common.{rules}
use Rattle.style_lines.proofs.Told.{Appends-take-add}
use Rattle.style_lines.proofs.writing.write_rest.Goals as goal

pub loop-at-preserved : goal.loop-at-preserved
loop-at-preserved g c = record {
  within = search rules;
  later = search rules;
  written = Appends-take-add _ _ _ c.args.piece.now c.split_at.result.1.now c.loop-at.at c.in_ok-at.field-0
      (search rules) c.loop-at.invariant.written c.in_ok-at.ensures.bytes;
}
