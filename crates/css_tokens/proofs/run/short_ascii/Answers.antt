use Rattle.std.proofs.Common.{◌<◌, length, length-set, arith, sym, ◌∙◌}
use Rattle.css_tokens.proofs.CharacterLemmas.{ascii_more, copied_more}
use Rattle.css_tokens.proofs.run.short_ascii.Goals as goal

pub loop-at-preserved : goal.loop-at-preserved
loop-at-preserved c =
    let i = c.loop-at in
    let room : i.at < length i.bytes = omega (arith, i.invariant.long, c.if-text-gt-SHORT_LEN.false, c.loop-at-test.true) in
    record {
      long = length-set i.bytes i.at c.index-text-at-in-loop-at.result ∙ i.invariant.long;
      bytes = copied_more c.args.text.now i.bytes i.at _ c.loop-at-test.true room c.index-text-at-in-loop-at.is i.invariant.bytes;
      ascii = ascii_more c.args.text.now i.at _ c.loop-at-test.true c.index-text-at.is (sym c.is_ascii.ensures ∙ c.if-not-is_ascii.false) i.invariant.ascii;
    }
