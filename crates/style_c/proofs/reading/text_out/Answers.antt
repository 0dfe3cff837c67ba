use Rattle.std.proofs.Common.{length, subst, ◌∙◌}
use Rattle.std.specs.Prelude.{Some}
use Rattle.style_c.specs.Told.{IsTextOf}
use Rattle.style_c.proofs.ToldLemmas.{all_told, gives}
use Rattle.style_c.proofs.reading.text_out.Goals as goal

pub returns-in-Ok-Some : goal.returns-in-Ok-Some
returns-in-Ok-Some c =
    let st = c.args.session.now in
    let told = subst (IsTextOf st) c.in-Ok-Some.field-0-is c.in-Ok-Some.ensures in
    let bytes = c.as_bytes.ensures.value ∙ (c.as_str.ensures.bytes ∙ told.1) in
    gives _ _ (Some st) (Some st) _ _ _ _ (all_told st (length c.args.buffer.now) _ told.0 bytes) (c.bytes_out.ensures (Some st))
