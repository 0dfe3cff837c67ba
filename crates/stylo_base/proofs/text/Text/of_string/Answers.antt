use Rattle.std.proofs.lemmas.Grind.{merely}
use Rattle.std.proofs.lemmas.Str.{IsUtf8-string_bytes}
use Rattle.stylo_base.proofs.text.Text.of_string.Goals as goal

pub invariant_of-result : goal.invariant_of-result
invariant_of-result c = merely (IsUtf8-string_bytes c.args.text)
