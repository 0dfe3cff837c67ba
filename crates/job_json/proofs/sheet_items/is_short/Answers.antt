use Rattle.std.proofs.Common.{ap, nat_le, length}
use Rattle.std.specs.Str.{chars}
use Rattle.base_model.specs.Limits.{text_limit}
use Rattle.stylo_base.proofs.TextLemmas.{bytes_from_chars}
use Rattle.std.proofs.Common.{refl}
use Rattle.job_json.proofs.sheet_items.is_short.Goals as goal

pub returns : goal.returns
returns c = ap (λ bytes. nat_le (length bytes) text_limit) (bytes_from_chars c.args.text.now (chars c.args.text.now) c.utf8.text refl)
