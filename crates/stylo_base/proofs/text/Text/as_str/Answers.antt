use Rattle.std.proofs.Common.{◌∙◌}
use Rattle.std.proofs.lemmas.Str.{IsUtf8-had}
use Rattle.stylo_base.proofs.TextLemmas.{bytes_from_chars}
use Rattle.stylo_base.proofs.text.Text.as_str.Goals as goal

pub returns-clause-bytes : goal.returns-clause-bytes
returns-clause-bytes c =
    c.as_str.ensures ∙ bytes_from_chars _ _ (IsUtf8-had _ c.self.invariant) c.self.view_is
