use Rattle.std.proofs.Common.{ap, ◌∙◌}
use Rattle.std.specs.Str.{chars}
use Rattle.std.proofs.lemmas.Slice.Eq.{bytes_eq-Decides}
use Rattle.base_model.specs.Text.{ascii_lower, same_text}
use Rattle.stylo_base.proofs.TextLemmas.{chars-ascii}
use Rattle.shorthands.proofs.short.is_word.Goals as goal

pub returns : goal.returns
returns c =
    c.eq_ascii_case.ensures.value
    ∙ ap (same_text (ascii_lower (chars c.args.text.now))) (ap ascii_lower (chars-ascii c.args.word.now c.requires.ascii) ∙ (bytes_eq-Decides _ _).0 c.requires.lower)
