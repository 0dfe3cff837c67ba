use Rattle.std.proofs.Common.{ap, ◌∙◌}
use Rattle.std.specs.Str.{chars}
use Rattle.sheet_model.specs.Declared.{block_declared, style_declared}
use Rattle.syntax_model.specs.TokensIn.{tokens_in}
use Rattle.sheet_set.proofs.parse_block.parse_style.Goals as goal

pub returns : goal.returns
unfolding style_declared
returns c =
    c.in_ok-kept.ensures
    ∙ ap block_declared (c.as_slice.ensures.value ∙ (c.in_ok-list.ensures ∙ ap tokens_in (ap chars c.as_str.ensures.value ∙ c.in_ok-text.ensures.text)))
