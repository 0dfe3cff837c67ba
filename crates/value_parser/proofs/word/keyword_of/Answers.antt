use Rattle.std.proofs.Common.{ap, ◌∙◌}
use Rattle.value_model.specs.Value.{keyword}
use Rattle.property_table.specs.View.{word_of}
use Rattle.sheet_model.specs.ValueIn.{named_in}
use Rattle.stylo_base.proofs.TextLemmas.{chars-ascii}
use Rattle.value_parser.proofs.WordLemmas.{lower_text}
use Rattle.value_parser.proofs.word.keyword_of.Goals as goal

pub named_of-requires : goal.named_of-requires
named_of-requires c = record {
  lower = lower_text c.args.word c.text.result.now c.text.ensures.word c.text.ensures.ascii;
}

pub returns : goal.returns
returns c =
    c.named_of.ensures
    ∙ ap (λ w. named_in w (keyword (word_of c.args.word)) c.args.tokens.now) (chars-ascii c.text.result.now c.text.ensures.ascii ∙ c.text.ensures.word)
