use Rattle.std.proofs.Common.{◌∙◌}
use Rattle.selector_parser.proofs.NameLemmas.{word_test}
use Rattle.selector_parser.proofs.names.is.Goals as goal

pub returns : goal.returns
returns c =
    c.eq_ascii_case.ensures.value ∙ word_test _ _ c.args.word.now c.requires.ascii c.requires.lower c.as_str.ensures.characters
