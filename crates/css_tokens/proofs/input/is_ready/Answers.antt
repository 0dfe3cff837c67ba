use Rattle.std.proofs.Common.{◌∙◌, ap}
use Rattle.syntax_model.specs.Preprocess.{is_preprocessed}
use Rattle.css_tokens.proofs.InputLemmas.{by_bytes}
use Rattle.css_tokens.proofs.input.is_ready.Goals as goal

pub returns : goal.returns
returns c = c.are_clean.ensures ∙ (ap is_preprocessed c.as_bytes.ensures.value ∙ by_bytes c.args.text.now c.utf8.text)
