use Rattle.syntax_model.proofs.UrlStrings.{urls_go_on_in}
use Rattle.css_writer.proofs.laws.strings_follow_urls.Goals as goal

pub returns : goal.returns
returns c = λ text good. urls_go_on_in text good
