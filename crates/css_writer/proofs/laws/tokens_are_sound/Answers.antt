use Rattle.syntax_model.proofs.SoundLemmas.{sound_tokens}
use Rattle.css_writer.proofs.laws.tokens_are_sound.Goals as goal

pub returns : goal.returns
returns c = λ text. sound_tokens text
