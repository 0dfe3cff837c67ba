use Rattle.std.proofs.lemmas.Str.{IsUtf8-string_bytes}
use Rattle.css_tokens.proofs.CharacterLemmas.{chars-push}
use Rattle.css_tokens.proofs.characters.push_character.Goals as goal

pub returns : goal.returns
returns c = chars-push _ _ _ c.ranges.c.0 (IsUtf8-string_bytes c.args.text.now) c.in_ok-push.ensures.bytes
