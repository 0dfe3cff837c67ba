use Rattle.std.proofs.Common.{◌≡◌, rules, sym, ap, ◌∙◌}
use Rattle.std.proofs.lemmas.Str.{encodes-chars}
use Rattle.stylo_base.specs.NameKey.{key_of}
use Rattle.stylo_base.proofs.name_key.key_of_text.Goals as goal

pub returns-clause-characters : goal.returns-clause-characters
unfolding key_of
returns-clause-characters c =
    let by_bytes : c.fold.result ≡ key_of c.args.text.now = search rules in
    by_bytes ∙ ap key_of (sym (encodes-chars c.args.text.now c.utf8.text))
