use Rattle.std.proofs.Common.{length, ap, refl, sym, ◌∙◌, encode_utf8_all}
use Rattle.std.specs.Str.{chars}
use Rattle.stylo_base.proofs.TextLemmas.{bytes_from_chars}
use Rattle.dom_tree.proofs.NameLemmas.{text_is}
use Rattle.dom_tree.proofs.node_columns.text_len.Goals as goal

pub returns : goal.returns
returns c =
    ap length (bytes_from_chars c.text.result.now (chars c.text.result.now) c.text.utf8 refl)
    ∙ ap (λ text. length (encode_utf8_all text)) (sym (text_is c.args.names.now c.args.name _ c.text.ensures))
