use Rattle.std.proofs.Common.{nat_le, length, encode_utf8_all}
use Rattle.dom_tree.proofs.ColumnLemmas.{row_at}
use Rattle.dom_tree.proofs.EditLemmas.{values_seen}
use Rattle.dom_tree.proofs.node_columns.NodeColumns.longest_value.Goals as goal

pub returns : goal.returns
returns c = λ n.
    values_seen (row_at c.self.invariant c.self.view_is c.requires.index c.index.ensures) c.requires.once (nat_le c.longest_among.result n) (λ text. nat_le (length (encode_utf8_all text)) n)
    c.deref.ensures.value c.of.ensures (c.longest_among.ensures n)
