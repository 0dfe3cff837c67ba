use Rattle.std.proofs.Common.{◌≡◌, ℕ, nat_le, length, take, drop, encode_utf8_all}
use Rattle.std.specs.List.{list_all}
use Rattle.dom_tree.specs.Kept.{AreAttrs, text_of}
use Rattle.dom_tree.proofs.node_columns.longest_among.Given as goal

abbrev pub invariant-loop-row : goal.invariant-loop-row
invariant-loop-row l = record {
  are : AreAttrs l.names (drop l.row-index l.rows);
  most : (n : ℕ) → nat_le l.most n ≡ list_all (λ row. nat_le (length (encode_utf8_all (text_of l.names row.value))) n) (take l.row-index l.rows);
}
