use Rattle.std.proofs.Common.{arith, encode_utf8_all, length, true}
use Rattle.dom_tree.specs.declared.node_columns.AttrRow.{AttrRow}
use Rattle.dom_tree.specs.Kept.{AreAttrs, text_of}
use Rattle.dom_tree.proofs.DepthLemmas.{one_deeper}
use Rattle.dom_tree.proofs.Places.{rest_at}
use Rattle.dom_tree.proofs.node_columns.longest_among.Goals as goal
use Rattle.dom_tree.proofs.node_columns.longest_among.Goals.{then-most-bytes, else-most-bytes}

pub loop-row-preserved : goal.loop-row-preserved
loop-row-preserved c =
    let rows = c.args.rows.now in
    let amount = λ (row : AttrRow). length (encode_utf8_all (text_of c.args.names.now row.value)) in
    record {
      are = (rest_at (AreAttrs c.args.names.now) rows c.loop-row-test.true c.row-item.is c.loop-row.invariant.are).2;
      most = λ n. elim c.if-most-bytes.branch [
        | then-most-bytes w ↦ one_deeper amount true rows c.loop-row.row-index c.row-item.result c.loop-row.most c.if-most-bytes.most n c.loop-row-test.true c.row-item.is
            (omega (arith, w.most-is, w.if-most-bytes.true)) (omega (arith, w.most-is, c.text_len-bytes.ensures)) (λ a b. omega (arith, w.most-is, c.text_len-bytes.ensures, b))
            (c.loop-row.invariant.most n)
        | else-most-bytes w ↦ one_deeper amount true rows c.loop-row.row-index c.row-item.result c.loop-row.most c.if-most-bytes.most n c.loop-row-test.true c.row-item.is
            (omega (arith, w.most-is)) (omega (arith, w.most-is, w.if-most-bytes.false, c.text_len-bytes.ensures)) (λ a b. omega (arith, w.most-is, a)) (c.loop-row.invariant.most n)
      ];
    }
