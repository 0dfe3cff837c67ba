use Rattle.std.proofs.Common.{arith, ap, length}
use Rattle.std.proofs.lemmas.List.{length-map}
use Rattle.scene_model.specs.Element.{Element}
use Rattle.dom_tree.proofs.DepthLemmas.{inside, some}
use Rattle.dom_tree.proofs.doc.Doc.below.Goals as goal

pub split_at-requires : goal.split_at-requires
split_at-requires c =
    omega (
      arith,
      c.end_of-end.ensures,
      inside c.in_tree_order.ensures.sound c.args.x c.requires,
      ap length c.in_tree_order.ensures.order,
      length-map c.args.self.now.elements
          (λ (e : Element). e.number),
    )

pub split_at-requires-2 : goal.split_at-requires-2
split_at-requires-2 c =
    omega (arith, c.split_at.ensures.front_len, c.end_of-end.ensures, c.position-start.ensures, some c.in_tree_order.ensures.sound c.args.x c.requires)
