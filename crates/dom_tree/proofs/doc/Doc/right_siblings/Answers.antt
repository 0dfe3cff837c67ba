use Rattle.std.proofs.Common.{ap, sym, ◌∙◌, length, arith}
use Rattle.scene_model.proofs.Siblings.{place_of-inside}
use Rattle.dom_tree.proofs.SiblingLemmas.{after_place}
use Rattle.dom_tree.proofs.doc.Doc.right_siblings.Goals as goal

pub split_at-requires : goal.split_at-requires
split_at-requires c =
    let inside = place_of-inside c.args.self.now.elements c.place.ensures.valid c.args.x c.in-Some.parent c.requires (sym c.parent.ensures.parent ∙ c.in-Some.is) in
    omega (arith, inside, ap length c.children.ensures.children, c.place.ensures.place)

pub returns-in-Some-clause-siblings : goal.returns-in-Some-clause-siblings
returns-in-Some-clause-siblings c =
    c.split_at.ensures.back ∙ after_place c.args.x c.place.ensures.valid c.requires (sym c.parent.ensures.parent ∙ c.in-Some.is) c.place.ensures.place c.children.ensures.children
