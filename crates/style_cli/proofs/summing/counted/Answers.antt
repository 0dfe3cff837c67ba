use Rattle.std.proofs.Common.{◌≡◌, ℕ, length, refl, ap, ◌∙◌, arith}
use Rattle.std.proofs.lemmas.List.{length-map}
use Rattle.scene_model.specs.Document.{Document}
use Rattle.scene_model.specs.Element.{Element}
use Rattle.scene_model.specs.Lookups.{numbers}
use Rattle.scene_model.specs.Scene.{elements_of}
use Rattle.style_cli.proofs.SumLemmas.{same_sums}
use Rattle.style_cli.proofs.summing.counted.Goals as goal

pub returns-clause-sums : goal.returns-clause-sums
returns-clause-sums c =
    let elements = elements_of c.args.session.now.scene in
    let heading = c.args.heading.now in
    let order = c.in_tree_order.result.now in
    let is = c.in_tree_order.ensures.order ∙ ap (λ (d : Document). numbers d.elements) c.doc.ensures in
    let listed : length order ≡ length elements = ap {B = ℕ} length is ∙ length-map elements (λ (e : Element). e.number) in
    let refused : c.len-refused.result ≡ length heading.refused.items = omega (arith, c.len-refused.ensures, heading.refused.ok.0) in
    same_sums _ _ refl refused refl refl (omega (arith, refused, listed)) (omega (arith, c.in_ok-bytes.ensures, c.in_ok-told.ensures, c.in_ok-elements_len.ensures.len))
