use Rattle.std.proofs.Common.{refl, sym, ap, ◌∙◌, nat_eq}
use Rattle.std.specs.Map.{lookup}
use Rattle.sharing_model.specs.Share.{Share, serving}
use Rattle.style_sharing.proofs.ServingLemmas.{brought_style}
use Rattle.style_sharing.proofs.share.Share.find.Goals as goal

pub returns : goal.returns
returns c =
    let y = c.in_ok-twin.twin in
    let share = c.args.self.now in
    let first = serving c.args.doc.now.elements c.args.x share in (
      (refl, (λ _. tt), c.bring.ensures.order),
      record {
        found = c.style_of.ensures
            ∙ (ap (λ (s : Share). lookup (nat_eq y) s.entries) c.bring.ensures.order
            ∙ brought_style c.args.doc.now.elements c.args.x y share first refl (sym c.in_ok-twin.was ∙ c.bring.ensures.twin));
        order = tt;
      },
    )
