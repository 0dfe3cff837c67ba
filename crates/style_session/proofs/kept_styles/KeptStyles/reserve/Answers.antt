use Rattle.std.proofs.Common.{OnOk, option_map, refl, sym, ap, subst, ◌∙◌, arith}
use Rattle.std.specs.Arc.{arc_value}
use Rattle.std.proofs.lemmas.List.{length-map}
use Rattle.std.proofs.lemmas.Result.{on_err_weaker, on_ok_weaker}
use Rattle.style_session.specs.KeptView.{HasPlaces, KeptView}
use Rattle.style_session.proofs.SessionParts.{kept_of, slot-seen}
use Rattle.style_session.proofs.kept_styles.KeptStyles.reserve.Goals as goal

pub returns-clause-ok : goal.returns-clause-ok
returns-clause-ok c =
    let self = c.self.inside in
    let slots = c.make_slots.new.slots.items in
    let recent = self.recent.items in
    subst (λ (k : KeptView). OnOk c.make_slots.result (HasPlaces c.args.places k (kept_of slots recent))) c.self.view_is
    (on_ok_weaker c.make_slots.result
    (λ has. record {
      enough = omega (arith, has.enough, length-map slots (option_map arc_value));
      styles = λ x. slot-seen slots recent x ∙ (has.styles x ∙ sym (slot-seen self.by_number.items recent x));
      recent = refl;
    })
    c.make_slots.ensures.ok)

pub returns-clause-kept : goal.returns-clause-kept
returns-clause-kept c =
    let recent = c.self.inside.recent.items in
    on_err_weaker c.make_slots.result (λ same. ap (λ slots. kept_of slots recent) same ∙ c.self.view_is) c.make_slots.ensures.kept
