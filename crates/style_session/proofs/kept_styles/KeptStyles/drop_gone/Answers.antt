use Rattle.std.proofs.Common.{cond, None, refl, sym, ap, subst, ◌∙◌}
use Rattle.style_session.specs.KeptView.{DropsGone, KeptView, is_gone}
use Rattle.style_session.proofs.SessionParts.{kept_of, slot-seen}
use Rattle.style_session.proofs.kept_styles.KeptStyles.drop_gone.Goals as goal

pub returns : goal.returns
returns c =
    let self = c.self.inside in
    let doc = c.args.doc.now.elements in
    let gone = c.args.gone.now in
    let left = c.drop_all.new.slots.items in
    let recent = self.recent.items in
    subst (λ (k : KeptView). DropsGone doc gone k (kept_of left recent)) c.self.view_is
    (record {
      styles = λ x. slot-seen left recent x ∙ (c.drop_all.ensures x ∙ ap (cond (is_gone doc gone x) None) (sym (slot-seen self.by_number.items recent x)));
      recent = refl;
    })
