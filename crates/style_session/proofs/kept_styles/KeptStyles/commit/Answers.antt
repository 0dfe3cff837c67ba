use Rattle.std.proofs.Common.{◌≡◌, List, [], ◌∷◌, map, refl, sym, ap, subst, ◌∙◌}
use Rattle.std.specs.Option.{option_or}
use Rattle.session_model.specs.Walk.{result_at}
use Rattle.session_model.specs.Walk as walk
use Rattle.style_session.specs.Answers.{styled_seen}
use Rattle.style_session.specs.KeptView.{Commits, KeptView}
use Rattle.style_session.specs.declared.styled.Styled.{Styled}
use Rattle.style_session.proofs.SessionParts.{kept_of, slot-seen}
use Rattle.style_session.proofs.kept_styles.KeptStyles.commit.Goals as goal

numbers_seen : (list : List Styled) → map (λ (one : walk.Styled). one.number) (map styled_seen list) ≡ map (λ (one : Styled). one.number) list
numbers_seen [] = refl
numbers_seen (one ∷ list) = ap (λ l. one.number ∷ l) (numbers_seen list)

pub returns : goal.returns
returns c =
    let self = c.self.inside in
    let styled = c.args.news.styled.items in
    let put = c.keep_all.new.slots.items in
    let numbers = c.args.news.numbers.items in
    subst (λ (k : KeptView). Commits (map styled_seen styled) k (kept_of put numbers)) c.self.view_is
    (record {
      styles = λ x. slot-seen put numbers x
          ∙ (c.keep_all.ensures x ∙ ap (option_or (result_at (map styled_seen styled) x)) (sym (slot-seen self.by_number.items self.recent.items x)));
      recent = c.args.news.numbered ∙ sym (numbers_seen styled);
    })
