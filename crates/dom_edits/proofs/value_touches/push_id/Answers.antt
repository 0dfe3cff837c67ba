use Rattle.std.proofs.Common.{◌++◌, ◌∷◌, [], map, not, cond, ap, sym, ◌∙◌, append-nil}
use Rattle.std.specs.Str.{chars}
use Rattle.edit_model.specs.Touched.{id}
use Rattle.dom_tree.proofs.LabelLemmas.{empty_test}
use Rattle.dom_edits.specs.TouchView.{touch_seen}
use Rattle.dom_edits.proofs.TouchLemmas.{pushed_touch}
use Rattle.dom_edits.proofs.value_touches.push_id.Goals as goal

pub returns-in_ok-push : goal.returns-in_ok-push
returns-in_ok-push c =
    pushed_touch c.args.touches.now.items _ _ (id (chars c.args.value.now)) c.in_ok-push.ensures.items (ap id c.in_ok-of.ensures)
    ∙ sym (ap (λ b. map touch_seen c.args.touches.now.items ++ map id (cond (not b) (chars c.args.value.now ∷ []) [])) (empty_test _ _ c.utf8.value c.is_empty.ensures ∙ c.if-not-is_empty.true))

pub returns-else-not-is_empty : goal.returns-else-not-is_empty
returns-else-not-is_empty c =
    sym (ap (λ b. map touch_seen c.args.touches.now.items ++ map id (cond (not b) (chars c.args.value.now ∷ []) [])) (empty_test _ _ c.utf8.value c.is_empty.ensures ∙ c.if-not-is_empty.false) ∙ append-nil (map touch_seen c.args.touches.now.items))
