use Rattle.std.proofs.Common.{◌≡◌, sym, ◌∙◌}
use Rattle.std.proofs.lemmas.Slice.Eq.{slice_eq-Decides}
use Rattle.element_styler.specs.Cache.{kept_key, lent_key}
use Rattle.element_styler.proofs.CacheLemmas.{same_known}
use Rattle.element_styler.proofs.MatchedRuleLemmas.{rule_eq-Decides}
use Rattle.element_styler.proofs.OverLemmas.{over_eq-Decides}
use Rattle.element_styler.proofs.cache.Entry.is_for.Goals as goal
use Rattle.element_styler.proofs.cache.Entry.is_for.Goals.{then-eq, else-eq}

pub returns-then-eq-2 : goal.returns-then-eq-2
returns-then-eq-2 c is =
    elim c.if-eq.branch [
      | then-eq w ↦ (let over : c.args.self.now.over ≡ c.args.key.now.over = (over_eq-Decides c.args.self.now.over c.args.key.now.over).0 (sym c.eq.ensures ∙ w.if-eq.true) in
          let same : w.as_slice.result.now ≡ c.args.key.now.matched.now = (slice_eq-Decides rule_eq-Decides w.as_slice.result.now c.args.key.now.matched.now w.eq-then-eq.result w.eq-then-eq.ensures).0 (cc) in
          same_known (kept_key c.args.self.now) (lent_key c.args.key.now) over (sym w.as_slice.ensures.value ∙ same) (c.has.ensures is))
      | else-eq w ↦ absurd (cc)
    ]
