use Rattle.std.proofs.Common.{inl, inr, sym, ◌∙◌, to_z, of_z, w64}
use Rattle.std.proofs.lemmas.Int.{to_z-of_z}
use Rattle.selector_match.proofs.NthLemmas.{IsAhead, whole_test}
use Rattle.selector_match.proofs.index.is_whole.Goals as goal
use Rattle.selector_match.proofs.index.is_whole.Goals.{then-step-lt0, else-step-lt0}

pub returns-then-ahead : goal.returns-then-ahead
returns-then-ahead c =
    let ahead : IsAhead (to_z w64 (of_z w64 c.args.step)) (to_z w64 (of_z w64 c.args.gap)) = elim c.if-step-lt0.branch [
      | then-step-lt0 w ↦ inl (w.if-step-lt0.true, sym w.ahead-is ∙ c.if-ahead.true)
      | else-step-lt0 w ↦ inr (w.if-step-lt0.false, sym w.ahead-is ∙ c.if-ahead.true)
    ] in
    whole_test c.args.step c.args.gap _ _ _ _ _ (to_z-of_z w64 c.args.step c.ranges.step) (to_z-of_z w64 c.args.gap c.ranges.gap) ahead c.unsigned_abs.ensures.value c.unsigned_abs-then-ahead.ensures.value c.is_multiple_of.ensures
