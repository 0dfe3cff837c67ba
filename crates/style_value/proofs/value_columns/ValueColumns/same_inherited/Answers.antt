use Rattle.std.proofs.Common.{refl, sym, ◌∙◌}
use Rattle.std.proofs.lemmas.Bool.{true≢false}
use Rattle.style_value.proofs.ColumnLemmas.{length_seen}
use Rattle.style_value.proofs.PartLemmas.{leads_first, leads_last, leads_next, same_there}
use Rattle.style_value.proofs.value_columns.ValueColumns.same_inherited.Goals as goal

pub loop-id-init : goal.loop-id-init
loop-id-init c =
    leads_first _ _ (length_seen _ _ c.self.invariant _ c.self.view_is) (length_seen _ _ c.other.invariant _ c.other.view_is)

pub loop-id-preserved : goal.loop-id-preserved
loop-id-preserved c =
    leads_next _ _ _ _ _ c.inherited-id-items.ensures c.loop-id-test.true (c.is_same_at.ensures.0 c.if-not-is_same_at.false) c.loop-id.invariant

pub returns-then-not-is_same_at : goal.returns-then-not-is_same_at
returns-then-not-is_same_at c = (
  λ h. absurd (true≢false (sym h)),
  λ left.
      let here = same_there _ _ _ _ _ (length_seen _ _ c.self.invariant _ c.self.view_is) (length_seen _ _ c.other.invariant _ c.other.view_is) c.inherited-id-items.ensures c.loop-id-test.true left in
      absurd (true≢false (sym (c.is_same_at.ensures.1 here) ∙ c.if-not-is_same_at.true)),
)

pub returns : goal.returns
returns c = (λ h. leads_last _ _ _ _ c.inherited-id-items.ensures c.loop-id-test.false c.loop-id.invariant, λ left. refl)
