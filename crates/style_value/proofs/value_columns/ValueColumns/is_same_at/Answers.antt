use Rattle.std.proofs.Common.{pos, sym, ◌∙◌}
use Rattle.std.proofs.lemmas.Bool.Decides.{Decides-eqb, Decides-int_eq}
use Rattle.style_value.proofs.ColumnTests.{same_at}
use Rattle.style_value.proofs.value_columns.ValueColumns.is_same_at.Goals as goal

pub returns-then-self-row : goal.returns-then-self-row
returns-then-self-row c =
    let amounts = Decides-int_eq _ _ in
    same_at c.self.invariant c.other.invariant _ _ _ _ c.index-self-row.result c.index-other-row.result c.eq.result c.self.view_is c.other.view_is c.row-row.ensures.row c.row-row.ensures.within (
      λ h. (c.if-self-row.true, amounts.0 (sym c.eq.ensures ∙ h)),
      λ same. c.eq.ensures ∙ amounts.1 same.1,
    )

pub returns-else-self-row : goal.returns-else-self-row
returns-else-self-row c =
    let words = Decides-eqb _ _ in
    same_at c.self.invariant c.other.invariant _ _ _ _ (pos 0) (pos 0) _ c.self.view_is c.other.view_is c.row-row.ensures.row c.row-row.ensures.within (
      λ h. absurd (c.if-self-row.false (words.0 h)),
      λ same. absurd (c.if-self-row.false same.0),
    )
