use Rattle.std.proofs.Common.{sym, ◌∙◌}
use Rattle.std.proofs.lemmas.Bool.Decides.{Decides-int_eq}
use Rattle.style_value.proofs.ColumnTests.{amounts_Decide, words_Decide}
use Rattle.style_value.proofs.value_columns.ValueColumns.is_same.Goals as goal

pub returns-then-eq : goal.returns-then-eq
returns-then-eq c =
    amounts_Decide Decides-int_eq _ _ _ _ c.self.invariant c.other.invariant _ _ _ c.self.view_is c.other.view_is (sym c.if-eq.true ∙ c.eq.ensures) c.eq-then-eq.ensures

pub returns-else-eq : goal.returns-else-eq
returns-else-eq c =
    words_Decide _ _ _ _ c.self.invariant c.other.invariant _ _ _ c.self.view_is c.other.view_is c.eq.ensures c.if-eq.false
