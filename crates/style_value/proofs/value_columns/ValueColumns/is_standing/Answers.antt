use Rattle.std.proofs.Common.{FitsSigned, w64, rules}
use Rattle.style_value.proofs.ColumnTests.{amount_test, word_test}
use Rattle.style_value.proofs.value_columns.ValueColumns.is_standing.Goals as goal

pub returns-then-self-row : goal.returns-then-self-row
returns-then-self-row c = λ r value there here.
    let fits : FitsSigned w64 c.thousandths.result = search rules in
    amount_test _ _ c.self.invariant _ _ _ _ r value c.self.view_is c.requires there here c.if-self-row.true c.thousandths.ensures.value fits

pub returns-else-self-row : goal.returns-else-self-row
returns-else-self-row c = λ r value there here.
    word_test _ _ c.self.invariant _ _ r value c.self.view_is c.requires there here c.if-self-row.false
