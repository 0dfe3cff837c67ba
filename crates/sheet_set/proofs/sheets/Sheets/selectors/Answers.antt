use Rattle.std.proofs.Common.{sym, subst}
use Rattle.sheet_set.specs.Positions.{AreRulesOf}
use Rattle.sheet_set.proofs.Positioned.{rules-of}
use Rattle.sheet_set.proofs.sheets.Sheets.selectors.Goals as goal

pub returns-clause-of_sheets : goal.returns-clause-of_sheets
returns-clause-of_sheets c =
    let self = c.args.self.now in
    subst (AreRulesOf self.sheets.items self.rules.items) (sym c.deref.ensures.value)
    (rules-of self.positions.items self.sheets.items self.rules.items self.selectors.items self.positioned self.of_texts)
