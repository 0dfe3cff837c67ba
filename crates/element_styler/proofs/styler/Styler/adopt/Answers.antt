use Rattle.std.proofs.Common.{refl}
use Rattle.element_styler.proofs.FollowLemmas.{fits_more}
use Rattle.element_styler.proofs.styler.Styler.adopt.Goals as goal

pub returns-clause-fits : goal.returns-clause-fits
returns-clause-fits c sources size prepared fits =
    fits_more sources size prepared c.args.self.now (record c.args.self.now { table = c.adopt.new.self }) c.adopt.ensures.kept refl fits
