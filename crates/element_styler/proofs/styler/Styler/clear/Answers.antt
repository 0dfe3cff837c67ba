use Rattle.element_styler.proofs.styler.Styler.clear.Goals as goal

pub returns-clause-fits : goal.returns-clause-fits
returns-clause-fits c sources size prepared is =
    record { prepared_is = is; cache = c.clear-2.ensures sources size c.clear.new.self }
