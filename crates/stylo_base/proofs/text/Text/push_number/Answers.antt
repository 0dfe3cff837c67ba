use Rattle.std.proofs.Common.{◌∙◌}
use Rattle.std.proofs.lemmas.Str.{chars-IsAscii}
use Rattle.stylo_base.proofs.text.Text.push_number.Goals as goal

pub returns-clause-ok : goal.returns-clause-ok
returns-clause-ok c =
    let e = chars-IsAscii c.format.result.now c.format.ensures.ascii ∙ c.format.ensures.text in
    rw e at c.push_str.ensures.ok
