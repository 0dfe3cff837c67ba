use Rattle.css_tokens.proofs.TokenizerLemmas.{first_part}
use Rattle.css_tokens.proofs.pieces.scan.Goals as goal

pub returns-clause-some : goal.returns-clause-some
returns-clause-some c = rw c.scan_first.ensures.len (first_part c.args.text.now c.requires).0

pub returns-clause-inside : goal.returns-clause-inside
returns-clause-inside c = rw c.scan_first.ensures.len (first_part c.args.text.now c.requires).1
