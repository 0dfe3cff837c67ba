use Rattle.css_tokens.proofs.HexLemmas.{own_prefix}
use Rattle.css_tokens.proofs.escape.hex_len.Goals as goal

pub returns-clause-all : goal.returns-clause-all
returns-clause-all c = rw (c.digits_of.ensures.value, c.split_at.ensures.front) (own_prefix c.min.result c.args.text.now)
