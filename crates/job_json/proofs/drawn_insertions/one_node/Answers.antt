use Rattle.std.proofs.Common.{rules}
use Rattle.std.specs.Str.{chars}
use Rattle.job_json.proofs.drawn_insertions.one_node.Goals as goal

pub returns : goal.returns
unfolding chars
returns c = search rules
