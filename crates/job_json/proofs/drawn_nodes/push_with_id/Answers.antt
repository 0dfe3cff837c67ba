use Rattle.std.specs.Str.{chars}
use Rattle.job_json.proofs.drawn_nodes.push_with_id.Goals as goal

pub returns : goal.returns
unfolding chars
returns c = c.push.ensures
