use Rattle.std.proofs.Common.{rules}
use Rattle.job_json.proofs.TellLaws.{tells_none}
use Rattle.job_json.proofs.node.NodeParts.new.Goals as goal

pub returns : goal.returns
returns c = search (rules, tells_none)
