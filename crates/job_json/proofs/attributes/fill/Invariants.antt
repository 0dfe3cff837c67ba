use Rattle.std.proofs.Common.{◌≡◌, drop, map}
use Rattle.std.specs.Option.{option_or}
use Rattle.dom_tree.specs.View.{pair_of}
use Rattle.job_json.specs.Slots.{slot_pair, said_by, passed_by}
use Rattle.job_json.proofs.FillLaws.{with_front}
use Rattle.job_json.proofs.attributes.fill.Given as goal

abbrev pub invariant-loop-slot : goal.invariant-loop-slot
invariant-loop-slot l = record {
  said : said_by (map slot_pair l.slots) ≡ with_front (map pair_of l.list.items) (said_by (map slot_pair (drop l.slot-index l.slots)));
  passed : passed_by (map slot_pair l.slots) ≡ option_or l.passed (passed_by (map slot_pair (drop l.slot-index l.slots)));
}
