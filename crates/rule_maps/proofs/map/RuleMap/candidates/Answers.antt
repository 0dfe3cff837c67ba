use Rattle.std.proofs.Common.{arith}
use Rattle.rule_maps.proofs.CandidateLemmas.{candidates_found, head_found, piece_found, pieces_found}
use Rattle.rule_maps.proofs.map.RuleMap.candidates.Goals as goal

pub loop-pairs-preserved : goal.loop-pairs-preserved
loop-pairs-preserved c =
    piece_found c.loop-pairs.found.items c.push_rules.new.found.items _ c.in-Some.pairs.now c.loop-pairs.buckets c.next.new.self c.in-Some.ensures
    c.in_ok-push_rules.ensures c.loop-pairs.invariant

pub loop-index-preserved : goal.loop-index-preserved
loop-index-preserved c =
    head_found c.args.self.now.attributes c.loop-index.index c.part.result.now c.loop-pairs.found.items c.loop-index.found.items c.push_rules-in-loop-index.new.found.items
    (omega (arith, c.loop-index-test.true, c.len-index-end.ensures, c.args.self.now.attributes.heads.ok.0)) c.part.ensures c.in_ok-push_rules-2.ensures c.loop-index.invariant

pub returns : goal.returns
returns c =
    candidates_found c.args.self.now c.args.doc.now.elements c.args.x c.buckets-buckets.result c.buckets-buckets.ensures.looked c.loop-pairs.found.items
    c.loop-index.found.items c.sort_unstable.new.self.items c.dedup.new.self.items c.loop-index.index
    (pieces_found c.loop-pairs.found.items _ c.loop-pairs.buckets c.in_default.ensures c.loop-pairs.invariant)
    (omega (arith, c.loop-index-test.false, c.len-index-end.ensures, c.args.self.now.attributes.heads.ok.0)) c.loop-index.invariant
    c.sort_unstable.ensures.permutation c.sort_unstable.ensures.sorted c.dedup.ensures.filtered
