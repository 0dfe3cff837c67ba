use Rattle.std.proofs.Common.{List, map, ap, ◌∙◌, false}
use Rattle.dom_tree.specs.ElementNames.{ElementName}
use Rattle.rule_maps.specs.View.{in_bucket, buckets_left}
use Rattle.rule_maps.proofs.BucketLemmas.{are_looked_at}
use Rattle.rule_maps.proofs.map.RuleMap.buckets.Goals as goal

pub returns-clause-looked : goal.returns-clause-looked
returns-clause-looked c =
    let bucket = in_bucket c.args.self.now in
    let attributes = c.attribute_names.result in
    are_looked_at c.args.doc.now c.args.x attributes c.attribute_names.ensures.names bucket c.new.result
    (c.new.ensures ∙ ap (λ (names : List ElementName). map bucket (buckets_left false names attributes)) c.names.ensures)
