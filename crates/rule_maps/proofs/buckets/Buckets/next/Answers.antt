use Rattle.std.proofs.Common.{◌+◌, ◌∷◌, Bool, map, drop, sym, ap, ◌∙◌, arith}
use Rattle.rule_maps.specs.SlotView.{place_seen}
use Rattle.rule_maps.specs.View.{in_bucket, buckets_left}
use Rattle.rule_maps.proofs.BucketLemmas.{name_next, attribute_next}
use Rattle.rule_maps.proofs.buckets.Buckets.next.Goals as goal

pub returns-then-name-len : goal.returns-then-name-len
returns-then-name-len c =
    let was = c.self.inside in
    let bucket = in_bucket was.map.now in
    let given = c.if-not-self.false in
    let attributes = drop was.attribute was.attributes in
    let piece = map place_seen c.under_name.result.now in
    sym c.self.view_is
    ∙ (ap (λ (b : Bool). map bucket (buckets_left b (drop was.name was.names) attributes)) given
    ∙ (name_next bucket was.names attributes was.name piece (omega (arith, c.if-name-len.true, c.len.ensures)) c.under_name.ensures
    ∙ ap (λ (b : Bool). piece ∷ map bucket (buckets_left b (drop (was.name + 1) was.names) attributes)) (sym given)))

pub returns-then-attribute-len : goal.returns-then-attribute-len
returns-then-attribute-len c =
    let was = c.self.inside in
    let bucket = in_bucket was.map.now in
    let given = c.if-not-self.false in
    let names = drop was.name was.names in
    let piece = map place_seen c.under_attribute.result.now in
    sym c.self.view_is
    ∙ (ap (λ (b : Bool). map bucket (buckets_left b names (drop was.attribute was.attributes))) given
    ∙ (attribute_next bucket was.names was.attributes was.name was.attribute piece (omega (arith, c.if-name-len.false, c.len.ensures))
    (omega (arith, c.if-attribute-len.true, c.len-2.ensures)) c.under_attribute.ensures
    ∙ ap (λ (b : Bool). piece ∷ map bucket (buckets_left b names (drop (was.attribute + 1) was.attributes))) (sym given)))
