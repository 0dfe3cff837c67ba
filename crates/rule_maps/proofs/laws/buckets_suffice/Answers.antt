use Rattle.ancestor_filter.specs.Names.{names_of, slot}
use Rattle.ancestor_filter.proofs.NameLemmas.{names_all, slot_within}
use Rattle.rule_map_model.proofs.PlaceLemmas.{places_matching}
use Rattle.rule_maps.proofs.laws.buckets_suffice.Goals as goal

pub returns : goal.returns
returns c doc sources x filter in_bucket pieces hits valid stands is looked permuted up =
    places_matching doc.elements x slot slot_within (names_of doc.elements) (names_all doc) valid filter stands sources in_bucket pieces hits is looked permuted up
