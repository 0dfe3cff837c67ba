-- What contracts see of a rule map: the places in each bucket.
use Rattle.std.specs.Prelude.{Bool, true, false, List, ◌∷◌, ◌++◌, map}
use Rattle.base_model.specs.Text.{Characters}
use Rattle.dom_tree.specs.ElementNames.{ElementName}
use Rattle.dom_tree.specs.declared.element_names.NameKind.{NameKind}
use Rattle.dom_tree.specs.declared.element_names.NameKind.TheVariants.{Tag, Id, Class}
use Rattle.rule_map_model.specs.Buckets.{Bucket, of_id, of_class, of_type, of_attribute, of_any}
use Rattle.rule_map_model.specs.Places.{Place}
use Rattle.rule_maps.specs.declared.pair.Pair.{Pair}
use Rattle.rule_maps.specs.declared.table.Table.{Table}
use Rattle.rule_maps.specs.declared.map.RuleMap.{RuleMap}
use Rattle.rule_maps.specs.Heads.{part_under}
use Rattle.rule_maps.specs.SlotView.{place_seen}

abbrev pub under : Table → Characters → List Pair
under table name = part_under table.heads.items table.pairs.items name

abbrev pub places_under : Table → Characters → List Place
places_under table name = map place_seen (under table name)

-- the places in a bucket, in order
abbrev pub in_bucket : RuleMap → Bucket → List Place
in_bucket rule_map (of_id name) = places_under rule_map.ids name
in_bucket rule_map (of_class class) = places_under rule_map.classes class
in_bucket rule_map (of_type tag) = places_under rule_map.types tag
in_bucket rule_map (of_attribute name) = places_under rule_map.attributes name
in_bucket rule_map of_any = map place_seen rule_map.rest.items

abbrev pub bucket_by_kind : NameKind → Characters → Bucket
bucket_by_kind Tag = of_type
bucket_by_kind Id = of_id
bucket_by_kind Class = of_class

abbrev pub bucket_named : ElementName → Bucket
bucket_named name = bucket_by_kind name.kind name.text

-- the buckets that an element with these names and these names of attributes looks at, or those after the first
abbrev pub buckets_left : Bool → List ElementName → List Characters → List Bucket
buckets_left true names attributes = map bucket_named names ++ map of_attribute attributes
buckets_left false names attributes = of_any ∷ (map bucket_named names ++ map of_attribute attributes)
