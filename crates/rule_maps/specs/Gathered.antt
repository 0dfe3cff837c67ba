-- What is gathered of selectors, by bucket.
use Rattle.std.specs.Prelude.{◌≡◌, List, ◌++◌, map}
use Rattle.rule_map_model.specs.Buckets.{Bucket, of_id, of_class, of_type, of_attribute, of_any}
use Rattle.rule_map_model.specs.Places.{Place, Placed, of_bucket}
use Rattle.rule_maps.specs.declared.bucket.BucketName.{BucketName}
use Rattle.rule_maps.specs.declared.bucket.BucketName.TheVariants as variants
use Rattle.rule_maps.specs.declared.gather.Gathered.{Gathered}
use Rattle.rule_maps.specs.declared.rows.Row.{Row}
use Rattle.rule_maps.specs.Rows.{named}
use Rattle.rule_maps.specs.SlotView.{place_seen}

abbrev pub bucket_seen : BucketName → Bucket
bucket_seen (variants.Id name) = of_id name.now
bucket_seen (variants.Class class) = of_class class.now
bucket_seen (variants.Type tag) = of_type tag.now
bucket_seen (variants.Attribute name) = of_attribute name.now
bucket_seen variants.Any = of_any

abbrev pub row_places : List Row → List Place
row_places rows = map (λ row. place_seen row.pair) rows

abbrev pub gathered_in : Gathered → Bucket → List Place
gathered_in g (of_id name) = row_places (named name g.ids.items)
gathered_in g (of_class class) = row_places (named class g.classes.items)
gathered_in g (of_type tag) = row_places (named tag g.types.items)
gathered_in g (of_attribute name) = row_places (named name g.attributes.items)
gathered_in g of_any = map place_seen g.rest.items

-- these came last
pub record Gathers (old new : Gathered) (last : List Placed) : Type 0 where
  pub each : (bucket : Bucket) → gathered_in new bucket ≡ gathered_in old bucket ++ of_bucket bucket last
