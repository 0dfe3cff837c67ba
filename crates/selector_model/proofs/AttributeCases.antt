-- Attributes of examples: a map does not compute, so what is found in it is a law.
use Rattle.std.proofs.Common.{◌≡◌, List, [], refl}
use Rattle.std.specs.Cmp.Lexicographic.{slice_cmp, nat_list_cmp_total}
use Rattle.std.specs.FinMap as maps
use Rattle.std.specs.Ordering.{nat_cmp}
use Rattle.base_model.specs.Text.{Characters}
use Rattle.scene_model.specs.Element.{Attributes}

pub attributes : List (Characters × Characters) → Attributes
attributes pairs = maps.from_entries pairs

pub get_pairs : (pairs : List (Characters × Characters)) (name : Characters) → maps.get (attributes pairs) name ≡ maps.find (slice_cmp nat_cmp) name pairs
unfolding attributes
get_pairs pairs name = maps.get-from_entries nat_list_cmp_total pairs name

pub no_attributes : attributes [] ≡ maps.empty
unfolding attributes
no_attributes = refl
