use Rattle.std.proofs.Common.{◌≡◌, drop, map, option_map}
use Rattle.property_table.specs.View.{property_of, value_seen}
use Rattle.cascade_core.specs.Tokens.{among}
use Rattle.cascade_core.proofs.substituted_shorthand.among.Given as goal

abbrev pub invariant-loop-place : goal.invariant-loop-place
invariant-loop-place l =
    let p = property_of l.id in
    among p (map property_of (drop l.place l.ids)) (map (option_map value_seen) (drop l.place l.values))
    ≡ among p (map property_of l.ids) (map (option_map value_seen) l.values)
