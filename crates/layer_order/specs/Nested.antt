-- What a nesting stands for.
use Rattle.std.specs.Prelude.{ℕ, zero, suc, List, [], filter, flat_map, length, map}
use Rattle.layer_model.specs.Name.{LayerName, no_layer}
use Rattle.layer_model.specs.Order.{below, is_directly_in}
use Rattle.layer_order.specs.Known.{AreNested, layer_at}
use Rattle.layer_order.specs.declared.nesting.Nesting.{Nesting}

-- each layer has those directly in it
abbrev pub IsNesting : Nesting → Type 0
IsNesting n = AreNested n.layers.keys (length n.layers.keys) (map (λ v. v.items) n.inner.items)

-- the layer of a place, and before it all that are in it
abbrev pub below_at : Nesting → ℕ → ℕ → List LayerName
below_at n levels place = below levels n.layers.keys (layer_at n.layers.keys place)

-- all that are in the layer of a place
abbrev pub inside_at : Nesting → ℕ → ℕ → List LayerName
inside_at n zero place = []
inside_at n (suc levels) place =
    let layers = n.layers.keys in
    flat_map (below levels layers) (filter (is_directly_in (layer_at layers place)) layers)

-- all layers, and last what is in none
abbrev pub below_none : Nesting → List LayerName
below_none n = below (length n.layers.keys) n.layers.keys no_layer
