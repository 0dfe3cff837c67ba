-- In which order the layers of an origin are (css-cascade-5, section 6.4).
use Rattle.std.specs.Prelude.{ℕ, zero, suc, ◌+◌, ◌==◌, List, [], ◌∷◌, ◌++◌, length, map, filter, flat_map}
use Rattle.std.specs.Prelude.{Bool, true, false, ◌&&◌, if◌then◌else◌}
use Rattle.std.specs.List.{list_any}
use Rattle.base_model.specs.Origin.{Origin, user_agent, user, author, origin_rank}
use Rattle.layer_model.specs.Name.{LayerName, no_layer, same_part, same_name}

-- each layer that a name goes through, outermost first: `a.b` also declares `a`
abbrev pub fronts : LayerName → List LayerName
fronts [] = []
fronts (part ∷ parts) = (part ∷ []) ∷ map (λ name. part ∷ name) (fronts parts)

abbrev pub is_known : List LayerName → LayerName → Bool
is_known names name = list_any (same_name name) names

abbrev pub with_name : List LayerName → LayerName → List LayerName
with_name names name = if is_known names name then names else names ++ name ∷ []

abbrev pub with_names : List LayerName → List LayerName → List LayerName
with_names known [] = known
with_names known (name ∷ names) = with_names (with_name known name) names

-- the layers that names declare, by first appearance
unfoldable pub declared : List LayerName → List LayerName
declared names = with_names [] (flat_map fronts names)

-- whether a layer is in this one, with none between them
abbrev pub is_directly_in : LayerName → LayerName → Bool
is_directly_in [] (part ∷ []) = true
is_directly_in (a ∷ outer) (b ∷ name) = same_part a b && is_directly_in outer name
is_directly_in outer name = false

-- A layer and all that are in it, lowest first: its sublayers, each after those that are in it, and then the layer,
-- with what is directly in it. No layer has more levels in it than there are layers.
abbrev pub below : ℕ → List LayerName → LayerName → List LayerName
below zero all name = name ∷ []
below (suc levels) all name = flat_map (below levels all) (filter (is_directly_in name) all) ++ name ∷ []

-- the layers that names declare, lowest first; what is in no layer is last
unfoldable pub layer_order : List LayerName → List LayerName
layer_order names = below (length (declared names)) (declared names) no_layer

-- how many names come before this one
abbrev pub place_in : List LayerName → LayerName → ℕ
place_in [] name = 0
place_in (other ∷ names) name = if same_name other name then 0 else place_in names name + 1

-- how high a layer is; a name that no layer has is as high as what is in no layer
unfoldable pub rank_in : List LayerName → LayerName → ℕ
rank_in order name = if is_known order name then place_in order name else place_in order no_layer

-- the layers of each origin, lowest first
pub record Layers : Type 0 where
  pub of_user_agent : List LayerName
  pub of_user : List LayerName
  pub of_author : List LayerName

abbrev pub layers_at : Layers → Origin → List LayerName
layers_at layers user_agent = layers.of_user_agent
layers_at layers user = layers.of_user
layers_at layers author = layers.of_author

abbrev pub layer_rank : Layers → Origin → LayerName → ℕ
layer_rank layers origin name = rank_in (layers_at layers origin) name

-- the names of one origin
abbrev pub names_of : Origin → List (Origin × LayerName) → List LayerName
names_of origin [] = []
names_of origin (declaration ∷ rest) =
    if origin_rank declaration.0 == origin_rank origin then declaration.1 ∷ names_of origin rest
    else names_of origin rest

-- layers belong to an origin: those of one say nothing of another's
abbrev pub layers_of : List (Origin × LayerName) → Layers
layers_of list = record {
  of_user_agent = layer_order (names_of user_agent list);
  of_user = layer_order (names_of user list);
  of_author = layer_order (names_of author list);
}
