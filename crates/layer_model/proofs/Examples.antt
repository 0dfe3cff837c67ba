-- The definitions computed on small lists of layers.
use Rattle.std.specs.Prelude.{◌≡◌, [], ◌∷◌, map, codes}
use Rattle.std.proofs.Common.{refl}
use Rattle.base_model.specs.Origin.{user_agent, user, author}
use Rattle.layer_model.specs.Name.{Part, named, anonymous, no_layer}
use Rattle.layer_model.specs.Order.{declared, layer_order, rank_in, layers_of, layer_rank}

abbrev a : Part
a = named (codes "a")

abbrev b : Part
b = named (codes "b")

abbrev c : Part
c = named (codes "c")

abbrev d : Part
d = named (codes "d")

abbrev first : Part
first = anonymous 1 0 0

abbrev second : Part
second = anonymous 1 0 1

-- `a.b` also declares `a`
passes_through : declared ((a ∷ b ∷ []) ∷ (c ∷ []) ∷ (a ∷ d ∷ []) ∷ []) ≡ (a ∷ []) ∷ (a ∷ b ∷ []) ∷ (c ∷ []) ∷ (a ∷ d ∷ []) ∷ []
unfolding declared
passes_through = refl

-- by first appearance, sublayers first, and what is in no layer last
sublayers_first : layer_order ((a ∷ b ∷ []) ∷ (c ∷ []) ∷ (a ∷ d ∷ []) ∷ []) ≡ (a ∷ b ∷ []) ∷ (a ∷ d ∷ []) ∷ (a ∷ []) ∷ (c ∷ []) ∷ [] ∷ []
unfolding layer_order declared
sublayers_first = refl

-- and so at each level
deeper : layer_order ((a ∷ b ∷ c ∷ []) ∷ (b ∷ []) ∷ (a ∷ c ∷ []) ∷ (a ∷ b ∷ d ∷ []) ∷ []) ≡ (a ∷ b ∷ c ∷ []) ∷ (a ∷ b ∷ d ∷ []) ∷ (a ∷ b ∷ []) ∷ (a ∷ c ∷ []) ∷ (a ∷ []) ∷ (b ∷ []) ∷ [] ∷ []
unfolding layer_order declared
deeper = refl

no_layers : layer_order [] ≡ [] ∷ []
unfolding layer_order declared
no_layers = refl

-- case makes a difference, and two anonymous layers are two
told_apart : layer_order ((named (codes "A") ∷ []) ∷ (a ∷ []) ∷ (first ∷ []) ∷ (second ∷ []) ∷ (first ∷ []) ∷ (anonymous 2 0 0 ∷ []) ∷ []) ≡ (named (codes "A") ∷ []) ∷ (a ∷ []) ∷ (first ∷ []) ∷ (second ∷ []) ∷ (anonymous 2 0 0 ∷ []) ∷ [] ∷ []
unfolding layer_order declared
told_apart = refl

ranks : map (rank_in (layer_order ((a ∷ b ∷ []) ∷ (c ∷ []) ∷ []))) ((a ∷ b ∷ []) ∷ (a ∷ []) ∷ (c ∷ []) ∷ no_layer ∷ (d ∷ []) ∷ (a ∷ c ∷ []) ∷ []) ≡ 0 ∷ 1 ∷ 2 ∷ 3 ∷ 3 ∷ 3 ∷ []
unfolding layer_order declared rank_in
ranks = refl

-- each origin has layers of its own
apart : map (λ origin. layer_rank (layers_of ((author, a ∷ []) ∷ (user, b ∷ []) ∷ (author, b ∷ []) ∷ [])) origin (b ∷ [])) (user_agent ∷ user ∷ author ∷ []) ≡ 0 ∷ 0 ∷ 1 ∷ []
unfolding layer_order declared rank_in
apart = refl
