-- Whether several properties take their parts.
use Rattle.std.proofs.Common.{◌≡◌, List, [], ◌∷◌, Bool, ◌&&◌, map, Option, Some, None, option_and_then, refl, sym, ◌∙◌, Bor}
use Rattle.std.specs.Prelude.{is_some, zip}
use Rattle.std.specs.List.{list_all}
use Rattle.base_model.specs.Lists.{every}
use Rattle.syntax_model.specs.Token.{Token}
use Rattle.sheet_model.specs.ValueIn.{value_in}
use Rattle.property_table.specs.View.{property_of}
use Rattle.property_table.specs.declared.property.PropId.{PropId}

-- whether a property takes its part
abbrev pub is_taken : PropId × Bor (List Token) → Bool
is_taken pair = is_some (value_in (property_of pair.0) pair.1.now)

with_first : {X : Type 0} (x : X) (rest : Option (List X)) → is_some (option_and_then (λ xs. Some (x ∷ xs)) rest) ≡ is_some rest
with_first x None = refl
with_first x (Some xs) = refl

one_more : {X : Type 0} (first : Option X) (others : List (Option X)) (all : Bool) → all ≡ is_some (every others) → (is_some first && all) ≡ is_some (every (first ∷ others))
one_more None others all h = refl
one_more (Some x) others all h = h ∙ sym (with_first x (every others))

-- all values are there where each is
pub all_taken : (ids : List PropId) (parts : List (Bor (List Token))) → list_all is_taken (zip ids parts) ≡ is_some (every (map (λ pair. value_in pair.0 pair.1) (zip (map property_of ids) (map (λ part. part.now) parts))))
all_taken [] parts = refl
all_taken (id ∷ ids) [] = refl
all_taken (id ∷ ids) (part ∷ parts) =
    one_more (value_in (property_of id) part.now) (map (λ pair. value_in pair.0 pair.1) (zip (map property_of ids) (map (λ (part : Bor (List Token)). part.now) parts))) (list_all is_taken (zip ids parts)) (all_taken ids parts)
