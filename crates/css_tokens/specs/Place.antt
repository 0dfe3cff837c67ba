-- Where a name stands.
use Rattle.std.specs.Prelude.{ℕ, suc, List, [], ◌∷◌, map, if◌then◌else◌, Option, Some, None, option_map}
use Rattle.base_model.specs.Text.{Characters, same_text}

-- among names
abbrev pub place_among : List Characters → Characters → Option ℕ
place_among [] name = None
place_among (first ∷ names) name =
    if same_text first name then Some 0 else option_map suc (place_among names name)

-- among pairs of a name and what stands under it
abbrev pub place_in : {X : Type 0} → List (Characters × X) → Characters → Option ℕ
place_in pairs name = place_among (map (λ pair. pair.0) pairs) name
