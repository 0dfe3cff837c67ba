-- How many siblings there are beyond an element, where all of them are counted.
use Rattle.std.proofs.Common.{◌≡◌, ℕ, Bool, true, false, List, [], ◌∷◌, length, filter, sym, ap, ◌∙◌, refl}
use Rattle.scene_model.specs.Element.{Element}
use Rattle.scene_model.specs.Lookups.{siblings_beyond, place_by}
use Rattle.selector_model.specs.Holds.{counts}

all_pass : (xs : List ℕ) → filter (λ y. true) xs ≡ xs
all_pass [] = refl
all_pass (x ∷ xs) = ap (λ l. x ∷ l) (all_pass xs)

pub place_by_all : (doc : List Element) (from_last : Bool) (x : ℕ) (xs : List ℕ) → xs ≡ siblings_beyond doc from_last x → length xs ≡ place_by doc from_last (counts doc false x) x
place_by_all doc from_last x xs e = ap length (e ∙ sym (all_pass (siblings_beyond doc from_last x)))
