use Rattle.std.proofs.Common.{◌≡◌, Bool, List, [], ◌∷◌, ◌||◌, map, refl, sym, ap, ◌∙◌, ◌==◌}
use Rattle.std.specs.List.{list_any}
use Rattle.property_table.specs.View.{property_of}
use Rattle.cascade_core.proofs.gathered.sets.Goals as goal

any-map : {A B : Type 0} (f : A → B) (passes : B → Bool) (xs : List A) → list_any passes (map f xs) ≡ list_any (λ x. passes (f x)) xs
any-map f passes [] = refl
any-map f passes (x ∷ xs) = ap (λ b. passes (f x) || b) (any-map f passes xs)

pub returns : goal.returns
returns c =
    c.contains.ensures.value
    ∙ (sym (any-map property_of (λ q. q == property_of c.args.id) c.longhands.result.now)
    ∙ ap (list_any (λ q. q == property_of c.args.id)) c.longhands.ensures)
