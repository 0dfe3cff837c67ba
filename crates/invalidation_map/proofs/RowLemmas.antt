-- Rows of dependencies.
use Rattle.std.proofs.Common.{◌≡◌, ℕ, ◌+◌, ◌<◌, List, [], ◌∷◌, ◌++◌, length, map, take, get_or, Option, Some, None, option_to_list, refl, sym, ap, ◌∙◌, append_assoc}
use Rattle.std.specs.List.{cons_option, filter_map}
use Rattle.std.proofs.lemmas.List.{map-append, take_more}
use Rattle.std.proofs.lemmas.List.Elements.{filter_map-append}
use Rattle.dependency_map.specs.declared.dep.Dep.{Dep}
use Rattle.edit_model.specs.Dependencies.{Dependency}
use Rattle.invalidation_map.specs.Rows.{Row}

one_row : (o : Option Row) → option_to_list o ≡ cons_option o []
one_row None = refl
one_row (Some row) = refl

-- the row of one more dependency, if it has one
pub row_more : (f : Dependency → Option Row) (g : Dep → Dependency) (deps : List Dep) (i : ℕ) (dep : Dep) (old now new : List Row) (o : Option Row) → i < length deps → dep ≡ get_or deps i dep
    → now ≡ old ++ filter_map f (map g (take i deps)) → o ≡ f (g dep) → new ≡ now ++ option_to_list o → new ≡ old ++ filter_map f (map g (take (i + 1) deps))
row_more f g deps i dep old now new o l is so_far e more =
    more
    ∙ (ap (λ rows. rows ++ option_to_list o) so_far
    ∙ (append_assoc old (filter_map f (map g (take i deps))) (option_to_list o)
    ∙ ap (λ rows. old ++ rows)
    (ap (λ rows. filter_map f (map g (take i deps)) ++ rows) (ap option_to_list e ∙ one_row (f (g dep)))
    ∙ (sym (filter_map-append f (map g (take i deps)) (g dep ∷ []))
    ∙ ap (filter_map f) (sym (map-append g (take i deps) (dep ∷ [])) ∙ ap (map g) (ap (λ d. take i deps ++ d ∷ []) is ∙ sym (take_more deps i dep l)))))))
