-- Going back along declarations asks of each no more than what it gives and where it comes from.
use Rattle.std.proofs.Common.{◌≡◌, Bool, List, [], ◌∷◌, map, Option, Some, None, refl, ap, ◌∙◌}
use Rattle.std.specs.Ordering.{is_lt}
use Rattle.std.specs.Prelude.{nat_lt, if◌then◌else◌}
use Rattle.base_model.specs.Origin.{Origin, origin_rank}
use Rattle.syntax_model.specs.Wide.{revert_layer}
use Rattle.sheet_model.specs.Declared.{Given}
use Rattle.cascade_model.specs.Key.{Matched}
use Rattle.cascade_model.specs.Ending.{Ending, Meaning, keyword}
use Rattle.cascade_core.specs.Rollback.{Level, level_of, compare_level, Bound, unbounded, below_origin, below_level, keeps, settled, bound_by, walked}

-- declarations that give the same, from the same origin and level
pub record AreAlike (a b : Matched) : Type 0 where
  pub given : a.given ≡ b.given
  pub origin : a.origin ≡ b.origin
  pub level : level_of a ≡ level_of b

module _ {K A : Type 0} (means : Given → Meaning A) (f g : K → Matched) (alike : (x : K) → AreAlike (f x) (g x)) where
  same_keeps : (bound : Bound) (x : K) → keeps bound (f x) ≡ keeps bound (g x)
  same_keeps unbounded x = refl
  same_keeps (below_origin rank) x = ap (λ (o : Origin). nat_lt (origin_rank o) rank) (alike x).origin
  same_keeps (below_level l) x = ap (λ (m : Level). is_lt (compare_level m l)) (alike x).level

  same_bound : (x : K) (meaning : Meaning A) → bound_by (f x) meaning ≡ bound_by (g x) meaning
  same_bound x (keyword revert_layer) = ap below_level (alike x).level
  same_bound x meaning = ap (λ (o : Origin). below_origin (origin_rank o)) (alike x).origin

  abbrev step : Bool → Option (Ending A) → Ending A → Ending A → Ending A
  step b o again next =
      if b then elim o [
        | Some end ↦ end
        | None ↦ again
      ]
      else next

  pub walked_alike : (bound : Bound) (xs : List K) → walked means bound (map f xs) ≡ walked means bound (map g xs)
  walked_alike bound [] = refl
  walked_alike bound (x ∷ xs) =
      let bounds = same_bound x (means (f x).given) ∙ ap (λ m. bound_by (g x) (means m)) (alike x).given in
      let again = walked_alike (bound_by (f x) (means (f x).given)) xs ∙ ap (λ bound. walked means bound (map g xs)) bounds in
      λ i. step (same_keeps bound x i) (settled (means ((alike x).given i))) (again i) (walked_alike bound xs i)
