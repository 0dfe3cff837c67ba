-- The computed value of a name that is on no cycle.
use Rattle.std.proofs.Common.{◌≡◌, List, map, Option, Some, None, option_map, refl, sym, ap, ◌∙◌}
use Rattle.std.proofs.lemmas.Option.{none-some, same_Some}
use Rattle.base_model.specs.Options.{◌>>=◌}
use Rattle.syntax_model.specs.Token.{Token, said}
use Rattle.syntax_model.specs.Wide.{Wide}
use Rattle.custom_model.specs.Value.{CustomValue, unplaced}
use Rattle.custom_model.specs.Expand.{Lookup, expansion}
use Rattle.custom_model.specs.Computed.{wide_of, by_keyword, after_keyword}
use Rattle.custom_properties.specs.Off.{off_cycles}
use Rattle.custom_model.proofs.Said.{said_unplaced}

module _ (values : Lookup) (inherited : Option CustomValue) (value : CustomValue) (tokens : List Token) (same : tokens ≡ map unplaced value) where
  seen : map said tokens ≡ value
  seen = ap (map said) same ∙ said_unplaced value

  -- a value that expands to itself
  pub off_plain : expansion values value ≡ Some value → (o : Option Wide) → o ≡ wide_of (map said tokens) → by_keyword inherited value o ≡ off_cycles values inherited value
  off_plain plain o e =
      ap (by_keyword inherited value) (e ∙ ap wide_of seen) ∙ sym (ap (λ r. r >>= after_keyword inherited) plain)

  pub off_none : (items : Option (List Token)) → items ≡ None → items ≡ option_map (map unplaced) (expansion values (map said tokens)) → None ≡ off_cycles values inherited value
  off_none items none e = sym (ap (λ r. r >>= after_keyword inherited) (by (expansion values value) (sym none ∙ (e ∙ ap (λ v. option_map (map unplaced) (expansion values v)) seen))))
    where
      by : (o : Option CustomValue) → None ≡ option_map (map unplaced) o → o ≡ None
      by None h = refl
      by (Some r) h = absurd (none-some (map unplaced r) h)

  Expands : List Token → Type 0
  Expands list = (list ≡ map unplaced (map said list)) × (expansion values value ≡ Some (map said list))

  expands : (list : List Token) → Some list ≡ option_map (map unplaced) (expansion values (map said tokens)) → Expands list
  unfolding Expands
  expands list e = by (expansion values value) (e ∙ ap (λ v. option_map (map unplaced) (expansion values v)) seen)
    where
      by : (o : Option CustomValue) → Some list ≡ option_map (map unplaced) o → (list ≡ map unplaced (map said list)) × (o ≡ Some (map said list))
      by None h = absurd (none-some list (sym h))
      by (Some r) h =
          let is : list ≡ map unplaced r = same_Some list (map unplaced r) h in
          let says : r ≡ map said list = sym (ap (map said) is ∙ said_unplaced r) in
          (is ∙ ap (map unplaced) says, ap Some says)

  pub off_unplaced : (list : List Token) → Some list ≡ option_map (map unplaced) (expansion values (map said tokens)) → list ≡ map unplaced (map said list)
  unfolding Expands
  off_unplaced list e = (expands list e).0

  pub off_expanded : (list : List Token) → Some list ≡ option_map (map unplaced) (expansion values (map said tokens)) → (o : Option Wide) → o ≡ wide_of (map said list) → by_keyword inherited (map said list) o ≡ off_cycles values inherited value
  unfolding Expands
  off_expanded list e o is =
      ap (by_keyword inherited (map said list)) is ∙ sym (ap (λ r. r >>= after_keyword inherited) (expands list e).1)
