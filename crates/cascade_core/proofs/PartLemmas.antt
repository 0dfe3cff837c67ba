-- The value of one property of a shorthand.
use Rattle.std.proofs.Common.{zero, suc, ◌≤◌, length, arith, ◌≡◌, ℕ, ◌==◌, true, false, List, [], ◌∷◌, map, zip, find, Option, Some, None, option_map, refl, ap, ◌∙◌, ⊎_elim, is_some}
use Rattle.std.proofs.lemmas.Bool.{cases_Bool, cond_both, eqb-true}
use Rattle.std.proofs.lemmas.Option.{none-some, same_Some}
use Rattle.base_model.specs.Lists.{every}
use Rattle.base_model.specs.Options.{◌>>=◌}
use Rattle.syntax_model.specs.Token.{Token}
use Rattle.value_model.specs.Value.{Value}
use Rattle.sheet_model.specs.ValueIn.{value_in}
use Rattle.sheet_model.specs.Shorthands.{shorthand, slices, split, four_sides, two_axes, by_longhand, value_for}
use Rattle.value_model.specs.Shorthand.{Short, overflow, all, longhands_of}
use Rattle.cascade_core.specs.Tokens.{among, value_among, value_place}

-- the values of parts
abbrev pub values_of : List ℕ → List (List Token) → Option (List Value)
values_of ids parts = every (map (λ pair. value_in pair.0 pair.1) (zip ids parts))

cons_some : {X : Type 0} (o : Option X) (os : Option (List X)) (xs : List X) → (do y ← o; ys ← os; Some (y ∷ ys)) ≡ Some xs → (y : X) × (ys : List X) × (o ≡ Some y) × (os ≡ Some ys) × (xs ≡ y ∷ ys)
cons_some None os xs h = cc
cons_some (Some y) None xs h = cc
cons_some (Some y) (Some ys) xs h = (y, ys, refl, refl, cc)

abbrev upto : (ℕ → Option Value) → ℕ → List (Option Value)
upto f zero = []
upto f (suc n) = f 0 ∷ upto (λ i. f (suc i)) n

module _ (p : ℕ) where
  abbrev found : List ℕ → List Value → Option Value
  found ids values = option_map (λ pair. pair.1) (find (λ pair. pair.0 == p) (zip ids values))

  -- where each part is taken, the value of a property is that of its part
  found-among : (ids : List ℕ) (parts : List (List Token)) (values : List Value) → values_of ids parts ≡ Some values → found ids values ≡ value_among p ids parts
  found-among [] parts values h = refl
  found-among (id ∷ ids) [] [] h = refl
  found-among (id ∷ ids) [] (value ∷ values) h = cc
  found-among (id ∷ ids) (part ∷ parts) values h =
      let (value, others, first, rest, whole) = cons_some (value_in id part) (values_of ids parts) values h in
      ap (found (id ∷ ids)) whole ∙ step value others first (found-among ids parts others rest)
    where
      step : (value : Value) (rest : List Value) → value_in id part ≡ Some value → found ids rest ≡ value_among p ids parts → found (id ∷ ids) (value ∷ rest) ≡ value_among p (id ∷ ids) (part ∷ parts)
      step value rest first h =
          ⊎_elim
          (λ (same : (id == p) ≡ true). rw (same, ← eqb-true id p same, first))
          (λ (other : (id == p) ≡ false). rw other h)
          (cases_Bool (id == p))

  no_parts : (ids : List ℕ) → value_among p ids [] ≡ None
  no_parts [] = refl
  no_parts (id ∷ ids) = refl

  -- so it is among the values of the places
  by_place : (n : ℕ) (f : ℕ → Option Value) (ids : List ℕ) (parts : List (List Token)) → length parts ≤ n → ((i : ℕ) → f i ≡ value_place i ids parts) → among p ids (upto f n) ≡ value_among p ids parts
  by_place zero f [] [] few is = refl
  by_place zero f (id ∷ ids) [] few is = refl
  by_place zero f ids (part ∷ parts) few is = absurd (omega (arith, few))
  by_place (suc n) f [] parts few is = refl
  by_place (suc n) f (id ∷ ids) [] few is =
      let rest = by_place n (λ i. f (suc i)) ids [] (omega arith) (λ i. is (suc i)) ∙ no_parts ids in
      cond_both (id == p) (f 0) (among p ids (upto (λ i. f (suc i)) n)) (λ o. o ≡ None) (λ _. is 0) (λ _. rest)
  by_place (suc n) f (id ∷ ids) (part ∷ parts) few is =
      let rest = by_place n (λ i. f (suc i)) ids parts (omega (arith, few)) (λ i. is (suc i)) in
      ⊎_elim
      (λ (same : (id == p) ≡ true). rw (same, is 0, eqb-true id p same))
      (λ (other : (id == p) ≡ false). rw other rest)
      (cases_Bool (id == p))

few_sides : (list parts : List (List Token)) → four_sides list ≡ Some parts → length parts ≤ 4
few_sides [] parts h = cc
few_sides (a ∷ []) parts h = omega (arith, ap length (same_Some _ _ h))
few_sides (a ∷ b ∷ []) parts h = omega (arith, ap length (same_Some _ _ h))
few_sides (a ∷ b ∷ c ∷ []) parts h = omega (arith, ap length (same_Some _ _ h))
few_sides (a ∷ b ∷ c ∷ d ∷ []) parts h = omega (arith, ap length (same_Some _ _ h))
few_sides (a ∷ b ∷ c ∷ d ∷ e ∷ list) parts h = cc

few_axes : (list parts : List (List Token)) → two_axes list ≡ Some parts → length parts ≤ 4
few_axes [] parts h = cc
few_axes (a ∷ []) parts h = omega (arith, ap length (same_Some _ _ h))
few_axes (a ∷ b ∷ []) parts h = omega (arith, ap length (same_Some _ _ h))
few_axes (a ∷ b ∷ c ∷ list) parts h = cc

few_parts : (short : Short) (list parts : List (List Token)) → by_longhand short list ≡ Some parts → length parts ≤ 4
few_parts overflow list parts h = few_axes list parts h
few_parts all list parts h = absurd (none-some parts h)
few_parts sides list parts h = few_sides list parts h

module _ (short : Short) (tokens : List Token) (parts : List (List Token)) (h : split short tokens ≡ Some parts) (some : is_some (values_of (longhands_of short) parts) ≡ true) (p : ℕ) where
  abbrev ids : List ℕ
  ids = longhands_of short

  by_values : (o : Option (List Value)) → values_of ids parts ≡ o → is_some o ≡ true → (o >>= (λ values. found p ids values)) ≡ value_among p ids parts
  by_values None is some = cc
  by_values (Some values) is some = found-among p ids parts values is

  pub all_places : value_for (shorthand short) p tokens ≡ among p ids (upto (λ i. value_place i ids parts) 4)
  all_places =
      let few = few_parts short (slices tokens) parts h in
      rw (h, by_place p 4 (λ i. value_place i ids parts) ids parts few (λ i. refl)) (by_values (values_of ids parts) refl some)
