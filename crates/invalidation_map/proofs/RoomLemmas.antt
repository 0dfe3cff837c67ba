-- Sets with more room: flags that are not set, and places that are not used, behind those that were there.
use Rattle.std.proofs.Common.{◌≡◌, ℕ, zero, suc, ◌-◌, ◌<◌, ◌≤◌, nat_eq, Bool, true, false, cond, List, [], ◌∷◌, ◌++◌, length, take, replicate, get_or, refl, sym, ap, ◌∙◌, subst, arith}
use Rattle.std.specs.List.{IsDistinct}
use Rattle.std.proofs.lemmas.List.{length-append, length-replicate, take-append-le, take_all}
use Rattle.base_model.proofs.Lists.{each_weaker}
use Rattle.scene_model.specs.Numbers.{is_in}
use Rattle.invalidation_map.specs.Members.{AreBelow, set_flags, AreFlags}
use Rattle.invalidation_map.proofs.SetLemmas.{count_fits, none_there}

more_flags : (flags : List Bool) (k : ℕ) → set_flags (flags ++ replicate k false) ≡ set_flags flags
more_flags [] zero = refl
more_flags [] (suc k) = omega (arith, more_flags [] k)
more_flags (true ∷ flags) k = omega (arith, more_flags flags k)
more_flags (false ∷ flags) k = omega (arith, more_flags flags k)

more_none : (flags : List Bool) (k x : ℕ) → get_or (flags ++ replicate k false) x false ≡ get_or flags x false
more_none [] k x = none_there k x
more_none (flag ∷ flags) k zero = refl
more_none (flag ∷ flags) k (suc x) = more_none flags k x

module _ (flags : List Bool) (list : List ℕ) (count k : ℕ) (are : AreFlags flags list count) where
  abbrev zeros : List ℕ
  zeros = replicate k 0

  abbrev unset : List Bool
  unset = replicate k false

  pub front_stays : take count (list ++ replicate k 0) ≡ take count list
  front_stays = take-append-le count list zeros (count_fits flags list count are)

  pub flags_grown : AreFlags (flags ++ replicate k false) (list ++ replicate k 0) count
  flags_grown = record {
    room = omega (arith, are.room, length-append list zeros, length-append flags unset, length-replicate {A = ℕ} k 0, length-replicate k false);
    count_is = are.count_is ∙ sym (more_flags flags k);
    each = λ x. more_none flags k x ∙ (are.each x ∙ ap (is_in x) (sym front_stays));
    below = subst (AreBelow (length (flags ++ replicate k false))) (sym front_stays)
        (each_weaker (λ y. y < length flags) (λ y. y < length (flags ++ replicate k false)) (λ y l. omega (arith, l, length-append flags unset)) (take count list) are.below);
    once = subst (IsDistinct nat_eq) (sym front_stays) are.once;
  }

-- a list that has room is filled up
pub list_grown : (old kept new : List ℕ) (len more n : ℕ) (ok : Bool) → kept ≡ old → new ≡ cond ok (take n kept ++ replicate (n - len) 0) kept → ok ≡ true → length old ≤ n → n - len ≡ more
    → new ≡ old ++ replicate more 0
list_grown old kept new len more n ok same is done fits count =
    is
    ∙ (ap (λ b. cond b (take n kept ++ replicate (n - len) 0) kept) done
    ∙ (ap (λ l. take n l ++ replicate (n - len) 0) same
    ∙ (ap (λ l. l ++ replicate (n - len) 0) (take_all n old fits) ∙ ap (λ m. old ++ replicate m 0) count)))
