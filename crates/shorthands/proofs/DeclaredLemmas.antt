-- The declarations that one of the code stands for: how many they are, and that each is of a property of its own.
use Rattle.std.proofs.Common.{◌≡◌, ℕ, ◌+◌, ◌<◌, ◌≤◌, ◌==◌, nat_lt, Bool, true, false, ◌&&◌, ⊎_elim, List, [], ◌∷◌, map, filter, length, position, if◌then◌else◌, add_assoc, add-zero, Some, option_map, refl, sym, ap, ◌∙◌, arith}
use Rattle.std.specs.List.{position_from}
use Rattle.std.proofs.lemmas.Bool.{and_parts, cases_Bool, cond-true, cond-false}
use Rattle.std.proofs.lemmas.Bool.Decides.{nat_tests, Decides-eqb}
use Rattle.std.specs.Prelude.{option_to_list}
use Rattle.std.proofs.lemmas.Iterator.Adapters.{position_from-zero}
use Rattle.std.proofs.lemmas.List.{length-map}
use Rattle.base_model.specs.Text.{Characters}
use Rattle.value_model.specs.Shorthand.{longhands_of}
use Rattle.sheet_model.specs.Declared as model
use Rattle.sheet_model.specs.Declared.{is_longhand, is_custom, longhand}
use Rattle.property_table.specs.declared.property.PropId.{PropId}
use Rattle.shorthands.specs.View.{declared_as, declared_count, short_of, target_longhands, targets_of}
use Rattle.shorthands.specs.declared.short.Short.{Short}
use Rattle.shorthands.specs.declared.short.Short.TheVariants.{Margin, All}
use Rattle.shorthands.specs.declared.declared.Declared.{Declared}
use Rattle.shorthands.specs.declared.declared.Target.{Target}
use Rattle.shorthands.specs.declared.declared.Target.TheVariants.{Longhand, Shorthand, Custom}
use Rattle.shorthands.proofs.ShortLemmas.{all_are}

-- as many as there are targets
pub count_is : (d : Declared) → declared_count d ≡ length (targets_of d.target)
count_is d = length-map (targets_of d.target) (declared_as d)

pub count_longhand : (d : Declared) (id : PropId) → d.target ≡ Longhand id → declared_count d ≡ 1
count_longhand d id is = count_is d ∙ ap (λ target. length (targets_of target)) is

pub count_shorthand : (d : Declared) (short : Short) → d.target ≡ Shorthand short → declared_count d ≡ length (longhands_of (short_of short))
count_shorthand d short is =
    count_is d
    ∙ (ap (λ target. length (targets_of target)) is ∙ length-map (longhands_of (short_of short)) longhand)

pub count_custom : (d : Declared) (name : Characters) → d.target ≡ Custom name → declared_count d ≡ 1
count_custom d name is = count_is d ∙ ap (λ target. length (targets_of target)) is

-- whether each of a list is greater than the one before
abbrev pub rises_after : ℕ → List ℕ → Bool
rises_after n [] = true
rises_after n (m ∷ rest) = nat_lt n m && rises_after m rest

abbrev pub rises : List ℕ → Bool
rises [] = true
rises (n ∷ rest) = rises_after n rest

pub short_rises : (short : Short) → rises (longhands_of (short_of short)) ≡ true
short_rises All = ap rises (sym all_are)
short_rises Margin = refl
short_rises _ = refl

-- the properties rise
pub longhands_rise : (target : Target) → rises (target_longhands target) ≡ true
longhands_rise (Longhand id) = refl
longhands_rise (Shorthand short) = short_rises short
longhands_rise (Custom name) = refl

-- What is counted on from an index, one for each of a list of targets, as `entry` makes it.
abbrev pub counted : {M : Type 0} → (ℕ → model.Target → M) → ℕ → List model.Target → List M
counted entry i [] = []
counted entry i (target ∷ targets) = entry i target ∷ counted entry (i + 1) targets

module _ {M : Type 0} (entry : ℕ → model.Target → M) (p : ℕ) (declares : M → Bool) (as_target : (i : ℕ) (target : model.Target) → declares (entry i target) ≡ is_longhand p target) where
  -- after a property that is as great there is none of this one
  none_after : (i n : ℕ) (rest : List ℕ) → p ≤ n → rises_after n rest ≡ true → filter declares (counted entry i (map longhand rest)) ≡ []
  none_after i n [] below rising = refl
  none_after i n (m ∷ rest) below rising =
      let parts = and_parts (nat_lt n m) (rises_after m rest) rising in
      let greater : nat_lt n m ≡ true = parts.0 in
      let above : p < m = grind (arith, nat_tests) in
      let other : (m == p) ≡ false = grind (arith, nat_tests) in
      cond-false (declares (entry i (longhand m))) _ _ (as_target i (longhand m) ∙ other)
      ∙ none_after (i + 1) m rest (omega arith) parts.1

  rises_on : (n : ℕ) (rest : List ℕ) → rises_after n rest ≡ true → rises rest ≡ true
  rises_on n [] rising = refl
  rises_on n (m ∷ rest) rising = (and_parts (nat_lt n m) (rises_after m rest) rising).1

  -- So there is one for the property where it is among them, at its place, and else none.
  pub counted_longhand : (i : ℕ) (ps : List ℕ) → rises ps ≡ true → filter declares (counted entry i (map longhand ps)) ≡ option_to_list (option_map (λ k. entry k (longhand p)) (position_from (λ q. q == p) i ps))
  counted_longhand i [] rising = refl
  counted_longhand i (q ∷ rest) rising =
      ⊎_elim
      (λ (same : (q == p) ≡ true).
      let is : q ≡ p = (Decides-eqb q p).0 same in
      cond-true (declares (entry i (longhand q))) _ _ (as_target i (longhand q) ∙ same)
      ∙ (ap (λ list. entry i (longhand q) ∷ list) (none_after (i + 1) q rest (omega arith) rising)
      ∙ (ap (λ r. entry i (longhand r) ∷ []) is
      ∙ ap (λ found. option_to_list (option_map (λ k. entry k (longhand p)) found)) (sym (cond-true (q == p) _ _ same)))))
      (λ (other : (q == p) ≡ false).
      cond-false (declares (entry i (longhand q))) _ _ (as_target i (longhand q) ∙ other)
      ∙ (counted_longhand (i + 1) rest (rises_on q rest rising)
      ∙ ap (λ found. option_to_list (option_map (λ k. entry k (longhand p)) found)) (sym (cond-false (q == p) _ _ other))))
      (cases_Bool (q == p))

shifted : (p i j : ℕ) (ps : List ℕ) → position_from (λ q. q == p) (i + j) ps ≡ option_map (λ k. i + k) (position_from (λ q. q == p) j ps)
shifted p i j [] = refl
shifted p i j (q ∷ rest) =
    let later : position_from (λ q. q == p) (i + j + 1) rest ≡ option_map (λ k. i + k) (position_from (λ q. q == p) (j + 1) rest) =
    ap (λ n. position_from (λ q. q == p) n rest) (add_assoc i j 1) ∙ shifted p i (j + 1) rest in
    elim (q == p) as (λ b. (if b then Some (i + j) else position_from (λ q. q == p) (i + j + 1) rest) ≡ option_map (λ k. i + k) (if b then Some j else position_from (λ q. q == p) (j + 1) rest)) [
      | true ↦ refl
      | false ↦ later
    ]

-- the place of a property among those counted on from an index
pub place_counted : (p i : ℕ) (ps : List ℕ) → position_from (λ q. q == p) i ps ≡ option_map (λ k. i + k) (position (λ q. q == p) ps)
place_counted p i ps =
    ap (λ n. position_from (λ q. q == p) n ps) (sym (add-zero i))
    ∙ (shifted p i 0 ps ∙ ap (option_map (λ k. i + k)) (sym (position_from-zero (λ q. q == p) ps)))
