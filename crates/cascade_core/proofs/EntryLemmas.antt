-- A declaration as those of its longhands.
use Rattle.std.proofs.Common.{◌≡◌, ℕ, ◌+◌, ◌==◌, true, false, cond, List, [], ◌∷◌, filter, map, length, is_some, add-zero, refl, sym, ap, ◌∙◌, ⊎_elim}
use Rattle.std.specs.List.{list_any, range_with_len}
use Rattle.std.proofs.lemmas.Bool.{cases_Bool, eq-eqb, true≢false}
use Rattle.sheet_model.specs.Declared.{longhand}
use Rattle.value_model.specs.Shorthand.{longhands_of}
use Rattle.value_model.specs.Table.{table}
use Rattle.cascade_model.specs.Key as model
use Rattle.cascade_model.specs.Winner.{declares_longhand}
use Rattle.property_table.specs.View.{property_of}
use Rattle.shorthands.specs.View.{declared_as, declared_longhands, target_longhands, short_of, targets_of, place_in, offset_of}
use Rattle.shorthands.specs.declared.declared.Target.{Target}
use Rattle.shorthands.specs.declared.declared.Target.TheVariants.{Longhand, Shorthand, Custom}
use Rattle.shorthands.specs.declared.short.Short.TheVariants.{Margin, Padding, BorderWidth, BorderStyle, BorderColor, Overflow, All}
use Rattle.cascade_core.specs.Names.{name_of}
use Rattle.cascade_core.specs.View.{all_applied, entry_of, for_target, head_of, is_among, is_custom_target, is_of_custom, lent_of, name_seen}
use Rattle.cascade_core.specs.declared.matched.LentMatched.{LentMatched}
use Rattle.cascade_core.proofs.CountLemmas.{counted, counted_by, are_distinct, filter-distinct}

-- the places of the properties in their order, each of which stands once

pub places : (target : Target) → map (place_in (target_longhands target)) (target_longhands target) ≡ range_with_len 0 (length (target_longhands target))
unfolding table
places (Longhand id) =
    let same : (property_of id == property_of id) ≡ true = eq-eqb (property_of id) (property_of id) refl in
    rw same refl
places (Shorthand Margin) = refl
places (Shorthand Padding) = refl
places (Shorthand BorderWidth) = refl
places (Shorthand BorderStyle) = refl
places (Shorthand BorderColor) = refl
places (Shorthand Overflow) = refl
places (Shorthand All) = refl
places (Custom name) = refl

pub distinct : (target : Target) → are_distinct (target_longhands target) ≡ true
unfolding table
distinct (Longhand id) = refl
distinct (Shorthand Margin) = refl
distinct (Shorthand Padding) = refl
distinct (Shorthand BorderWidth) = refl
distinct (Shorthand BorderStyle) = refl
distinct (Shorthand BorderColor) = refl
distinct (Shorthand Overflow) = refl
distinct (Shorthand All) = refl
distinct (Custom name) = refl

abbrev at_count : LentMatched → ℕ → ℕ → model.Matched
at_count d index property = for_target (longhand property) index d

applied-counted : (d : LentMatched) (i : ℕ) (ids : List ℕ) → all_applied d.priority i (map (declared_as d.declared.now) (map longhand ids)) ≡ counted (at_count d) i ids
applied-counted d i [] = refl
applied-counted d i (id ∷ ids) = ap (λ l. at_count d i id ∷ l) (applied-counted d (i + 1) ids)

-- but for custom properties the targets are the longhands
targets : (t : Target) → is_custom_target t ≡ false → targets_of t ≡ map longhand (target_longhands t)
targets (Longhand id) h = refl
targets (Shorthand short) h = refl
targets (Custom name) h = absurd (true≢false h)

-- so many declarations, of the longhands
pub matched_longhands : (d : LentMatched) → is_of_custom d ≡ false → lent_of d ≡ map (λ p. entry_of p d) (declared_longhands d.declared.now)
matched_longhands d h =
    ap (λ l. all_applied d.priority d.priority.index (map (declared_as d.declared.now) l)) (targets d.declared.now.target h)
    ∙ (applied-counted d d.priority.index (declared_longhands d.declared.now)
    ∙ (ap (λ n. counted (at_count d) n (declared_longhands d.declared.now)) (sym (add-zero d.priority.index))
    ∙ counted_by (at_count d) (offset_of d.declared.now) d.priority.index 0 (declared_longhands d.declared.now) (places d.declared.now.target)))

-- those of a target
abbrev applied_to : LentMatched → Target → List model.Matched
applied_to d target = all_applied d.priority d.priority.index (map (declared_as d.declared.now) (targets_of target))

-- or one of a custom property
pub matched_custom : (d : LentMatched) → is_of_custom d ≡ true → lent_of d ≡ head_of d ∷ []
matched_custom d h = by_target d.declared.now.target h
  where
    by_target : (target : Target) → is_custom_target target ≡ true → applied_to d target ≡ for_target (name_seen target) d.priority.index d ∷ []
    by_target (Longhand id) h = absurd (true≢false (sym h))
    by_target (Shorthand short) h = absurd (true≢false (sym h))
    by_target (Custom name) h = refl

-- of those, one is of a property that is among them

module _ (p : ℕ) (d : LentMatched) where
  of_custom : (target : Target) → is_custom_target target ≡ true → filter (declares_longhand p) (applied_to d target) ≡ cond (list_any (λ q. q == p) (target_longhands target)) (entry_of p d ∷ []) []
  of_custom (Longhand id) h = absurd (true≢false (sym h))
  of_custom (Shorthand short) h = absurd (true≢false (sym h))
  of_custom (Custom name) h = refl

  pub of_property : filter (declares_longhand p) (lent_of d) ≡ cond (is_among p d) (entry_of p d ∷ []) []
  of_property =
      let one = filter-distinct (declares_longhand p) (λ q. entry_of q d) p (λ q. refl) (declared_longhands d.declared.now) (distinct d.declared.now.target) in
      ⊎_elim
      (λ (custom : is_of_custom d ≡ true). of_custom d.declared.now.target custom)
      (λ (other : is_of_custom d ≡ false). rw (matched_longhands d other) one)
      (cases_Bool (is_of_custom d))

-- and all are of custom properties, or none

none_named : (d : LentMatched) (i : ℕ) (ids : List ℕ) → filter (λ e. is_some (name_of e)) (all_applied d.priority i (map (declared_as d.declared.now) (map longhand ids))) ≡ []
none_named d i [] = refl
none_named d i (id ∷ ids) = none_named d (i + 1) ids

pub of_customs : (d : LentMatched) → filter (λ e. is_some (name_of e)) (lent_of d) ≡ cond (is_of_custom d) (head_of d ∷ []) []
of_customs d = by_target d.declared.now.target
  where
    by_target : (target : Target) → filter (λ e. is_some (name_of e)) (applied_to d target) ≡ cond (is_custom_target target) (for_target (name_seen target) d.priority.index d ∷ []) []
    by_target (Longhand id) = refl
    by_target (Shorthand short) = none_named d d.priority.index (longhands_of (short_of short))
    by_target (Custom name) = refl
