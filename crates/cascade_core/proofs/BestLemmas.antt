-- The cascaded value of each property, by its winner.
use Rattle.std.proofs.Common.{◌≡◌, Bool, true, false, ◌||◌, is_some, refl, ℕ, List, [], ◌∷◌, ◌++◌, Some, None, filter, sym, ap, ◌∙◌}
use Rattle.std.proofs.lemmas.List.Folds.{list_any-append}
use Rattle.std.proofs.lemmas.Option.{none-some, same_Some}
use Rattle.std.proofs.Math.Bool.{or-false}
use Rattle.cascade_model.specs.Key.{Matched}
use Rattle.cascade_model.specs.Winner.{winner, declares_longhand}
use Rattle.syntax_model.specs.Wide.{inherit, initial, unset, revert, revert_layer}
use Rattle.cascade_model.specs.Custom.{custom_name}
use Rattle.cascade_model.specs.Ending.{Ending, unsets, Meaning, keyword, value, ending_of, ending_on}
use Rattle.cascade_model.proofs.EndingLemmas.{ending_of-step}
use Rattle.cascade_core.specs.Rollback.{settled}
use Rattle.value_model.specs.Value.{Value}
use Rattle.sheet_model.specs.Declared.{Given, longhand}
use Rattle.cascade_core.specs.Names.{name_of}
use Rattle.cascade_core.specs.Won.{won, have_custom}

-- The cascaded value of a property is the value of its winner.
module _ (means : Given → Meaning Value) where
  abbrev ended : List Matched → ℕ → Ending Value
  ended ds p = ending_of means (filter (declares_longhand p) ds)

  -- where the winner does not take the cascade back, that is all
  settled_on : (again : List Matched → Ending Value) (ds : List Matched) (w : Matched) (meaning : Meaning Value) (end : Ending Value) → settled meaning ≡ Some end → end ≡ ending_on again ds w meaning
  settled_on again ds w (keyword inherit) end is = sym (same_Some _ _ is)
  settled_on again ds w (keyword initial) end is = sym (same_Some _ _ is)
  settled_on again ds w (keyword unset) end is = sym (same_Some _ _ is)
  settled_on again ds w (keyword revert) end is = absurd (none-some end is)
  settled_on again ds w (keyword revert_layer) end is = absurd (none-some end is)
  settled_on again ds w (value given) end is = sym (same_Some _ _ is)

  pub settled_at : (ds : List Matched) (p : ℕ) (w : Matched) (end : Ending Value) → won ds p ≡ Some w → settled (means w.given) ≡ Some end → end ≡ ended ds p
  unfolding winner
  settled_at ds p w end is ends =
      rw (ending_of-step means (filter (declares_longhand p) ds), is)
      (settled_on (ending_of means) (filter (declares_longhand p) ds) w (means w.given) end ends)

  pub unset_at : (ds : List Matched) (p : ℕ) → won ds p ≡ None → unsets ≡ ended ds p
  unfolding winner
  unset_at ds p is = rw (ending_of-step means (filter (declares_longhand p) ds), is)

or-true : (b : Bool) → (b || true) ≡ true
or-true true = refl
or-true false = refl

-- a declaration of a property changes nothing for custom ones
pub still_custom : (ds : List Matched) (d : Matched) (p : ℕ) → d.target ≡ longhand p → have_custom (ds ++ d ∷ []) ≡ have_custom ds
still_custom ds d p target =
    list_any-append (λ e. is_some (name_of e)) ds (d ∷ [])
    ∙ (ap (λ t. have_custom ds || (is_some (custom_name t) || false)) target ∙ or-false (have_custom ds))

-- and one of a custom property is one
pub custom_added : (ds : List Matched) (d : Matched) → is_some (name_of d) ≡ true → have_custom (ds ++ d ∷ []) ≡ true
custom_added ds d named =
    list_any-append (λ e. is_some (name_of e)) ds (d ∷ [])
    ∙ (ap (λ b. have_custom ds || (b || false)) named ∙ or-true (have_custom ds))
