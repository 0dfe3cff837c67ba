-- What a cascaded value stands for, by what its value does.
use Rattle.std.proofs.Common.{◌≡◌, Option, Some, None, IfSome, option_map, refl, sym, ap, ◌∙◌}
use Rattle.css_tokens.specs.declared.wide.Wide.TheVariants.{Inherit, Initial, Unset, Revert, RevertLayer}
use Rattle.cascade_model.specs.Ending as model
use Rattle.cascade_core.specs.Rollback.{settled}
use Rattle.cascade_core.specs.CascadedValue.{cascaded_seen}
use Rattle.cascade_core.specs.SubstitutedValue.{substituted_seen}
use Rattle.cascade_core.specs.declared.cascaded_value.CascadedValue.{CascadedValue}
use Rattle.cascade_core.specs.declared.cascaded_value.CascadedValue.TheVariants as cascaded
use Rattle.cascade_core.specs.declared.substituted_value.SubstitutedValue.{SubstitutedValue}
use Rattle.cascade_core.specs.declared.substituted_value.SubstitutedValue.TheVariants.{Keyword, Value}

-- whether this is the cascaded value that a substituted value settles, if it does
abbrev Settles : {V A : Type 0} → (V → A) → SubstitutedValue V → Option (CascadedValue V) → Type 0
Settles seen s e = option_map (cascaded_seen seen) e ≡ settled (substituted_seen seen s)

module _ {V A : Type 0} (seen : V → A) where
  abbrev through : model.Ending V → model.Ending A
  through model.inherits = model.inherits
  through model.initially = model.initially
  through model.unsets = model.unsets
  through (model.ends_at value) = model.ends_at (seen value)

  of_cascaded : (e : Option (CascadedValue V)) → option_map (cascaded_seen seen) e ≡ option_map through (option_map (cascaded_seen (λ v. v)) e)
  of_cascaded None = refl
  of_cascaded (Some cascaded.Inherit) = refl
  of_cascaded (Some cascaded.Initial) = refl
  of_cascaded (Some cascaded.Unset) = refl
  of_cascaded (Some (cascaded.Value value)) = refl

  of_substituted : (s : SubstitutedValue V) → settled (substituted_seen seen s) ≡ option_map through (settled (substituted_seen (λ v. v) s))
  of_substituted (Value value) = refl
  of_substituted (Keyword Inherit) = refl
  of_substituted (Keyword Initial) = refl
  of_substituted (Keyword Unset) = refl
  of_substituted (Keyword Revert) = refl
  of_substituted (Keyword RevertLayer) = refl

  pub settled_seen : (s : SubstitutedValue V) (e : Option (CascadedValue V)) → Settles (λ v. v) s e → Settles seen s e
  settled_seen s e is = of_cascaded e ∙ (ap (option_map through) is ∙ sym (of_substituted s))

  -- if it is settled, it is the cascaded value
  pub settled_is : (end : model.Ending A) (e : Option (CascadedValue V)) → ((x : model.Ending A) → option_map (cascaded_seen seen) e ≡ Some x → x ≡ end) → IfSome e (λ x. cascaded_seen seen x ≡ end)
  settled_is end None all = tt
  settled_is end (Some e) all = all (cascaded_seen seen e) refl
