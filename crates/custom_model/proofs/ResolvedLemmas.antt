-- What an element's custom properties are is what is computed for each name.
use Rattle.std.proofs.Common.{◌≡◌, List, [], ◌∷◌, Bool, true, false, cond, Option, Some, None, is_some, ◌⊎◌, inl, inr, ⊎_elim, refl, sym, ap, ◌∙◌}
use Rattle.std.specs.Ordering.{nat_cmp, eq_by_cmp, is_eq}
use Rattle.std.specs.Cmp.Lexicographic.{slice_cmp}
use Rattle.std.specs.FinMap as finmap
use Rattle.std.proofs.lemmas.Bool.{false≢true}
use Rattle.std.proofs.lemmas.Cmp.{nat_list_cmp_total, tied_itself}
use Rattle.base_model.specs.Text.{Characters}
use Rattle.custom_model.specs.Value.{CustomValue, CustomValues}
use Rattle.custom_model.specs.Expand.{Lookup}
use Rattle.custom_model.specs.Cycles.{DeclaredValues}
use Rattle.custom_model.specs.Computed.{computed_over, computed, with_value, with_all, resolved}
use Rattle.custom_model.proofs.Among.{Among}
use Rattle.custom_model.proofs.CycleLemmas.{key_among, same_key}
use Rattle.custom_model.proofs.ComputedLemmas.{computed-over, computed-undeclared, computed_over_same}

abbrev is_key : Characters → Characters → Bool
is_key = eq_by_cmp (slice_cmp nat_cmp)

with_value-get : (name : Characters) (value : Option CustomValue) (values : CustomValues) (q : Characters) → finmap.get (with_value name value values) q ≡ cond (is_key q name) value (finmap.get values q)
with_value-get name None values q = finmap.get-remove nat_list_cmp_total values name q
with_value-get name (Some value) values q = finmap.get-insert nat_list_cmp_total values name value q

-- a name that is among these has the new value, and each other one keeps its own
pub with_all-get : (value : Lookup) (names : List Characters) (values : CustomValues) (q : Characters) → Among q names ⊎ (finmap.get values q ≡ value q) → finmap.get (with_all value names values) q ≡ value q
with_all-get value [] values q h = ⊎_elim (λ m. absurd m) (λ e. e) h
with_all-get value (name ∷ names) values q h =
    with_value-get name (value name) (with_all value names values) q ∙ by (is_key q name) refl (λ k. with_all-get value names values q k) where
      by : (b : Bool) → is_key q name ≡ b → (Among q names ⊎ (finmap.get values q ≡ value q) → finmap.get (with_all value names values) q ≡ value q) → cond b (value name) (finmap.get (with_all value names values) q) ≡ value q
      by true e rest = ap value (sym (same_key q name e))
      by false e rest = rest (⊎_elim (λ m. ⊎_elim (λ s. absurd (false≢true (sym e ∙ (ap (is_key q) (sym s) ∙ ap is_eq (tied_itself nat_list_cmp_total q))))) (λ k. inl k) m) (λ k. inr k) h)

module _ (declared : DeclaredValues) (inherited : CustomValues) where
  pub resolved-get : (name : Characters) → finmap.get (resolved declared inherited) name ≡ computed declared inherited name
  unfolding resolved
  resolved-get name = with_all-get (computed declared inherited) (finmap.keys declared) inherited name (by (finmap.get declared name) refl) where
    by : (o : Option (Option CustomValue)) → finmap.get declared name ≡ o → Among name (finmap.keys declared) ⊎ (finmap.get inherited name ≡ computed declared inherited name)
    by None e = inr (sym (computed-undeclared declared inherited name e))
    by (Some o) e = inl (key_among declared name (ap is_some e))

  -- the law of one step, of the map
  pub resolved-over : (name : Characters) → finmap.get (resolved declared inherited) name ≡ computed_over declared inherited (finmap.get (resolved declared inherited)) name
  resolved-over name =
      resolved-get name ∙ (computed-over declared inherited name ∙ computed_over_same declared inherited (computed declared inherited) (finmap.get (resolved declared inherited)) name (λ _ n _. sym (resolved-get n)))

  -- a map that keeps the law is the one
  pub resolved_only : (values : CustomValues) → ((name : Characters) → finmap.get values name ≡ computed declared inherited name) → values ≡ resolved declared inherited
  resolved_only values h =
      finmap.same_map nat_list_cmp_total (finmap.slice_cmp-IsAntisymmetric finmap.nat_cmp-IsAntisymmetric) values (resolved declared inherited) (λ q. h q ∙ sym (resolved-get q))
