-- The law of computed values: the value of a name is told by those of the names that it refers to.
use Rattle.std.proofs.Common.{◌≡◌, ℕ, zero, suc, ◌<◌, List, length, true, false, Bool, cond, Option, Some, None, is_some, ◌⊎◌, inl, inr, ⊎_elim, refl, sym, ap, ◌∙◌, subst, arith}
use Rattle.std.specs.FinMap as finmap
use Rattle.std.proofs.lemmas.Bool.{false≢true, cond-true, cond-false}
use Rattle.base_model.specs.Text.{Characters}
use Rattle.base_model.specs.Options.{◌>>=◌}
use Rattle.custom_model.specs.Value.{CustomValue, CustomValues}
use Rattle.custom_model.specs.Expand.{Lookup, expansion}
use Rattle.custom_model.specs.Cycles.{DeclaredValues, references_of, edges, walks, is_cyclic}
use Rattle.custom_model.specs.Computed.{after_keyword, computed_by, computed_over, computed_within, computed}
use Rattle.custom_model.proofs.Among.{Among, without, without_less, among_without}
use Rattle.custom_model.proofs.WalkLemmas.{walks_edge, walks_step}
use Rattle.custom_model.proofs.CycleLemmas.{is_declared, key_among, length-keys, is_cyclic_by}
use Rattle.custom_model.proofs.ExpandLemmas.{Agree, expansion_same}

module _ (declared : DeclaredValues) (inherited : CustomValues) where
  -- what is computed for a name goes by the values of the names that it refers to, and on a cycle by none
  same_by : (values other : Lookup) (name : Characters) (o : Option (Option CustomValue)) → (is_cyclic declared name ≡ false → Agree values other (references_of o)) → computed_by declared inherited values name o ≡ computed_by declared inherited other name o
  same_by values other name None h = refl
  same_by values other name (Some None) h = refl
  same_by values other name (Some (Some tokens)) h = by (is_cyclic declared name) refl where
    after : Option CustomValue → Option CustomValue
    after result = result >>= after_keyword (finmap.get inherited name)

    by : (b : Bool) → is_cyclic declared name ≡ b → cond b None (after (expansion values tokens)) ≡ cond b None (after (expansion other tokens))
    by true e = refl
    by false e = ap after (expansion_same values other tokens (h e))

  pub computed_over_same : (values other : Lookup) (name : Characters) → (is_cyclic declared name ≡ false → Agree values other (edges declared name)) → computed_over declared inherited values name ≡ computed_over declared inherited other name
  computed_over_same values other name h = same_by values other name (finmap.get declared name) h

  -- look-ups by the number of steps, each of which goes by the one before it
  abbrev pub Steps : (ℕ → Lookup) → Type 0
  Steps values = (k : ℕ) (name : Characters) → values (suc k) name ≡ computed_over declared inherited (values k) name

  -- a name is declared, and a walk leads to it or it is where walks begin
  abbrev Covers : List Characters → Characters → Type 0
  Covers names from =
      (name : Characters) → is_some (finmap.get declared name) ≡ true → (from ≡ name) ⊎ ((k : ℕ) × (walks k (edges declared) from name ≡ true)) → Among name names

  covers_next : (names : List Characters) (from next : Characters) → is_cyclic declared from ≡ false → Among next (edges declared from) → Covers names from → Covers (without from names) next
  covers_next names from next free edge covers name known reached =
      let there : (k : ℕ) × (walks k (edges declared) from name ≡ true) =
      ⊎_elim (λ e. (1, subst (λ n. walks 1 (edges declared) from n ≡ true) e (walks_edge (edges declared) from next edge))) (λ w. (suc w.0, walks_step (edges declared) w.0 from next name edge w.1)) reached in
      among_without from name names (covers name known (inr there)) (λ e. false≢true (sym free ∙ is_cyclic_by declared there.0 from (subst (λ n. walks there.0 (edges declared) from n ≡ true) (sym e) there.1)))

  -- the values at a name are told after more steps than there are names on a walk
  agree : (values other : ℕ → Lookup) → Steps values → Steps other → (k m : ℕ) (names : List Characters) (name : Characters) → Covers names name → length names < k → length names < m → values k name ≡ other m name
  agree values other s r zero m names name covers f g = absurd (omega arith)
  agree values other s r (suc k) zero names name covers f g = absurd (omega arith)
  agree values other s r (suc k) (suc m) names name covers f g =
      s k name
      ∙ (computed_over_same (values k) (other m) name (λ free next edge.
      let less = without_less name names (covers name (is_declared declared next (finmap.get declared name) edge) (inl refl)) in
      agree values other s r k m (without name names) next (covers_next names name next free edge covers) (omega arith) (omega arith))
      ∙ sym (r m name))

  covers_all : (name : Characters) → Covers (finmap.keys declared) name
  covers_all name n known reached = key_among declared n known

  steps_agree : (values other : ℕ → Lookup) → Steps values → Steps other → (k m : ℕ) → finmap.len declared < k → finmap.len declared < m → (name : Characters) → values k name ≡ other m name
  steps_agree values other s r k m f g name =
      let n = length-keys declared in
      agree values other s r k m (finmap.keys declared) name (covers_all name) (omega arith) (omega arith)

  abbrev within : ℕ → Lookup
  within k = computed_within k declared inherited

  -- more steps than that change nothing
  pub computed-within : (k : ℕ) → finmap.len declared < k → (name : Characters) → computed declared inherited name ≡ computed_within k declared inherited name
  unfolding computed
  computed-within k l name =
      steps_agree within within (λ _ _. refl) (λ _ _. refl) (suc (finmap.len declared)) k (omega arith) l name

  -- the law of one step
  pub computed-over : (name : Characters) → computed declared inherited name ≡ computed_over declared inherited (computed declared inherited) name
  unfolding computed
  computed-over name =
      steps_agree within within (λ _ _. refl) (λ _ _. refl) (suc (finmap.len declared)) (suc (suc (finmap.len declared))) (omega arith) (omega arith) name

  -- and no other values keep it
  pub computed_only : (values : Lookup) → ((name : Characters) → values name ≡ computed_over declared inherited values name) → (name : Characters) → values name ≡ computed declared inherited name
  unfolding computed
  computed_only values law name =
      let k : ℕ = suc (finmap.len declared) in
      steps_agree (λ _. values) within (λ _ n. law n) (λ _ _. refl) k k (omega arith) (omega arith) name

  -- what is not declared is inherited
  pub computed-undeclared : (name : Characters) → finmap.get declared name ≡ None → computed declared inherited name ≡ finmap.get inherited name
  computed-undeclared name e = computed-over name ∙ ap (computed_by declared inherited (computed declared inherited) name) e

  -- what is declared to have no value has none
  pub computed-invalid : (name : Characters) → finmap.get declared name ≡ Some None → computed declared inherited name ≡ None
  computed-invalid name e = computed-over name ∙ ap (computed_by declared inherited (computed declared inherited) name) e

  module _ (name : Characters) (tokens : CustomValue) (e : finmap.get declared name ≡ Some (Some tokens)) where
    -- on a cycle is no value
    pub computed-cyclic : is_cyclic declared name ≡ true → computed declared inherited name ≡ None
    computed-cyclic c =
        computed-over name
        ∙ (ap (computed_by declared inherited (computed declared inherited) name) e ∙ cond-true (is_cyclic declared name) _ _ c)

    -- off the cycles a value is the declared one, expanded over the computed ones
    pub computed-declared : is_cyclic declared name ≡ false → computed declared inherited name ≡ (expansion (computed declared inherited) tokens >>= after_keyword (finmap.get inherited name))
    computed-declared c =
        computed-over name
        ∙ (ap (computed_by declared inherited (computed declared inherited) name) e ∙ cond-false (is_cyclic declared name) _ _ c)
