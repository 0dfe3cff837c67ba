-- Which names are on a cycle of what is declared, and which names are declared at all.
use Rattle.std.proofs.Common.{◌≡◌, ℕ, ◌+◌, length, true, Option, Some, None, is_some, refl, sym, ◌∙◌, subst}
use Rattle.std.specs.Ordering.{nat_cmp, eq_by_cmp}
use Rattle.std.specs.Cmp.Lexicographic.{slice_cmp}
use Rattle.std.specs.FinMap as finmap
use Rattle.std.specs.FinMap.{slice_cmp-IsAntisymmetric, nat_cmp-IsAntisymmetric}
use Rattle.std.proofs.lemmas.List.{length-map}
use Rattle.base_model.specs.Text.{Characters}
use Rattle.custom_model.specs.Value.{CustomValue}
use Rattle.custom_model.specs.Cycles.{DeclaredValues, references_of, edges, walks, is_cyclic}
use Rattle.custom_model.proofs.Among.{Among, among_any}
use Rattle.custom_model.proofs.WalkLemmas.{walks_short, walks_join}
use Rattle.base_model.proofs.Orderings.{is_equal}

pub same_key : (a b : Characters) → eq_by_cmp (slice_cmp nat_cmp) a b ≡ true → a ≡ b
same_key a b e = slice_cmp-IsAntisymmetric nat_cmp-IsAntisymmetric a b (is_equal _ e)

pub key_among : {X : Type 0} (m : finmap.FinMap (slice_cmp nat_cmp) X) (name : Characters) → is_some (finmap.get m name) ≡ true → Among name (finmap.keys m)
key_among m name e =
    let r = among_any (eq_by_cmp (slice_cmp nat_cmp) name) (finmap.keys m) (sym (finmap.contains_key-keys m name) ∙ e) in
    subst (λ n. Among n (finmap.keys m)) (sym (same_key name r.0 r.2)) r.1

pub length-keys : {X : Type 0} (m : finmap.FinMap (slice_cmp nat_cmp) X) → length (finmap.keys m) ≡ finmap.len m
length-keys m = length-map (finmap.entries m) (λ e. e.0) ∙ sym (finmap.len-entries m)

module _ (declared : DeclaredValues) where
  -- what refers to something is declared
  pub is_declared : (next : Characters) (o : Option (Option CustomValue)) → Among next (references_of o) → is_some o ≡ true
  is_declared next None m = absurd m
  is_declared next (Some o) m = refl

  -- so it is among the names that are declared
  pub edge_declared : (name next : Characters) → Among next (edges declared name) → Among name (finmap.keys declared)
  edge_declared name next m = key_among declared name (is_declared next (finmap.get declared name) m)

  -- a walk of any length gives one of at most as many edges as names are declared
  pub walks_declared : (k : ℕ) (from to : Characters) → walks k (edges declared) from to ≡ true → walks (finmap.len declared) (edges declared) from to ≡ true
  walks_declared k from to e =
      subst (λ n. walks n (edges declared) from to ≡ true) (length-keys declared) (walks_short (edges declared) (finmap.keys declared) edge_declared k from to e)

  -- a walk of any length back to a name shows a cycle
  pub is_cyclic_by : (k : ℕ) (name : Characters) → walks k (edges declared) name name ≡ true → is_cyclic declared name ≡ true
  unfolding is_cyclic
  is_cyclic_by k name e = walks_declared k name name e

  pub cyclic_walk : (name : Characters) → is_cyclic declared name ≡ true → walks (finmap.len declared) (edges declared) name name ≡ true
  unfolding is_cyclic
  cyclic_walk name e = e

  -- names that walks lead to from each other are on a cycle
  pub is_cyclic_there_and_back : (k m : ℕ) (name other : Characters) → walks k (edges declared) name other ≡ true → walks m (edges declared) other name ≡ true → is_cyclic declared name ≡ true
  is_cyclic_there_and_back k m name other e g = is_cyclic_by (k + m) name (walks_join (edges declared) k m name other name e g)
