-- The lists of one node that insertions put in, as they are made one by one.
use Rattle.std.proofs.Common.{◌≡◌, ℕ, ◌+◌, ◌*◌, ◌<◌, ◌==◌, Bool, true, false, List, [], ◌∷◌, ◌++◌, ◌⊎◌, inl, inr, Option, None, Some, length, slice_get, slice_set, refl, sym, ap, subst, ◌∙◌, arith}
use Rattle.std.proofs.lemmas.Bool.{eqb-true, eqb-false}
use Rattle.std.proofs.lemmas.List.{length-set, length_push}
use Rattle.std.proofs.lemmas.Option.{none-some, same_Some, slice_get_within}
use Rattle.base_model.proofs.Lists.{get_push_below, get_push_last}
use Rattle.scene_model.specs.Nodes.{Node}
use Rattle.dom_tree.proofs.Places.{get_set_other, get_set_same}
use Rattle.job_json.specs.Gen.{inserted_node}
use Rattle.job_json.specs.Insertions.{AreInsertions}

-- one list more is made

pub insertions-set : (made : List (Option (List Node))) (tag class : ℕ) (nodes : List Node) → class < 16 → tag * 16 + class < length made → nodes ≡ inserted_node tag class ∷ [] → AreInsertions made → AreInsertions (slice_set made (tag * 16 + class) (Some nodes))
insertions-set made tag class nodes below within is are = record {
  room = length-set made (tag * 16 + class) (Some nodes) ∙ are.room;
  right = λ t k other small at. one t k other small at (tag * 16 + class == t * 16 + k) refl;
} where
  one : (t k : ℕ) (other : List Node) → k < 16 → slice_get (slice_set made (tag * 16 + class) (Some nodes)) (t * 16 + k) ≡ Some (Some other) → (b : Bool) → (tag * 16 + class == t * 16 + k) ≡ b → other ≡ inserted_node t k ∷ []
  one t k other small at true e =
      let place : tag * 16 + class ≡ t * 16 + k = eqb-true (tag * 16 + class) (t * 16 + k) e in
      let tags : tag ≡ t = omega (arith, place, below, small) in
      let classes : class ≡ k = omega (arith, place, tags) in
      let here : slice_get (slice_set made (tag * 16 + class) (Some nodes)) (tag * 16 + class) ≡ Some (Some other) = ap (slice_get (slice_set made (tag * 16 + class) (Some nodes))) place ∙ at in
      let same : Some nodes ≡ Some other = same_Some (Some nodes) (Some other) (sym (get_set_same made (tag * 16 + class) (Some nodes) within) ∙ here) in
      sym (same_Some nodes other same) ∙ (is ∙ (ap (λ x. inserted_node x class ∷ []) tags ∙ ap (λ x. inserted_node t x ∷ []) classes))
  one t k other small at false e =
      are.right t k other small (sym (get_set_other made (tag * 16 + class) (t * 16 + k) (Some nodes) (eqb-false (tag * 16 + class) (t * 16 + k) e)) ∙ at)

-- no list is made yet, in so many places
pub record AreUnmade (places : ℕ) (made : List (Option (List Node))) : Type 0 where
  pub room : length made ≡ places
  pub none : (i : ℕ) (nodes : List Node) → slice_get made i ≡ Some (Some nodes) → ⊥

pub unmade-none : AreUnmade 0 []
unmade-none = record { room = refl; none = λ i nodes at. none-some (Some nodes) at }

pub unmade-push : (places : ℕ) (made more : List (Option (List Node))) → more ≡ made ++ None ∷ [] → AreUnmade places made → AreUnmade (places + 1) more
unmade-push places made more is are = subst (AreUnmade (places + 1)) (sym is) (record {
  room = length_push made None ∙ ap (λ n. n + 1) are.room;
  none = λ i nodes at. by i nodes at (below_or_last i (slice_get_within (made ++ None ∷ []) i (Some nodes) at));
}) where
  below_or_last : (i : ℕ) → i < length (made ++ None ∷ []) → (i < length made) ⊎ (i ≡ length made)
  below_or_last i within = grind (arith, length_push made None)

  by : (i : ℕ) (nodes : List Node) → slice_get (made ++ None ∷ []) i ≡ Some (Some nodes) → (i < length made) ⊎ (i ≡ length made) → ⊥
  by i nodes at (inl below) = are.none i nodes (sym (get_push_below made i None below) ∙ at)
  by i nodes at (inr last) = none-some nodes (same_Some None (Some nodes) (sym (get_push_last made i None last) ∙ at))

pub insertions-none : (made : List (Option (List Node))) → AreUnmade 64 made → AreInsertions made
insertions-none made are = record {
  room = are.room;
  right = λ t k nodes small at. absurd (are.none (t * 16 + k) nodes at);
}
