-- For `IsTwin`: `is_twin` tells it.
use Rattle.std.proofs.Common.{◌≡◌, ◌↔◌, Bool, ℕ, List, [], ◌∷◌, true, false, ◌&&◌, Option, Some, None, refl, sym, ap, ◌∙◌}
use Rattle.std.specs.Cmp.{booleans_Decides}
use Rattle.std.specs.FinMap as finmap
use Rattle.std.proofs.lemmas.Bool.{and_parts, and_from, eqb-true, eq-eqb, false≢true}
use Rattle.std.proofs.lemmas.Slice.Eq.{bytes_eq-Decides}
use Rattle.base_model.specs.Text.{Characters, same_text}
use Rattle.base_model.proofs.Texts.{text_is_itself}
use Rattle.scene_model.specs.Element.{Element, Attributes, State, hover_state, active_state, focus_state}
use Rattle.scene_model.specs.Lookups.{is_element, parent_of, tag_of, attributes_of, state_of}
use Rattle.sharing_model.specs.Twin.{IsTwin, same_pairs, same_attributes, same_parent, same_state, same_states, is_twin}

pairs_told : (ps qs : List (Characters × Characters)) → same_pairs ps qs ≡ true → ps ≡ qs
pairs_told [] [] h = refl
pairs_told [] (q ∷ qs) h = absurd (false≢true h)
pairs_told (p ∷ ps) [] h = absurd (false≢true h)
pairs_told (p ∷ ps) (q ∷ qs) h =
    let parts = and_parts (same_text p.0 q.0 && same_text p.1 q.1) (same_pairs ps qs) h in
    let both = and_parts (same_text p.0 q.0) (same_text p.1 q.1) parts.0 in
    let same : p ≡ q = ap (λ a. (a, p.1)) ((bytes_eq-Decides p.0 q.0).0 both.0) ∙ ap (λ b. (q.0, b)) ((bytes_eq-Decides p.1 q.1).0 both.1) in
    ap (λ r. r ∷ ps) same ∙ ap (λ l. q ∷ l) (pairs_told ps qs parts.1)

pairs_same : (ps : List (Characters × Characters)) → same_pairs ps ps ≡ true
pairs_same [] = refl
pairs_same (p ∷ ps) =
    and_from (same_text p.0 p.0 && same_text p.1 p.1) (same_pairs ps ps)
    (and_from (same_text p.0 p.0) (same_text p.1 p.1) (text_is_itself p.0) (text_is_itself p.1)) (pairs_same ps)

parent_told : (o p : Option ℕ) → same_parent o p ≡ true → (q : ℕ) × (o ≡ Some q) × (p ≡ Some q)
parent_told None p h = absurd (false≢true h)
parent_told (Some q) None h = absurd (false≢true h)
parent_told (Some q) (Some r) h = (q, refl, ap Some (sym (eqb-true q r h)))

parents_same : (o p : Option ℕ) (q : ℕ) → o ≡ Some q → p ≡ Some q → same_parent o p ≡ true
parents_same o p q e f = ap (λ a. same_parent a p) e ∙ (ap (same_parent (Some q)) f ∙ eq-eqb q q refl)

module _ (doc : List Element) (y x : ℕ) where
  state_told : (state : State) → same_states doc y x ≡ true → state_of doc y state ≡ state_of doc x state
  state_told state h =
      let parts = and_parts (same_state doc y x hover_state) (same_state doc y x active_state && same_state doc y x focus_state) h in
      let rest = and_parts (same_state doc y x active_state) (same_state doc y x focus_state) parts.1 in
      told state parts.0 rest.0 rest.1
    where
      by : (s : State) → same_state doc y x s ≡ true → state_of doc y s ≡ state_of doc x s
      by s e = (booleans_Decides (state_of doc y s) (state_of doc x s)).0 e

      told : (s : State) → same_state doc y x hover_state ≡ true → same_state doc y x active_state ≡ true → same_state doc y x focus_state ≡ true
          → state_of doc y s ≡ state_of doc x s
      told hover_state e f g = by hover_state e
      told active_state e f g = by active_state f
      told focus_state e f g = by focus_state g

  pub twin_told : is_twin doc y x ≡ true → IsTwin doc y x
  twin_told h =
      let parts = and_parts (is_element doc y && is_element doc x) _ h in
      let both = and_parts (is_element doc y) (is_element doc x) parts.0 in
      let parents = and_parts (same_parent (parent_of doc y) (parent_of doc x)) _ parts.1 in
      let tags = and_parts (same_text (tag_of doc y) (tag_of doc x)) _ parents.1 in
      let rest = and_parts (same_attributes (attributes_of doc y) (attributes_of doc x)) (same_states doc y x) tags.1 in
      record {
        there = both.0;
        here = both.1;
        parent = parent_told (parent_of doc y) (parent_of doc x) parents.0;
        tag = (bytes_eq-Decides (tag_of doc y) (tag_of doc x)).0 tags.0;
        attributes = finmap.same_entries_map (attributes_of doc y) (attributes_of doc x)
            (pairs_told (finmap.entries (attributes_of doc y)) (finmap.entries (attributes_of doc x)) rest.0);
        states = λ state. state_told state rest.1;
      }

  pub twin_tells : IsTwin doc y x → is_twin doc y x ≡ true
  twin_tells t =
      let (p, e, f) = t.parent in
      let same : (s : State) → same_state doc y x s ≡ true = λ s. (booleans_Decides (state_of doc y s) (state_of doc x s)).1 (t.states s) in
      let states = and_from (same_state doc y x hover_state) _ (same hover_state) (and_from (same_state doc y x active_state) _ (same active_state) (same focus_state)) in
      let attributes : same_attributes (attributes_of doc y) (attributes_of doc x) ≡ true =
      ap (λ a. same_attributes a (attributes_of doc x)) t.attributes ∙ pairs_same (finmap.entries (attributes_of doc x)) in
      let tags : same_text (tag_of doc y) (tag_of doc x) ≡ true = (bytes_eq-Decides (tag_of doc y) (tag_of doc x)).1 t.tag in
      let parents = parents_same (parent_of doc y) (parent_of doc x) p e f in
      and_from (is_element doc y && is_element doc x) _ (and_from (is_element doc y) (is_element doc x) t.there t.here)
      (and_from (same_parent (parent_of doc y) (parent_of doc x)) _ parents (and_from (same_text (tag_of doc y) (tag_of doc x)) _ tags
      (and_from (same_attributes (attributes_of doc y) (attributes_of doc x)) (same_states doc y x) attributes states)))

-- what tells whether attributes are equal is the test of these
pub attributes_compared : (b : Bool) (m n : Attributes) → (b ≡ true) ↔ (m ≡ n) → b ≡ same_attributes m n
attributes_compared true m n told = sym (ap (λ a. same_attributes a n) (told.0 refl) ∙ pairs_same (finmap.entries n))
attributes_compared false m n told = by (same_attributes m n) refl
  where
    by : (b : Bool) → same_attributes m n ≡ b → false ≡ b
    by false e = refl
    by true e = told.1 (finmap.same_entries_map m n (pairs_told (finmap.entries m) (finmap.entries n) e))
