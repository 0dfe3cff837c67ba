-- The places of a graph from which walks lead to a place, step by step.
use Rattle.std.proofs.Common.{◌≡◌, ℕ, zero, suc, ◌+◌, ◌<◌, ◌==◌, List, length, replicate, Bool, true, false, ◌||◌}
use Rattle.std.proofs.Common.{Option, Some, None, ⊎_elim, refl, sym, ap, subst, ◌∙◌, arith}
use Rattle.std.specs.FinMap as finmap
use Rattle.std.specs.List.{list_any}
use Rattle.std.proofs.lemmas.Bool.{false≢true, and_from, and_parts, or_cases, or_left, or_right, eq-eqb, eqb-true}
use Rattle.std.proofs.lemmas.List.{length-replicate, get_or-replicate}
use Rattle.base_model.specs.Text.{Characters, same_text}
use Rattle.custom_model.specs.Cycles.{DeclaredValues, references_of, edges, walks, is_cyclic}
use Rattle.custom_model.proofs.Among.{Among, any_among, among_any, text_is}
use Rattle.custom_properties.specs.Graph.{graph}
use Rattle.css_tokens.specs.Place.{place_in}
use Rattle.custom_properties.specs.Plain.{AreNext, arrives, flag_at, leads}
use Rattle.css_tokens.proofs.PlaceLemmas.{place_stands, place_of_name}
use Rattle.custom_properties.proofs.GraphLemmas.{all_of, name_at, no_entry, between, undeclared, joins, joined}
use Rattle.base_model.proofs.Texts.{text_is_itself}

both_ways : (a b : Bool) → (a ≡ true → b ≡ true) → (b ≡ true → a ≡ true) → a ≡ b
both_ways true b f g = sym (f refl)
both_ways false true f g = g refl
both_ways false false f g = refl

-- the places from which a walk of so many edges at most leads to a place
pub record AreAfter (declared : DeclaredValues) (to k : ℕ) (reach : List Bool) : Type 0 where
  pub long : length reach ≡ length (all_of declared)
  pub each : (a : ℕ) → a < length (all_of declared)
      → flag_at reach a ≡ walks k (edges declared) (name_at declared a) (name_at declared to)

module _ (declared : DeclaredValues) (to : ℕ) where
  abbrev name : ℕ → Characters
  name = name_at declared

  abbrev count : ℕ
  count = length (all_of declared)

  pub after_none : AreAfter declared to 0 (replicate count false)
  after_none = record {
    long = length-replicate count false;
    each = λ a within. get_or-replicate count a false false within;
  }

  -- whether a walk of one edge more goes on by a name
  abbrev passes : ℕ → Characters → Bool
  passes k next = same_text next (name to) || walks k (edges declared) next (name to)

  -- a name that is not declared leads nowhere
  nowhere : (k : ℕ) (from : Characters) → finmap.get declared from ≡ None
      → walks k (edges declared) from (name to) ≡ false
  nowhere zero from e = refl
  nowhere (suc k) from e = ap (λ o. list_any (passes k) (references_of o)) e

  module _ (k : ℕ) (reach : List Bool) (h : AreAfter declared to k reach) (a : ℕ) (within : a < count) where
    abbrev IsNext : Type 0
    IsNext = list_any (leads to reach a) (graph declared) ≡ true

    forward : IsNext → list_any (passes k) (edges declared (name a)) ≡ true
    forward e =
        let r = among_any (leads to reach a) (graph declared) e in
        let p = and_parts _ _ r.2 in
        let j = joins declared r.0 r.1 in
        let from : r.0.from ≡ a = eqb-true _ _ p.0 in
        any_among (passes k) (name r.0.to) (edges declared (name a))
        (subst (λ n. Among (name r.0.to) (edges declared (name n))) from j.2)
        (⊎_elim
        (λ s. or_left _ _ (itself r.0.to s))
        (λ w. or_right _ _ (sym (h.each r.0.to j.1) ∙ w))
        (or_cases _ _ p.1))
      where
        itself : (place : ℕ) → (place == to) ≡ true → same_text (name place) (name to) ≡ true
        itself place s =
            subst (λ n. same_text (name n) (name to) ≡ true) (sym (eqb-true place to s)) (text_is_itself (name to))

    there : (place : ℕ) → Among (between a place) (graph declared) → arrives to reach (between a place) ≡ true → IsNext
    there place m e =
        any_among (leads to reach a) (between a place) (graph declared) m (and_from _ _ (eq-eqb a a refl) e)

    -- an edge to the place
    here : to < count → Among (name to) (edges declared (name a)) → IsNext
    here inside m =
        let at = place_of_name (all_of declared) to no_entry inside (finmap.entries_sorted declared) in
        there to (joined declared a (name to) to within m at) (or_left _ _ (eq-eqb to to refl))

    -- one to another name, from which a walk goes on
    onward : (next : Characters) → Among next (edges declared (name a)) → (o : Option ℕ)
        → place_in (all_of declared) next ≡ o → walks k (edges declared) next (name to) ≡ true → IsNext
    onward next m None e w = absurd (false≢true (sym (nowhere k next (undeclared declared next e)) ∙ w))
    onward next m (Some place) e w =
        let stands = place_stands (all_of declared) next place no_entry e in
        let more = subst (λ n. walks k (edges declared) n (name to) ≡ true) (sym stands.1) w in
        there place (joined declared a next place within m e) (or_right _ _ (h.each place stands.0 ∙ more))

    back : to < count → list_any (passes k) (edges declared (name a)) ≡ true → IsNext
    back inside e =
        let r = among_any (passes k) (edges declared (name a)) e in
        ⊎_elim
        (λ s. here inside (subst (λ n. Among n (edges declared (name a))) (text_is r.0 (name to) s) r.1))
        (λ w. onward r.0 r.1 (place_in (all_of declared) r.0) refl w)
        (or_cases _ _ r.2)

    step : to < count → list_any (leads to reach a) (graph declared) ≡ walks (suc k) (edges declared) (name a) (name to)
    step inside = both_ways _ _ forward (back inside)

  pub after_more : to < count → (k : ℕ) (reach next : List Bool) → AreAfter declared to k reach
      → AreNext (graph declared) to reach next → AreAfter declared to (k + 1) next
  after_more inside k reach next h new =
      let more : k + 1 ≡ suc k = omega arith in
      record {
        long = new.long ∙ h.long;
        each = λ a within.
            new.each a (omega (arith, h.long))
            ∙ (step k reach h a within inside ∙ ap (λ n. walks n (edges declared) (name a) (name to)) (sym more));
      }

  -- after as many steps as names are declared
  pub after_all : to < count → (k : ℕ) (reach : List Bool) → k ≡ count → AreAfter declared to k reach
      → flag_at reach to ≡ is_cyclic declared (name to)
  unfolding is_cyclic
  after_all inside k reach all h =
      let many : k ≡ finmap.len declared = all ∙ sym (finmap.len-entries declared) in
      h.each to inside ∙ ap (λ n. walks n (edges declared) (name to) (name to)) many
