-- The edges of the graph are those of the declared names.
use Rattle.std.proofs.Common.{◌≡◌, ℕ, zero, suc, ◌+◌, ◌<◌, List, [], ◌∷◌, ◌++◌, length, get_or, Option, Some, None, is_some, ◌⊎◌, inl, inr, ⊎_elim, refl, sym, ap, subst, ◌∙◌, arith}
use Rattle.std.specs.FinMap as finmap
use Rattle.std.proofs.lemmas.Bool.{false≢true}
use Rattle.base_model.specs.Text.{Characters}
use Rattle.custom_model.specs.Cycles.{DeclaredValues, references_of, edges}
use Rattle.custom_model.proofs.Among.{Among, among_left, among_right}
use Rattle.custom_model.proofs.CycleLemmas.{is_declared}
use Rattle.cycle_search.specs.declared.mark.Edge.{Edge}
use Rattle.custom_properties.specs.Entry.{Entry}
use Rattle.css_tokens.specs.Place.{place_in}
use Rattle.custom_properties.specs.Graph.{edge_to, edges_to, edges_of, graph}
use Rattle.css_tokens.proofs.PlaceLemmas.{place_stands, no_place, value_at}

abbrev pub between : ℕ → ℕ → Edge
between from to = record { from = from; to = to }

pub among_append : {X : Type 0} (x : X) (xs ys : List X) → Among x (xs ++ ys) → Among x xs ⊎ Among x ys
among_append x [] ys m = inr m
among_append x (y ∷ xs) ys m = ⊎_elim (λ e. inl (inl e)) (λ n. ⊎_elim (λ l. inl (inr l)) (λ r. inr r) (among_append x xs ys n)) m

-- each edge to these names goes from the place to the one of a name among them
IsEdge : List Entry → ℕ → List Characters → Edge → Type 0
IsEdge all from names edge = (edge.from ≡ from) × ((name : Characters) × Among name names × (place_in all name ≡ Some edge.to))

edge_is : (all : List Entry) (from : ℕ) (names : List Characters) (edge : Edge) → Among edge (edges_to all from names) → IsEdge all from names edge
unfolding IsEdge
edge_is all from [] edge m = absurd m
edge_is all from (name ∷ names) edge m =
    ⊎_elim
    (λ l. here (place_in all name) refl l)
    (λ r. let s = edge_is all from names edge r in (s.0, (s.1.0, inr s.1.1, s.1.2)))
    (among_append edge (edge_to from (place_in all name)) (edges_to all from names) m)
  where
    here : (o : Option ℕ) → place_in all name ≡ o → Among edge (edge_to from o) → IsEdge all from (name ∷ names) edge
    here None e m = absurd m
    here (Some to) e m = ⊎_elim (λ s. (ap (λ x. x.from) s, (name, inl refl, e ∙ ap (λ x. Some x.to) (sym s)))) (λ n. absurd n) m

-- and each such name has its edge
edge_there : (all : List Entry) (from : ℕ) (names : List Characters) (name : Characters) (to : ℕ) → Among name names → place_in all name ≡ Some to → Among (between from to) (edges_to all from names)
edge_there all from [] name to m e = absurd m
edge_there all from (first ∷ names) name to m e =
    ⊎_elim
    (λ s. among_left (between from to) (edge_to from (place_in all first)) (edges_to all from names) (subst (λ o. Among (between from to) (edge_to from o)) (sym (ap (place_in all) (sym s) ∙ e)) (inl refl)))
    (λ n. among_right (between from to) (edge_to from (place_in all first)) (edges_to all from names) (edge_there all from names name to n e))
    m

-- the same of the edges of all entries from a place on
Leads : List Entry → ℕ → List Entry → Edge → Type 0
Leads all first entries edge = (k : ℕ) × (edge.from ≡ first + k) × (k < length entries)
    × ((d : Entry) → (name : Characters) × Among name (references_of (Some (get_or entries k d).1)) × (place_in all name ≡ Some edge.to))

leads_by : (all : List Entry) (first : ℕ) (entries : List Entry) (edge : Edge) → Among edge (edges_of all first entries) → Leads all first entries edge
unfolding Leads IsEdge
leads_by all first [] edge m = absurd m
leads_by all first (entry ∷ entries) edge m =
    ⊎_elim
    (λ l. let s = edge_is all first (references_of (Some entry.1)) edge l in (0, omega (arith, s.0), omega arith, λ d. s.1))
    (λ r. let s = leads_by all (suc first) entries edge r in (suc s.0, omega (arith, s.1), omega (arith, s.2), λ d. s.3 d))
    (among_append edge (edges_to all first (references_of (Some entry.1))) (edges_of all (suc first) entries) m)

leads_there : (all : List Entry) (first : ℕ) (entries : List Entry) (k to : ℕ) (name : Characters) (d : Entry) → k < length entries → Among name (references_of (Some (get_or entries k d).1)) → place_in all name ≡ Some to → Among (between (first + k) to) (edges_of all first entries)
leads_there all first [] k to name d within m e = absurd (omega arith)
leads_there all first (entry ∷ entries) zero to name d within m e =
    let same : first + 0 ≡ first = omega arith in
    subst (λ n. Among (between n to) (edges_of all first (entry ∷ entries))) (sym same)
    (among_left (between first to) (edges_to all first (references_of (Some entry.1))) (edges_of all (suc first) entries) (edge_there all first (references_of (Some entry.1)) name to m e))
leads_there all first (entry ∷ entries) (suc k) to name d within m e =
    let same : first + suc k ≡ suc first + k = omega arith in
    subst (λ n. Among (between n to) (edges_of all first (entry ∷ entries))) (sym same)
    (among_right (between (suc first + k) to) (edges_to all first (references_of (Some entry.1))) (edges_of all (suc first) entries) (leads_there all (suc first) entries k to name d (omega arith) m e))

-- the entry that stands for none
abbrev pub no_entry : Entry
no_entry = ([], None)

module _ (declared : DeclaredValues) where
  abbrev pub all_of : List Entry
  all_of = finmap.entries declared

  abbrev pub name_at : ℕ → Characters
  name_at k = (get_or all_of k no_entry).0

  -- what a name at a place is declared to be
  pub declared_at : (k : ℕ) → k < length all_of → finmap.get declared (name_at k) ≡ Some (get_or all_of k no_entry).1
  declared_at k within = finmap.get-entries declared (name_at k) ∙ value_at all_of k no_entry within (finmap.entries_sorted declared)

  pub undeclared : (name : Characters) → place_in all_of name ≡ None → finmap.get declared name ≡ None
  undeclared name none = finmap.get-entries declared name ∙ no_place all_of name none

  abbrev pub Joins : Edge → Type 0
  Joins edge = (edge.from < length all_of) × (edge.to < length all_of) × Among (name_at edge.to) (edges declared (name_at edge.from))

  -- an edge of the graph is one of the names
  pub joins : (edge : Edge) → Among edge (graph declared) → Joins edge
  unfolding Leads
  joins edge m =
      let s = leads_by all_of 0 all_of edge m in
      let from : edge.from ≡ s.0 = omega (arith, s.1) in
      let way = s.3 no_entry in
      let stands = place_stands all_of way.0 edge.to no_entry way.2 in
      let within : edge.from < length all_of = omega (arith, s.2) in (
        within,
        stands.0,
        subst (λ n. Among n (edges declared (name_at edge.from))) (sym stands.1)
            (subst (λ o. Among way.0 (references_of o)) (sym (declared_at edge.from within)) (subst (λ k. Among way.0 (references_of (Some (get_or all_of k no_entry).1))) (sym from) way.1)),
      )

  -- and each edge from a name to a declared one is in the graph
  pub joined : (from : ℕ) (name : Characters) (to : ℕ) → from < length all_of → Among name (edges declared (name_at from)) → place_in all_of name ≡ Some to → Among (between from to) (graph declared)
  joined from name to within m e =
      let same : 0 + from ≡ from = omega arith in
      subst (λ n. Among (between n to) (graph declared)) same
      (leads_there all_of 0 all_of from to name no_entry within (subst (λ o. Among name (references_of o)) (declared_at from within) m) e)

  -- an edge between names, the other one declared, is in the graph
  pub edge_in_graph : (from to : Characters) (place : ℕ) → Among to (edges declared from) → place_in all_of to ≡ Some place → (edge : Edge) × (at : ℕ) × (place_in all_of from ≡ Some at) × Among edge (graph declared) × (edge ≡ between at place)
  edge_in_graph from to place m e = by (place_in all_of from) refl
    where
      by : (o : Option ℕ) → place_in all_of from ≡ o → (edge : Edge) × (at : ℕ) × (place_in all_of from ≡ Some at) × Among edge (graph declared) × (edge ≡ between at place)
      by None none = absurd (false≢true (sym (ap is_some (undeclared from none)) ∙ is_declared declared to (finmap.get declared from) m))
      by (Some at) is =
          let stands = place_stands all_of from at no_entry is in
          (between at place, at, is, joined at to place stands.0 (subst (λ n. Among to (edges declared n)) (sym stands.1) m) e, refl)
