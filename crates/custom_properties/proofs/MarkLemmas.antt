-- What the check of the marks shows: which names are on cycles, and that what the others refer to is of a lower group.
use Rattle.std.proofs.Common.{◌≡◌, ℕ, zero, suc, ◌+◌, ◌<◌, ◌≤◌, List, [], ◌∷◌, length, Bool, true, false, Option, Some, None, slice_get, nat_eq, ◌⊎◌, inl, inr, ⊎_elim, refl, sym, ap, subst, ◌∙◌, arith}
use Rattle.std.specs.FinMap as finmap
use Rattle.std.specs.List.{list_all}
use Rattle.std.proofs.lemmas.Bool.{false≢true, and_parts, or_cases, false_from_ne_true, eqb-true, ltb-true, cond-true, cond-false}
use Rattle.std.proofs.lemmas.Option.{none-some, same_Some, slice_get_within, get_or_from_slice_get}
use Rattle.base_model.specs.Text.{Characters}
use Rattle.custom_model.specs.Cycles.{DeclaredValues, edges, walks, is_cyclic}
use Rattle.custom_model.proofs.Among.{Among}
use Rattle.custom_model.proofs.WalkLemmas.{Walk, walk_of, walks_edge, walks_step, walks_join}
use Rattle.custom_model.proofs.CycleLemmas.{cyclic_walk, is_cyclic_there_and_back}
use Rattle.cycle_search.specs.declared.mark.Edge.{Edge}
use Rattle.cycle_search.specs.declared.mark.Mark.{Mark}
use Rattle.cycle_search.specs.Confirmed.{AreConfirmed, falls_from, falls, nears, goes_on, comes_by, arrives, stands, holds}
use Rattle.css_tokens.specs.Place.{place_in}
use Rattle.custom_properties.specs.Graph.{graph}
use Rattle.css_tokens.proofs.PlaceLemmas.{place_of_name}
use Rattle.custom_properties.proofs.GraphLemmas.{all_of, name_at, joins, edge_in_graph, no_entry}

among_slice : {X : Type 0} (xs : List X) (k : ℕ) (x : X) → slice_get xs k ≡ Some x → Among x xs
among_slice [] k x e = absurd (none-some x e)
among_slice (y ∷ xs) zero x e = inl (sym (same_Some y x e))
among_slice (y ∷ xs) (suc k) x e = inr (among_slice xs k x e)

all_among : {X : Type 0} (p : X → Bool) (xs : List X) (x : X) → list_all p xs ≡ true → Among x xs → p x ≡ true
all_among p [] x all m = absurd m
all_among p (y ∷ xs) x all m =
    let parts = and_parts (p y) (list_all p xs) all in
    ⊎_elim (λ e. ap p e ∙ parts.0) (λ n. all_among p xs x parts.1 n) m

module _ (declared : DeclaredValues) (marks : List Mark) (order : List ℕ) (confirmed : AreConfirmed (graph declared) marks order) where
  abbrev leads : Characters → List Characters
  leads = edges declared

  abbrev name : ℕ → Characters
  name = name_at declared

  -- the mark of a place
  abbrev At : ℕ → Mark → Type 0
  At place mark = slice_get marks place ≡ Some mark

  holds_at : (place : ℕ) (mark : Mark) → At place mark → holds (graph declared) marks order place mark ≡ true
  holds_at place mark at =
      subst (λ m. holds (graph declared) marks order place m ≡ true) (get_or_from_slice_get marks place mark mark at)
      (confirmed.each place mark (slice_get_within marks place mark at))

  -- the steps of a walk on to the head
  Onward : ℕ → Mark → Type 0
  Onward place mark = (to : ℕ) × (next : Mark) × At to next × Among (name to) (leads (name place))
      × (next.is_cyclic ≡ true) × (next.head ≡ mark.head) × ((to ≡ mark.head) ⊎ (next.onward_rank < mark.onward_rank))

  onward : (place : ℕ) (mark : Mark) → (o : Option Edge) → slice_get (graph declared) mark.onward ≡ o → goes_on marks place mark o ≡ true → Onward place mark
  unfolding Onward
  onward place mark None e h = absurd (false≢true h)
  onward place mark (Some edge) e h = by (slice_get marks edge.to) refl (parts.1)
    where
      parts : (nat_eq edge.from place ≡ true) × (nears mark edge.to (slice_get marks edge.to) ≡ true)
      parts = and_parts _ _ h

      edge_of : Among (name edge.to) (leads (name place))
      edge_of = subst (λ n. Among (name edge.to) (leads (name n))) (eqb-true edge.from place parts.0) (joins declared edge (among_slice (graph declared) mark.onward edge e)).2

      by : (m : Option Mark) → slice_get marks edge.to ≡ m → nears mark edge.to m ≡ true → Onward place mark
      by None at k = absurd (false≢true k)
      by (Some next) at k =
          let one = and_parts _ _ k in
          let two = and_parts _ _ one.1 in
          (edge.to, next, at, edge_of, one.0, eqb-true _ _ two.0, ⊎_elim (λ s. inl (eqb-true _ _ s)) (λ s. inr (ltb-true _ _ s)) (or_cases _ _ two.1))

  -- and of one that comes from it
  Arrival : ℕ → Mark → Type 0
  Arrival place mark = (from : ℕ) × (last : Mark) × At from last × Among (name place) (leads (name from))
      × (last.is_cyclic ≡ true) × (last.head ≡ mark.head) × ((from ≡ mark.head) ⊎ (last.arrival_rank < mark.arrival_rank))

  arrival : (place : ℕ) (mark : Mark) → (o : Option Edge) → slice_get (graph declared) mark.arrival ≡ o → arrives marks place mark o ≡ true → Arrival place mark
  unfolding Arrival
  arrival place mark None e h = absurd (false≢true h)
  arrival place mark (Some edge) e h = by (slice_get marks edge.from) refl (parts.1)
    where
      parts : (nat_eq edge.to place ≡ true) × (comes_by mark edge.from (slice_get marks edge.from) ≡ true)
      parts = and_parts _ _ h

      edge_of : Among (name place) (leads (name edge.from))
      edge_of = subst (λ n. Among (name n) (leads (name edge.from))) (eqb-true edge.to place parts.0) (joins declared edge (among_slice (graph declared) mark.arrival edge e)).2

      by : (m : Option Mark) → slice_get marks edge.from ≡ m → comes_by mark edge.from m ≡ true → Arrival place mark
      by None at k = absurd (false≢true k)
      by (Some last) at k =
          let one = and_parts _ _ k in
          let two = and_parts _ _ one.1 in
          (edge.from, last, at, edge_of, one.0, eqb-true _ _ two.0, ⊎_elim (λ s. inl (eqb-true _ _ s)) (λ s. inr (ltb-true _ _ s)) (or_cases _ _ two.1))

  ring : (place : ℕ) (mark : Mark) → At place mark → mark.is_cyclic ≡ true → (goes_on marks place mark (slice_get (graph declared) mark.onward) ≡ true) × (arrives marks place mark (slice_get (graph declared) mark.arrival) ≡ true)
  ring place mark at cyclic = and_parts _ _ (sym (cond-true mark.is_cyclic _ _ cyclic) ∙ holds_at place mark at)

  -- a walk
  Goes : Characters → Characters → Type 0
  Goes from to = (k : ℕ) × (walks k leads from to ≡ true)

  to_head : (most : ℕ) (place : ℕ) (mark : Mark) → mark.onward_rank < most → At place mark → mark.is_cyclic ≡ true → Goes (name place) (name mark.head)
  unfolding Goes Onward
  to_head zero place mark below at cyclic = absurd (omega arith)
  to_head (suc most) place mark below at cyclic =
      let step = onward place mark (slice_get (graph declared) mark.onward) refl (ring place mark at cyclic).0 in
      ⊎_elim
      (λ e. (1, walks_edge leads (name place) (name mark.head) (subst (λ n. Among (name n) (leads (name place))) e step.3)))
      (λ l. let rest = to_head most step.0 step.1 (omega (arith, l)) step.2 step.4 in
      (suc rest.0, walks_step leads rest.0 (name place) (name step.0) (name mark.head) step.3 (subst (λ n. walks rest.0 leads (name step.0) (name n) ≡ true) step.5 rest.1)))
      step.6

  from_head : (most : ℕ) (place : ℕ) (mark : Mark) → mark.arrival_rank < most → At place mark → mark.is_cyclic ≡ true → Goes (name mark.head) (name place)
  unfolding Goes Arrival
  from_head zero place mark below at cyclic = absurd (omega arith)
  from_head (suc most) place mark below at cyclic =
      let step = arrival place mark (slice_get (graph declared) mark.arrival) refl (ring place mark at cyclic).1 in
      ⊎_elim
      (λ e. (1, walks_edge leads (name mark.head) (name place) (subst (λ n. Among (name place) (leads (name n))) e step.3)))
      (λ l. let rest = from_head most step.0 step.1 (omega (arith, l)) step.2 step.4 in
      (rest.0 + 1, walks_join leads rest.0 1 (name mark.head) (name step.0) (name place) (subst (λ n. walks rest.0 leads (name n) (name step.0) ≡ true) step.5 rest.1) (walks_edge leads (name step.0) (name place) step.3)))
      step.6

  -- a name that is marked so is on a cycle
  pub marked_cyclic : (place : ℕ) (mark : Mark) → slice_get marks place ≡ Some mark → mark.is_cyclic ≡ true → is_cyclic declared (name place) ≡ true
  unfolding Goes
  marked_cyclic place mark at cyclic =
      let there = to_head (suc mark.onward_rank) place mark (omega arith) at cyclic in
      let back = from_head (suc mark.arrival_rank) place mark (omega arith) at cyclic in
      is_cyclic_there_and_back declared there.0 back.0 (name place) (name mark.head) there.1 back.1

  -- the other names

  Falls : Mark → Mark → Type 0
  Falls from to = (to.group < from.group) ⊎ ((from.is_cyclic ≡ true) × (to.group ≤ from.group))

  Falls-trans : (a b c : Mark) → Falls a b → Falls b c → Falls a c
  unfolding Falls
  Falls-trans a b c f g =
      ⊎_elim
      (λ l. inl (⊎_elim (λ m. omega (arith, l, m)) (λ m. omega (arith, l, m.1)) g))
      (λ l. ⊎_elim (λ m. inl (omega (arith, l.1, m))) (λ m. inr (l.0, omega (arith, l.1, m.1))) g)
      f

  -- the mark of a name
  Marked : Characters → Mark → Type 0
  Marked text mark = (place : ℕ) × (place_in (all_of declared) text ≡ Some place) × At place mark

  falling : (from to : Option Mark) → falls_from from to ≡ true → (a : Mark) × (b : Mark) × (from ≡ Some a) × (to ≡ Some b) × Falls a b
  unfolding Falls
  falling None to e = absurd (false≢true e)
  falling (Some a) None e = absurd (false≢true e)
  falling (Some a) (Some b) e =
      (a, b, refl, refl, ⊎_elim (λ l. inl (ltb-true _ _ l)) (λ s. let p = and_parts _ _ s in let same = eqb-true _ _ p.1 in inr (p.0, omega arith)) (or_cases _ _ e))

  -- along an edge between declared names the group falls
  edge_falls : (from to : Characters) (place : ℕ) → Among to (leads from) → place_in (all_of declared) to ≡ Some place → (a : Mark) × (b : Mark) × Marked from a × Marked to b × Falls a b
  unfolding Marked
  edge_falls from to place m e =
      let way = edge_in_graph declared from to place m e in
      let r = falling (slice_get marks way.0.from) (slice_get marks way.0.to) (all_among (falls marks) (graph declared) way.0 confirmed.fall way.3) in
      (r.0, r.1, (way.1, way.2, ap (λ (x : Edge). slice_get marks x.from) (sym way.4) ∙ r.2), (place, e, ap (λ (x : Edge). slice_get marks x.to) (sym way.4) ∙ r.3), r.4)

  at_same : (text : Characters) (a b : Mark) → Marked text a → Marked text b → a ≡ b
  unfolding Marked
  at_same text a b m n =
      same_Some a b (sym m.2 ∙ (ap (slice_get marks) (same_Some m.0 n.0 (sym m.1 ∙ n.1)) ∙ n.2))

  -- so it does along a walk
  walk_falls : (from : Characters) (via : List Characters) (to : Characters) (place : ℕ) → place_in (all_of declared) to ≡ Some place → Walk leads from via to → (a : Mark) × (b : Mark) × Marked from a × Marked to b × Falls a b
  unfolding Marked
  walk_falls from [] to place e w = edge_falls from to place w e
  walk_falls from (next ∷ via) to place e w =
      let rest = walk_falls next via to place e w.1 in
      let first = edge_falls from next rest.2.0 w.0 rest.2.1 in
      (first.0, rest.1, first.2, rest.3, Falls-trans first.0 rest.0 rest.1 (subst (λ m. Falls first.0 m) (at_same next first.1 rest.0 first.3 rest.2) first.4) rest.4)

  -- the mark of a place is that of its name
  marked_at : (place : ℕ) (mark : Mark) → place < length (all_of declared) → At place mark → Marked (name place) mark
  unfolding Marked
  marked_at place mark within at = (place, place_of_name (all_of declared) place no_entry within (finmap.entries_sorted declared), at)

  no_return : (mark : Mark) → mark.is_cyclic ≡ false → Falls mark mark → ⊥
  unfolding Falls
  no_return mark free f = ⊎_elim (λ l. omega (arith, l)) (λ s. false≢true (sym free ∙ s.0)) f

  -- a name that is not marked so is on none
  pub marked_free : (place : ℕ) (mark : Mark) → place < length (all_of declared) → slice_get marks place ≡ Some mark → mark.is_cyclic ≡ false → is_cyclic declared (name place) ≡ false
  marked_free place mark within at free = false_from_ne_true (is_cyclic declared (name place)) (λ cyclic.
      let here = marked_at place mark within at in
      let walk = walk_of leads (finmap.len declared) (name place) (name place) (cyclic_walk declared (name place) cyclic) in
      let r = walk_falls (name place) walk.0 (name place) place (place_of_name (all_of declared) place no_entry within (finmap.entries_sorted declared)) walk.2 in
      no_return mark free (subst (λ m. Falls m mark) (at_same (name place) r.0 mark r.2 here) (subst (λ m. Falls r.0 m) (at_same (name place) r.1 mark r.3 here) r.4)))

  -- what it refers to is of a lower group
  pub refers_lower : (place : ℕ) (mark : Mark) (text : Characters) (to : ℕ) → place < length (all_of declared) → slice_get marks place ≡ Some mark → mark.is_cyclic ≡ false → Among text (leads (name place)) → place_in (all_of declared) text ≡ Some to → (next : Mark) × (slice_get marks to ≡ Some next) × (next.group < mark.group)
  unfolding Falls Marked
  refers_lower place mark text to within at free m e =
      let r = edge_falls (name place) text to m e in
      let own : r.0 ≡ mark = at_same (name place) r.0 mark r.2 (marked_at place mark within at) in
      let same : r.3.0 ≡ to = same_Some r.3.0 to (sym r.3.1 ∙ e) in
      (r.1, subst (λ k. slice_get marks k ≡ Some r.1) same r.3.2, ⊎_elim (λ l. subst (λ (x : Mark). r.1.group < x.group) own l) (λ s. absurd (false≢true (sym free ∙ subst (λ (x : Mark). x.is_cyclic ≡ true) own s.0))) r.4)

  -- and it stands at its group in the order
  pub stands_in_order : (place : ℕ) (mark : Mark) → slice_get marks place ≡ Some mark → mark.is_cyclic ≡ false → slice_get order mark.group ≡ Some place
  stands_in_order place mark at free = by (slice_get order mark.group) refl (sym (cond-false mark.is_cyclic _ _ free) ∙ holds_at place mark at)
    where
      by : (o : Option ℕ) → slice_get order mark.group ≡ o → stands place o ≡ true → slice_get order mark.group ≡ Some place
      by None e h = absurd (false≢true h)
      by (Some other) e h = e ∙ ap Some (eqb-true other place h)
