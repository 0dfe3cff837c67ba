-- The order of layers: no layer stands in it twice.
use Rattle.std.proofs.Common.{◌≡◌, ℕ, zero, suc, ◌≤◌, true, List, [], ◌∷◌, ◌++◌, inl, inr, filter, flat_map, length, refl, sym, ap, ◌∙◌, subst, arith, append_assoc, append-nil, length-append}
use Rattle.std.proofs.lemmas.Bool.{false≢true, and_parts, and_from}
use Rattle.layer_model.specs.Name.{Part, LayerName, same_part}
use Rattle.layer_model.specs.Order.{is_known, is_directly_in, below}
use Rattle.layer_model.proofs.Names.{same_part-Decides, same_part-refl}
use Rattle.layer_model.proofs.Known.{known-one, known-either, known-left, known-right, known-first, known-flat, flat-known, known-filter, filter-known, StandOnce, StandOnce-append, StandOnce-filter}

-- a name goes through another, or is it
pub record IsWithin (outer name : LayerName) : Type 0 where
  pub rest : LayerName
  pub is : name ≡ outer ++ rest

-- what is directly in a name has one part more
pub record IsNext (outer name : LayerName) : Type 0 where
  pub part : Part
  pub is : name ≡ outer ++ part ∷ []

pub next_of : (outer name : LayerName) → is_directly_in outer name ≡ true → IsNext outer name
next_of [] [] h = absurd (false≢true h)
next_of [] (p ∷ []) h = record { part = p; is = refl }
next_of [] (p ∷ q ∷ name) h = absurd (false≢true h)
next_of (a ∷ outer) [] h = absurd (false≢true h)
next_of (a ∷ outer) (b ∷ name) h =
    let parts = and_parts (same_part a b) (is_directly_in outer name) h in
    let first = (same_part-Decides a b).0 parts.0 in
    let rest = next_of outer name parts.1 in
    record { part = rest.part; is = ap (λ n. b ∷ n) rest.is ∙ ap (λ p. p ∷ (outer ++ rest.part ∷ [])) (sym first) }

pub directly_next : (outer : LayerName) (part : Part) → is_directly_in outer (outer ++ part ∷ []) ≡ true
directly_next [] part = refl
directly_next (a ∷ outer) part =
    and_from (same_part a a) (is_directly_in outer (outer ++ part ∷ [])) (same_part-refl a) (directly_next outer part)

-- all that is below a name goes through it
pub below-within : (levels : ℕ) (all : List LayerName) (outer name : LayerName) → is_known (below levels all outer) name ≡ true → IsWithin outer name
below-within zero all outer name h = record { rest = []; is = known-one outer name h ∙ sym (append-nil outer) }
below-within (suc levels) all outer name h =
    let inside = filter (is_directly_in outer) all in
    elim (known-either (flat_map (below levels all) inside) (outer ∷ []) name h) [
      | inl k ↦
          let of = flat-known (below levels all) inside name k in
          let next = next_of outer of.by (known-filter (is_directly_in outer) all of.by of.there).1 in
          let deep = below-within levels all of.by name of.known in
          record { rest = next.part ∷ deep.rest; is = deep.is ∙ (ap (λ n. n ++ deep.rest) next.is ∙ append_assoc outer (next.part ∷ []) deep.rest) }
      | inr k ↦ record { rest = []; is = known-one outer name k ∙ sym (append-nil outer) }
    ]

-- where a name goes through two next ones, they are one
same_next : (outer : LayerName) (p q : Part) (a b : LayerName) → (outer ++ p ∷ []) ++ a ≡ (outer ++ q ∷ []) ++ b → p ≡ q
same_next [] p q a b h = cc
same_next (r ∷ outer) p q a b h = same_next outer p q a b cc

one_next : (outer c d name : LayerName) → IsNext outer c → IsNext outer d → IsWithin c name → IsWithin d name → c ≡ d
one_next outer c d name x y v w =
    let e = sym (ap (λ n. n ++ v.rest) x.is) ∙ (sym v.is ∙ (w.is ∙ ap (λ n. n ++ w.rest) y.is)) in
    let p = same_next outer x.part y.part v.rest w.rest e in
    x.is ∙ (ap (λ q. outer ++ q ∷ []) p ∙ sym y.is)

-- nothing below a next name is the name itself
pub not_below_next : (outer c : LayerName) → IsNext outer c → IsWithin c outer → ⊥
not_below_next outer c x w =
    let e = ap (length {A = Part}) (w.is ∙ ap (λ n. n ++ w.rest) x.is) in
    let a = length-append (outer ++ x.part ∷ []) w.rest in
    let b = length-append outer (x.part ∷ []) in
    omega arith

once_flat : (levels : ℕ) (all : List LayerName) (outer : LayerName) → ((c : LayerName) → StandOnce (below levels all c)) → (cs : List LayerName) → StandOnce cs → ((c : LayerName) → is_known cs c ≡ true → IsNext outer c) → StandOnce (flat_map (below levels all) cs)
once_flat levels all outer each [] once next = tt
once_flat levels all outer each (c ∷ cs) once next =
    let rest = once_flat levels all outer each cs once.1 (λ d k. next d (later d k)) in
    StandOnce-append (below levels all c) (flat_map (below levels all) cs) (each c) rest (λ name here there.
    let of = flat-known (below levels all) cs name there in
    let v = below-within levels all c name here in
    let w = below-within levels all of.by name of.known in
    let e = one_next outer c of.by name (next c (known-first c cs)) (next of.by (later of.by of.there)) v w in
    false≢true (sym once.0 ∙ (ap (is_known cs) e ∙ of.there)))
  where
    later : (d : LayerName) → is_known cs d ≡ true → is_known (c ∷ cs) d ≡ true
    later d k = known-right (c ∷ []) cs d k

-- no name stands twice below another
pub once-below : (levels : ℕ) (all : List LayerName) → StandOnce all → (outer : LayerName) → StandOnce (below levels all outer)
once-below zero all once outer = (refl, tt)
once-below (suc levels) all once outer =
    let inside = filter (is_directly_in outer) all in
    let next = λ (c : LayerName) (k : is_known inside c ≡ true). next_of outer c (known-filter (is_directly_in outer) all c k).1 in
    let flat = once_flat levels all outer (once-below levels all once) inside (StandOnce-filter (is_directly_in outer) all once) next in
    StandOnce-append (flat_map (below levels all) inside) (outer ∷ []) flat (refl, tt) (λ name k one.
    let of = flat-known (below levels all) inside name k in
    let w = below-within levels all of.by name of.known in
    not_below_next outer of.by (next of.by of.there) (subst (IsWithin of.by) (known-one outer name one) w))

-- the name itself is last
pub itself-below : (levels : ℕ) (all : List LayerName) (name : LayerName) → is_known (below levels all name) name ≡ true
itself-below zero all name = known-first name []
itself-below (suc levels) all name =
    known-right (flat_map (below levels all) (filter (is_directly_in name) all)) (name ∷ []) name (known-first name [])

-- each further step of a name is in the list
abbrev pub HasSteps : List LayerName → LayerName → LayerName → Type 0
HasSteps all outer [] = Unit {0}
HasSteps all outer (part ∷ rest) =
    (is_known all (outer ++ part ∷ []) ≡ true) × HasSteps all (outer ++ part ∷ []) rest

-- what is in a name, with no more levels than are walked, is below it
pub known-below : (levels : ℕ) (all : List LayerName) (outer rest : LayerName) → HasSteps all outer rest → length rest ≤ levels → is_known (below levels all outer) (outer ++ rest) ≡ true
known-below levels all outer [] steps few =
    ap (is_known (below levels all outer)) (append-nil outer) ∙ itself-below levels all outer
known-below zero all outer (part ∷ rest) steps few = absurd (omega arith)
known-below (suc levels) all outer (part ∷ rest) steps few =
    let next = outer ++ part ∷ [] in
    let inside = filter (is_directly_in outer) all in
    let there = filter-known (is_directly_in outer) all next steps.0 (directly_next outer part) in
    let deep = known-below levels all next rest steps.1 (omega arith) in
    let flat = known-flat (below levels all) inside next (next ++ rest) there deep in
    ap (is_known (below (suc levels) all outer)) (sym (append_assoc outer (part ∷ []) rest))
    ∙ known-left (flat_map (below levels all) inside) (outer ∷ []) (next ++ rest) flat
